-- The share that a seat holds of its worker's steps: whose it is, its amount and its parts.
use Rattle.std.specs.Prelude.{ℕ, Bool, true, false}
use Rattle.publish_lock.specs.declared.ledgers.Held.{Held}
use Rattle.publish_lock.specs.declared.ledgers.Held.TheVariants.{One, Two, Three, Four, Five}
use Rattle.publish_lock.specs.declared.ledgers.Held.TheVariants.{Six, Seven, Eight}

abbrev pub number_of : {A1 A2 A3 A4 A5 A6 A7 A8 : Type 0} → Held A1 A2 A3 A4 A5 A6 A7 A8 → ℕ
number_of (One share) = 1
number_of (Two share) = 2
number_of (Three share) = 3
number_of (Four share) = 4
number_of (Five share) = 5
number_of (Six share) = 6
number_of (Seven share) = 7
number_of (Eight share) = 8

abbrev pub amount_of : {A1 A2 A3 A4 A5 A6 A7 A8 : Type 0} → Held A1 A2 A3 A4 A5 A6 A7 A8 → ℕ
amount_of (One share) = share.amount
amount_of (Two share) = share.amount
amount_of (Three share) = share.amount
amount_of (Four share) = share.amount
amount_of (Five share) = share.amount
amount_of (Six share) = share.amount
amount_of (Seven share) = share.amount
amount_of (Eight share) = share.amount

abbrev pub parts_of : {A1 A2 A3 A4 A5 A6 A7 A8 : Type 0} → Held A1 A2 A3 A4 A5 A6 A7 A8 → ℕ
parts_of (One share) = share.parts
parts_of (Two share) = share.parts
parts_of (Three share) = share.parts
parts_of (Four share) = share.parts
parts_of (Five share) = share.parts
parts_of (Six share) = share.parts
parts_of (Seven share) = share.parts
parts_of (Eight share) = share.parts

abbrev pub mark_of : Bool → ℕ
mark_of true = 1
mark_of false = 0
