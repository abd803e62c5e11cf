-- What stands before the opcode of a canonical encoding.
use Rattle.std.proofs.Common.{◌≡◌, ◌+◌, ◌≤◌, ◌||◌, ◌&&◌, nat_le, if◌then◌else◌, Some, None, Bool}
use Rattle.std.proofs.Common.{true, false, List, length, refl, arith}
use Rattle.std.specs.Prelude.{IfSome}
use Rattle.erim_defs.specs.declared.grammar.Lead.{Lead}
use Rattle.erim_defs.specs.Encoding.Parts.{AreBytes}
use Rattle.erim_defs.specs.Encoding.Grammar.{rex_bytes, lead_of, prefix_lead, with_f3, with_rex}
use Rattle.erim_defs.specs.Encoding.Grammar.{rex_bits, is_rex, is_prefix, every}
use Rattle.erim_defs.specs.Encoding.Canonical.{lock_bytes, bit_value, rex_byte, rex_of}
use Rattle.std.proofs.lemmas.Bool.{le-leb}
use Rattle.encoding_laws.proofs.LineLemmas.{both_true}
use Rattle.erim_defs.proofs.TableLemmas.{bools, by_bools}

abbrev pub lead : Bool → Bool → Bool → Bool → Bool → Bool → Lead
lead lock asked w r x b =
    record {
      skip = length (lock_bytes lock) + length (rex_bytes (rex_of asked w r x b));
      lock = lock;
      size_prefix = false;
      f3 = false;
      rex =
          record { any = asked || w || r || x || b; w = w; r = r; x = x; b = b };
    }

abbrev four : {A : Type 0} → (Bool → Bool → Bool → Bool → A) → List (List (List (List A)))
four f = bools (λ w. bools (λ r. bools (λ x. bools (λ b. f w r x b))))

four_is : {A : Type 0} (f g : Bool → Bool → Bool → Bool → A) → four f ≡ four g → (w r x b : Bool)
    → f w r x b ≡ g w r x b
four_is f g e w r x b =
    by_bools (λ b. f w r x b) (λ b. g w r x b)
    (by_bools (λ x. bools (λ b. f w r x b)) (λ x. bools (λ b. g w r x b))
    (by_bools (λ r. bools (λ x. bools (λ b. f w r x b))) (λ r. bools (λ x. bools (λ b. g w r x b)))
    (by_bools (λ w. bools (λ r. bools (λ x. bools (λ b. f w r x b))))
    (λ w. bools (λ r. bools (λ x. bools (λ b. g w r x b)))) e w) r) x) b

pub lead_is : (lock asked w r x b : Bool)
    → lead_of (lock_bytes lock) false (rex_of asked w r x b) ≡ lead lock asked w r x b
unfolding lock_bytes bit_value rex_byte rex_of prefix_lead with_f3 with_rex rex_bits
lead_is true true = four_is (λ w r x b. lead_of (lock_bytes true) false (rex_of true w r x b))
    (λ w r x b. lead true true w r x b) refl
lead_is true false = four_is (λ w r x b. lead_of (lock_bytes true) false (rex_of false w r x b))
    (λ w r x b. lead true false w r x b) refl
lead_is false true = four_is (λ w r x b. lead_of (lock_bytes false) false (rex_of true w r x b))
    (λ w r x b. lead false true w r x b) refl
lead_is false false = four_is (λ w r x b. lead_of (lock_bytes false) false (rex_of false w r x b))
    (λ w r x b. lead false false w r x b) refl

pub prefixes_are : (lock : Bool) → every is_prefix (lock_bytes lock) ≡ true
unfolding lock_bytes is_prefix
prefixes_are true = refl
prefixes_are false = refl

pub lock_are : (lock : Bool) → AreBytes (lock_bytes lock) × length (lock_bytes lock) ≤ 1
unfolding lock_bytes
lock_are true = ((omega arith, tt), omega arith)
lock_are false = (tt, omega arith)

number_low : (w r x b : Bool) → (64 ≤ rex_byte w r x b) × (rex_byte w r x b ≤ 79)
unfolding rex_byte bit_value
number_low w r x b = (grind arith, grind arith)

pub rex_is : (asked w r x b : Bool) → IfSome (rex_of asked w r x b) (λ n. is_rex n ≡ true)
unfolding rex_of is_rex
rex_is asked w r x b = by_test (asked || w || r || x || b)
  where
    by_test : (t : Bool) → IfSome (if t then Some (rex_byte w r x b)
        else None) (λ n. (nat_le 0x40 n && nat_le n 0x4F) ≡ true)
    by_test true = let l = number_low w r x b in
        both_true (nat_le 0x40 (rex_byte w r x b)) (nat_le (rex_byte w r x b) 0x4F)
        (le-leb 0x40 (rex_byte w r x b) l.0) (le-leb (rex_byte w r x b) 0x4F l.1)
    by_test false = tt

pub rex_are : (asked w r x b : Bool)
    → AreBytes (rex_bytes (rex_of asked w r x b)) × length (rex_bytes (rex_of asked w r x b)) ≤ 1
unfolding rex_of
rex_are asked w r x b = by_test (asked || w || r || x || b)
  where
    by_test : (t : Bool) → AreBytes (rex_bytes (if t then Some (rex_byte w r x b) else None))
        × length (rex_bytes (if t then Some (rex_byte w r x b) else None)) ≤ 1
    by_test true = let l = number_low w r x b in ((omega (arith, l), tt), omega arith)
    by_test false = (tt, omega arith)
