-- Lists of seats.
use Rattle.std.specs.Prelude.{ℕ, ◌+◌, ◌==◌, ◌&&◌, Bool, true, List, [], ◌∷◌}
use Rattle.publish_lock.specs.SeatValue.{SeatValue}

-- their numbers rise by one from the given one on, and none of them has made a step or has a mark
abbrev pub are_new : ℕ → List SeatValue → Bool
are_new first [] = true
are_new first (seat ∷ seats) =
    (seat.number == first) && (seat.steps == 0) && (seat.mark == 0) && are_new (first + 1) seats
