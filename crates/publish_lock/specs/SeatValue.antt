-- What contracts see of a seat: its worker's number, the steps of its turns, and its mark.
use Rattle.std.specs.Prelude.{ℕ}

pub record SeatValue : Type 0 where
  pub number : ℕ
  pub steps : ℕ
  -- not 0 only where the process is over
  pub mark : ℕ
