-- The bytes of a code from an address on. Own.
use Rattle.std.specs.Prelude.{◌≡◌, ℕ, ◌+◌, ◌<◌, ◌≤◌, Some, None, length, slice_index}
use Rattle.erim_defs.specs.Inspection.Code.{Code}
use Rattle.copy_layout.specs.declared.front.Front.{Front}

-- as far as they are there, 8 at most
pub record IsFront (c : Code) (a : ℕ) (f : Front) : Type 0 where
  pub few : f.len ≤ 8
  pub room : length f.bytes ≡ 8
  pub there : (k : ℕ) → k < f.len → c (a + k) ≡ Some (slice_index f.bytes k)
  pub behind : f.len < 8 → c (a + f.len) ≡ None
