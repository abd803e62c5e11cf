-- What is decided at an exec fault, and the window of code that decides it. Own.
use Rattle.std.specs.Prelude.{◌≡◌, ℕ, ◌+◌, ◌*◌, ◌-◌, ◌<◌, ◌≤◌, Option, Some, None, Bool, List}
use Rattle.std.specs.Prelude.{slice_index, nat_lt, if◌then◌else◌}
use Rattle.erim_defs.specs.declared.found.Found.{Found}
use Rattle.erim_defs.specs.declared.machine.Rights.{Rights}
use Rattle.erim_defs.specs.Inspection.Code.{Code}
use Rattle.erim_defs.specs.Machine.Pages.{ByteMap, published_rights, taken_back_rights}
use Rattle.exec_fault.specs.declared.answer.Verdict.{Verdict}
use Rattle.exec_fault.specs.declared.answer.Verdict.TheVariants.{Publish, Refuse}

-- by the first unsafe sequence of the code with the page
abbrev pub verdict_of : Option Found → Verdict
verdict_of None = Publish
verdict_of (Some found) = Refuse found

-- a page that is mapped is published
abbrev pub published_page : Option Rights → Option Rights
published_page None = None
published_page (Some rights) = Some (published_rights rights)

-- a page that is mapped takes its publication back
abbrev pub taken_back_page : Option Rights → Option Rights
taken_back_page None = None
taken_back_page (Some rights) = Some (taken_back_rights rights)

-- two codes have the same bytes on page q, and on the 64 before and after it
abbrev pub AgreesNear : Code → Code → ℕ → Type 0
AgreesNear c d q = (a : ℕ) → 4096 * q ≤ a + 64 → a < 4096 * q + 4160 → c a ≡ d a

-- a window holds the bytes of page q, and of the pages beside it
pub record HoldsPages (xs : List ℕ) (bytes : ByteMap) (q : ℕ) : Type 0 where
  pub before : (i : ℕ) → i < 4096 → slice_index xs i ≡ bytes (4096 * (q - 1) + i)
  pub page : (i : ℕ) → i < 4096 → slice_index xs (4096 + i) ≡ bytes (4096 * q + i)
  pub behind : (i : ℕ) → i < 4096 → slice_index xs (8192 + i) ≡ bytes (4096 * (q + 1) + i)

-- where the code of a window begins and ends in it, and its address: the page before is a part of
-- it or not, and so is the page after
abbrev pub window_start : Bool → ℕ
window_start before = if before then 0 else 4096

abbrev pub window_end : Bool → ℕ
window_end behind = if behind then 12288 else 8192

abbrev pub window_base : ℕ → Bool → ℕ
window_base q before = if before then 4096 * q - 4096 else 4096 * q

-- from where on it is scanned
abbrev pub window_from : Bool → ℕ
window_from before = if before then 4032 else 0

-- what a scan of the window found, if it begins before the page's end
abbrev pub on_page : ℕ → Option Found → Option Found
on_page q None = None
on_page q (Some o) = if nat_lt o.at (4096 * q + 4096) then Some o else None
