-- A plan of a command: which files it loads in turn, and what it answers by their bytes. Own.
use Rattle.std.specs.Prelude.{ℕ, nat_lt, Option, Some, None, List, length, if◌then◌else◌}
use Rattle.erim_io.specs.Store.{Name, Files}

-- A is what stands at a plan's end
pub data Plan (A : Type 0) : Type 0 where
  -- loads the file of a name; where it has more bytes than the limit, the plan ends
  Ask : (name : Name) (limit : ℕ) (too_large : A) → (List ℕ → Plan A) → Plan A
  -- ends
  Tell : A → Plan A

-- the plan ends where there is a cause, and goes on where there is none
abbrev pub unless : {A B : Type 0} → Option B → (B → A) → Plan A → Plan A
unless None ends next = next
unless (Some cause) ends next = Tell (ends cause)

-- by the bytes of a file
abbrev pub on_file : {A : Type 0} → ℕ → A → Option (List ℕ) → (List ℕ → Option A) → Option A
on_file limit too_large None next = None
on_file limit too_large (Some bytes) next =
    if nat_lt limit (length bytes) then Some too_large else next bytes

-- where a plan ends over these files; nowhere where one that it loads isn't there
unfoldable pub end_of : {A : Type 0} → Plan A → Files → Option A
end_of (Ask name limit too_large next) files =
    on_file limit too_large (files name) (λ bytes. end_of (next bytes) files)
end_of (Tell a) files = Some a
