-- What an execution on a memory that holds part of the pages says of other memories. Own: of a
-- memory, only the bytes that were looked at and the rights of their pages have a say in what comes
-- of an execution.
use Rattle.std.specs.Prelude.{◌≡◌, ◌≢◌, ℕ, ◌/◌, true, Option, Some, None, Ok, List, [], ◌∷◌}
use Rattle.erim_defs.specs.declared.machine.Rights.{Rights}
use Rattle.erim_defs.specs.declared.machine.Access.TheVariants.{Missing}
use Rattle.erim_defs.specs.Machine.Pages.{RightsMap, ByteMap, published_code, code_bytes}
use Rattle.erim_defs.specs.Machine.Access.{Seen, whole}
use Rattle.erim_defs.specs.Machine.Plan.{Plan, Effect, Stopped, effect}
use Rattle.page_store.specs.Answers.{fetch_of}
use Rattle.page_store.specs.Notes.{NoteMap, Notes, looked_fetch}
use Rattle.x86_step.specs.Looked.{looked_addresses}

-- ---- two memories that agree

-- What is asked of another memory at an address, by what both say of its page and the byte there:
-- nothing where the page isn't held; that it isn't mapped there either, where it isn't mapped; the
-- same rights and the same byte where it is mapped.
abbrev pub AgreesAt : Option (Option Rights) → Option (Option Rights) → ℕ → ℕ → Type 0
AgreesAt None other byte other_byte = Unit {0}
AgreesAt (Some None) other byte other_byte = other ≡ Some None
AgreesAt (Some (Some r)) other byte other_byte = (other ≡ Some (Some r)) × (other_byte ≡ byte)

-- another memory agrees at each of these addresses
abbrev pub Agree : Seen → ByteMap → Seen → ByteMap → List ℕ → Type 0
Agree seen bytes other other_bytes [] = Unit {0}
Agree seen bytes other other_bytes (x ∷ xs) =
    AgreesAt (seen (x / 4096)) (other (x / 4096)) (bytes x) (other_bytes x)
    × Agree seen bytes other other_bytes xs

-- another memory agrees at all noted addresses
abbrev pub AgreesOn : NoteMap → Seen → ByteMap → Seen → ByteMap → Type 0
AgreesOn notes seen bytes other other_bytes = (x : ℕ) → notes x ≡ true
    → AgreesAt (seen (x / 4096)) (other (x / 4096)) (bytes x) (other_bytes x)

-- ---- instructions

-- no page was missing
abbrev pub NoneMissing : Effect → Type 0
NoneMissing e = (q : ℕ) → e ≢ Stopped (Missing q)

-- unless a page is missing, what comes of an instruction comes of it on every memory that agrees on
-- what it looked at
abbrev pub Boundary : Type 0
Boundary = (p : Plan) (seen : Seen) (bytes : ByteMap) (other : Seen) (other_bytes : ByteMap)
    (pkru rip : ℕ)
    → NoneMissing (effect p seen bytes pkru rip)
    → Agree seen bytes other other_bytes (looked_addresses p seen bytes pkru)
    → effect p other other_bytes pkru rip ≡ effect p seen bytes pkru rip

-- and on every memory that agrees at all noted addresses, where what it looked at was noted
abbrev pub NotedBoundary : Type 0
NotedBoundary = (p : Plan) (seen : Seen) (bytes : ByteMap) (other : Seen) (other_bytes : ByteMap)
    (pkru rip : ℕ) (old notes : NoteMap)
    → NoneMissing (effect p seen bytes pkru rip)
    → Notes seen old notes (looked_addresses p seen bytes pkru)
    → AgreesOn notes seen bytes other other_bytes
    → effect p other other_bytes pkru rip ≡ effect p seen bytes pkru rip

-- ---- fetches

-- the bytes that a fetch finds are found on every memory that agrees on what it looked at
abbrev pub FetchBoundary : Type 0
FetchBoundary = (seen : Seen) (bytes : ByteMap) (other : Seen) (other_bytes : ByteMap) (a n : ℕ)
    (code : List ℕ)
    → fetch_of seen bytes a n ≡ Ok code
    → Agree seen bytes other other_bytes (looked_fetch seen a n)
    → fetch_of other other_bytes a n ≡ Ok code

-- and on every memory that agrees at all noted addresses, where what it looked at was noted
abbrev pub NotedFetchBoundary : Type 0
NotedFetchBoundary = (seen : Seen) (bytes : ByteMap) (other : Seen) (other_bytes : ByteMap)
    (a n : ℕ) (code : List ℕ) (old notes : NoteMap)
    → fetch_of seen bytes a n ≡ Ok code
    → Notes seen old notes (looked_fetch seen a n)
    → AgreesOn notes seen bytes other other_bytes
    → fetch_of other other_bytes a n ≡ Ok code

-- where the other memory holds every page, they are the bytes that are published there
abbrev pub WholeFetchBoundary : Type 0
WholeFetchBoundary = (seen : Seen) (bytes : ByteMap) (rights : RightsMap) (other_bytes : ByteMap)
    (a n : ℕ) (code : List ℕ)
    → fetch_of seen bytes a n ≡ Ok code
    → Agree seen bytes (whole rights) other_bytes (looked_fetch seen a n)
    → code_bytes (published_code rights other_bytes) a n ≡ code
