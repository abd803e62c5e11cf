-- Where a plan's steps end over files that are said.
use Rattle.std.proofs.Common.{◌≡◌, ◌⊎◌, List, length, ℕ, Option, Some, None, Bool, true, false}
use Rattle.std.proofs.Common.{refl, inl, inr}
use Rattle.std.specs.Prelude.{◌≤◌, nat_lt}
use Rattle.std.proofs.lemmas.Bool.{ltb-false}
use Rattle.erim_io.specs.Store.{Name, Files}
use Rattle.erim_defs.specs.Encoding.Parts.{AreBytes}
use Rattle.erim_commands.specs.Replies.{Answer}
use Rattle.erim_commands.specs.Plans.{Plan, unless, on_file, end_of}
use Rattle.erim_commands.specs.Commands.{Format, refusal_answer, with_file}
use Rattle.erim_commands.specs.Promises.{reading_refusal}
use Rattle.erim_commands.proofs.PlanLemmas.{LoadsBytes}

pub some_is : {A : Type 0} (a b : A) → Some a ≡ Some b → b ≡ a
some_is a b e = cc

-- there was a cause, for which the plan ended, or it went on
abbrev pub Stops : {B : Type 0} → Option B → (B → Answer) → Plan Answer → Files → Answer → Type 0
Stops {B = B} cause ends next files a =
    ((b : B) × (cause ≡ Some b) × (a ≡ ends b))
    ⊎ ((cause ≡ None) × (end_of next files ≡ Some a))

-- a file was there, and had a fault, which was said, or was read and the plan went on
abbrev pub IsRead : {X : Type 0} → Format X → Name → (X → Plan Answer) → Files → Answer → Type 0
IsRead format name next files a =
    (bytes : List ℕ) × (files name ≡ Some bytes)
    × Stops (reading_refusal format bytes) (refusal_answer format.status) (next
    (format.value bytes)) files a

pub unless_end : {B : Type 0} (cause : Option B) (ends : B → Answer) (next : Plan Answer)
    (files : Files) (a : Answer) → end_of (unless cause ends next) files ≡ Some a
    → Stops cause ends next files a
unfolding end_of
unless_end None ends next files a end = inr (refl, end)
unless_end (Some b) ends next files a end = inl (b, refl, some_is _ _ end)

-- what the plan goes on with where there is no cause
pub unless_goes : {B : Type 0} (cause : Option B) (ends : B → Answer) (next : Plan Answer)
    (files : Files) → cause ≡ None → end_of (unless cause ends next) files ≡ end_of next files
unless_goes cause ends next files none = rw none refl

abbrev read_from : {X : Type 0} → Format X → Option (List ℕ) → (X → Plan Answer) → Files
    → Option Answer
read_from format found next files =
    on_file format.limit (refusal_answer format.status format.too_large) found
    (λ bytes. end_of (unless (format.fault bytes) (refusal_answer format.status)
    (next (format.value bytes))) files)

read_by : {X : Type 0} (format : Format X) (bytes : List ℕ) (next : X → Plan Answer)
    (files : Files) (a : Answer) (long : Bool) → nat_lt format.limit (length bytes) ≡ long
    → read_from format (Some bytes) next files ≡ Some a
    → Stops (reading_refusal format bytes) (refusal_answer format.status) (next
    (format.value bytes)) files a
read_by format bytes next files a true p end =
    let ends : Some (refusal_answer format.status format.too_large) ≡ Some a = rw p at end in
    inl (format.too_large, rw p refl, some_is _ _ ends)
read_by format bytes next files a false p end =
    let ends : end_of (unless (format.fault bytes) (refusal_answer format.status)
    (next (format.value bytes))) files ≡ Some a = rw p at end in
    rw p (unless_end (format.fault bytes) (refusal_answer format.status) (next
    (format.value bytes)) files a
    ends)

read_end : {X : Type 0} (format : Format X) (found : Option (List ℕ)) (next : X → Plan Answer)
    (files : Files) (a : Answer) → read_from format found next files ≡ Some a
    → (bytes : List ℕ) × (found ≡ Some bytes)
    × Stops (reading_refusal format bytes) (refusal_answer format.status) (next
    (format.value bytes)) files a
read_end format None next files a end = absurd cc
read_end format (Some bytes) next files a end =
    (bytes, refl, read_by format bytes next files a (nat_lt format.limit (length bytes)) refl end)

pub file_end : {X : Type 0} (format : Format X) (name : Name) (next : X → Plan Answer)
    (files : Files) (a : Answer) → end_of (with_file format name next) files ≡ Some a
    → IsRead format name next files a
unfolding end_of
file_end format name next files a end = read_end format (files name) next files a end

reads_by : {X : Type 0} (format : Format X) (bytes : List ℕ) (next : X → Plan Answer)
    (files : Files) (long : Bool) (fault : Option (List ℕ))
    → nat_lt format.limit (length bytes) ≡ long
    → format.fault bytes ≡ fault → reading_refusal format bytes ≡ None
    → read_from format (Some bytes) next files ≡ end_of (next (format.value bytes)) files
reads_by format bytes next files true fault p q none =
    absurd (let bad : Some format.too_large ≡ None = rw p at none in cc)
reads_by format bytes next files false (Some text) p q none =
    absurd (let bad : Some text ≡ None = rw (p, q) at none in cc)
reads_by format bytes next files false None p q none = rw (p, q) refl

-- what the plan goes on with where a file is there and has no fault
pub file_goes : {X : Type 0} (format : Format X) (name : Name) (next : X → Plan Answer)
    (files : Files) (bytes : List ℕ) → files name ≡ Some bytes
    → reading_refusal format bytes ≡ None
    → end_of (with_file format name next) files ≡ end_of (next (format.value bytes)) files
unfolding end_of
file_goes format name next files bytes there none =
    rw there (reads_by format bytes next files (nat_lt format.limit (length bytes))
    (format.fault bytes) refl refl none)

-- bytes that are read are within the limit, and have no fault
pub read_within : {X : Type 0} (format : Format X) (bytes : List ℕ)
    → reading_refusal format bytes ≡ None
    → (length bytes ≤ format.limit) × (format.fault bytes ≡ None)
read_within format bytes none = by (nat_lt format.limit (length bytes)) refl none
  where
    by : (long : Bool) → nat_lt format.limit (length bytes) ≡ long
        → reading_refusal format bytes ≡ None
        → (length bytes ≤ format.limit) × (format.fault bytes ≡ None)
    by true p none = absurd (let bad : Some format.too_large ≡ None = rw p at none in cc)
    by false p none = (ltb-false format.limit (length bytes) p, rw p at none)

-- a file by which a plan goes on has bytes, and so have those after it
pub file_bytes : {X : Type 0} (format : Format X) (name : Name) (next : X → Plan Answer)
    (files : Files) (bytes : List ℕ) → LoadsBytes (with_file format name next) files
    → files name ≡ Some bytes → reading_refusal format bytes ≡ None
    → AreBytes bytes × LoadsBytes (next (format.value bytes)) files
file_bytes format name next files bytes loads there fine =
    let read = read_within format bytes fine in
    let first = loads bytes there read.0 in
    let rest : LoadsBytes (next (format.value bytes)) files = rw read.1 at first.1 in
    (first.0, rest)
