-- What a store holds by name, and what a load or a save says of it. Own.
use Rattle.std.specs.Prelude.{◌≡◌, ℕ, ◌<◌, Bool, true, false, Option, Some, None, Result, Ok, Err}
use Rattle.std.specs.Prelude.{List, [], ◌∷◌, ◌++◌, length, bytes_eq, IsSomeAnd, ⊤, if◌then◌else◌}
use Rattle.erim_io.specs.declared.store.LoadFault.{LoadFault}
use Rattle.erim_io.specs.declared.store.LoadFault.TheVariants.{Failed, TooLarge, Memory}
use Rattle.erim_io.specs.declared.store.SaveFault.{SaveFault}
use Rattle.erim_io.specs.declared.store.SaveFault.TheVariants as saves

-- a name, as the bytes of its text
abbrev pub Name : Type 0
Name = List ℕ

-- what is held under each name, or none where nothing is
abbrev pub Files : Type 0
Files = Name → Option (List ℕ)

-- the answer of the store under a name; a store that says nothing answers anything
abbrev pub Holds : Option Files → Name → Option (List ℕ) → Type 0
Holds None name bytes = ⊤
Holds (Some files) name bytes = files name ≡ bytes

-- a given number of bytes are held under a name
abbrev pub HoldsLength : Option Files → Name → ℕ → Type 0
HoldsLength None name n = ⊤
HoldsLength (Some files) name n = IsSomeAnd (files name) (λ bytes. length bytes ≡ n)

-- a load refused for its length was right to be
abbrev pub IsTooLong : Option Files → Name → ℕ → LoadFault → Type 0
IsTooLong held name limit Failed = ⊤
IsTooLong held name limit (TooLarge n) = (limit < n) × HoldsLength held name n
IsTooLong held name limit Memory = ⊤

-- did the load fail, so that its name is noted
abbrev pub fails_load : Result (Unit {0}) LoadFault → Bool
fails_load (Ok done) = false
fails_load (Err Failed) = true
fails_load (Err (TooLarge n)) = false
fails_load (Err Memory) = false

-- did the save fail, so that its name is noted
abbrev pub fails_save : Result (Unit {0}) SaveFault → Bool
fails_save (Ok done) = false
fails_save (Err saves.Failed) = true
fails_save (Err saves.Memory) = false

-- the names of the failed calls after one more call
abbrev pub with_noted_name : Bool → Name → List Name → List Name
with_noted_name false name names = names
with_noted_name true name names = names ++ name ∷ []

abbrev pub noted_load : Result (Unit {0}) LoadFault → Name → List Name → List Name
noted_load result name names = with_noted_name (fails_load result) name names

abbrev pub noted_save : Result (Unit {0}) SaveFault → Name → List Name → List Name
noted_save result name names = with_noted_name (fails_save result) name names

-- the files with these bytes under a name
abbrev pub with_file : Name → List ℕ → Files → Files
with_file name bytes files = λ n. if bytes_eq name n then Some bytes else files n

abbrev pub holding : Name → List ℕ → Option Files → Option Files
holding name bytes None = None
holding name bytes (Some files) = Some (with_file name bytes files)

-- what is held under every other name stays
abbrev pub KeepsOthers : Name → Option Files → Option Files → Type 0
KeepsOthers name None None = ⊤
KeepsOthers name None (Some files) = ⊥
KeepsOthers name (Some files) None = ⊥
KeepsOthers name (Some files) (Some later) =
    (n : Name) → bytes_eq name n ≡ false → later n ≡ files n

-- what a save leaves: the bytes under the name; where it failed, nothing is said of that name alone
abbrev pub LeavesHeld : Result (Unit {0}) SaveFault → Name → List ℕ → Option Files → Option Files
    → Type 0
LeavesHeld (Ok done) name bytes old new = new ≡ holding name bytes old
LeavesHeld (Err saves.Failed) name bytes old new = KeepsOthers name old new
LeavesHeld (Err saves.Memory) name bytes old new = new ≡ old
