-- A store in memory: what it holds, and which of its calls fail. Own.
use Rattle.std.specs.Prelude.{ℕ, ◌+◌, ◌^◌, ◌==◌, nat_le, min, Bool, Option, Some, None, Result, Ok}
use Rattle.std.specs.Prelude.{Err, List, [], ◌∷◌, map, length, bytes_eq, String, string_bytes, Vec}
use Rattle.std.specs.Prelude.{if◌then◌else◌}
use Rattle.std.specs.List.{list_any}
use Rattle.erim_io.specs.declared.store.LoadFault.{LoadFault}
use Rattle.erim_io.specs.declared.store.LoadFault.TheVariants.{Failed, TooLarge}
use Rattle.erim_io.specs.declared.store.SaveFault.{SaveFault}
use Rattle.erim_io.specs.declared.store.SaveFault.TheVariants as saves
use Rattle.erim_io.specs.Store.{Name}

-- the files with their names, the numbers of the calls that fail, how many calls there were, and
-- the names of the calls that failed
pub record MemStoreValue : Type 0 where
  pub files : List (Name × List ℕ)
  pub failing : List ℕ
  pub calls : ℕ
  pub failed_loads : List Name
  pub failed_saves : List Name

-- the files, each as the bytes of its name and its bytes
abbrev pub files_of : {A B : Type 0} → List (String A × Vec ℕ B) → List (Name × List ℕ)
files_of files = map (λ file. (string_bytes file.0, file.1.items)) files

-- the first file of a name
abbrev pub file_in : List (Name × List ℕ) → Name → Option (List ℕ)
file_in [] name = None
file_in (file ∷ files) name = if bytes_eq file.0 name then Some file.1 else file_in files name

-- calls are numbered from 0; the counter stops at 2^32, which no list of `u32` has
abbrev pub next_call : ℕ → ℕ
next_call n = min (n + 1) (2 ^ 32)

-- is the number in the list
abbrev pub is_listed : List ℕ → ℕ → Bool
is_listed numbers number = list_any (λ n. n == number) numbers

-- the answer at what is held under the name
abbrev pub answer_at : Option (List ℕ) → ℕ → Result (Unit {0}) LoadFault
answer_at None limit = Err Failed
answer_at (Some bytes) limit =
    if nat_le (length bytes) limit then Ok tt else Err (TooLarge (length bytes))

-- the answer to the next load where memory suffices
abbrev pub load_answer : MemStoreValue → Name → ℕ → Result (Unit {0}) LoadFault
load_answer store name limit =
    if is_listed store.failing store.calls
    then Err Failed
    else answer_at (file_in store.files name) limit

-- the answer to the next save where memory suffices
abbrev pub save_answer : MemStoreValue → Result (Unit {0}) SaveFault
save_answer store = if is_listed store.failing store.calls then Err saves.Failed else Ok tt

-- the files after a save; the one that was saved stands first, so that it is found
abbrev pub saved_files : Result (Unit {0}) SaveFault → Name → List ℕ → List (Name × List ℕ)
    → List (Name × List ℕ)
saved_files (Ok done) name bytes files = (name, bytes) ∷ files
saved_files (Err fault) name bytes files = files
