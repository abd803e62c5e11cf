-- What is known of a store over the system's files: which of its calls failed. Own.
use Rattle.std.specs.Prelude.{ℕ, ◌<◌, Option, Some, None, List, length, ⊤}
use Rattle.erim_io.specs.declared.store.LoadFault.{LoadFault}
use Rattle.erim_io.specs.declared.store.LoadFault.TheVariants.{Failed, TooLarge, Memory}
use Rattle.erim_io.specs.Store.{Name}

-- the names of the calls that failed, in order
pub record FileStoreValue : Type 0 where
  pub failed_loads : List Name
  pub failed_saves : List Name

-- a reader refused for its length has more bytes than the limit, where its bytes are known
abbrev pub HasMore : Option (List ℕ) → ℕ → LoadFault → Type 0
HasMore None limit fault = ⊤
HasMore (Some bytes) limit Failed = ⊤
HasMore (Some bytes) limit (TooLarge n) = limit < length bytes
HasMore (Some bytes) limit Memory = ⊤
