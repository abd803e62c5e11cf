-- What the calls of a memory answer. Own.
use Rattle.std.specs.Prelude.{◌≡◌, ℕ, ◌+◌, ◌/◌, ◌%◌, true, false, ◌<◌, ◌≤◌, ◌⊎◌, Option, Some, None}
use Rattle.std.specs.Prelude.{Result, Ok, Err, List, [], ◌∷◌, take, zero, suc, IsSome}
use Rattle.std.specs.Prelude.{if◌then◌else◌}
use Rattle.erim_defs.specs.declared.machine.Rights.{Rights}
use Rattle.erim_defs.specs.declared.machine.Access.{Access}
use Rattle.erim_defs.specs.Machine.Pages.{RightsMap, ByteMap, word, with_number}
use Rattle.erim_defs.specs.Machine.Access.{Seen, stop}

abbrev pub or_stop : {X : Type 0} → Option Access → X → Result X Access
or_stop None x = Ok x
or_stop (Some s) x = Err s

-- what a load of n bytes answers
abbrev pub load_of : Seen → ByteMap → ℕ → ℕ → ℕ → Result ℕ Access
load_of seen bytes pkru a n = or_stop (stop seen false pkru a n) (word bytes a n)

abbrev pub bytes_unless : Option Access → ByteMap → ByteMap → ByteMap
bytes_unless None new old = new
bytes_unless (Some s) new old = old

-- the bytes after a store of n bytes
abbrev pub bytes_after_store : Seen → ByteMap → ℕ → ℕ → ℕ → ℕ → ByteMap
bytes_after_store seen bytes pkru a n v =
    bytes_unless (stop seen true pkru a n) (with_number bytes a n v) bytes

abbrev pub cons_ok : ℕ → Result (List ℕ) ℕ → Result (List ℕ) ℕ
cons_ok x (Ok xs) = Ok (x ∷ xs)
cons_ok x (Err q) = Err q

abbrev pub code_told : Option (Option Rights) → ℕ → ℕ → Result (List ℕ) ℕ → Result (List ℕ) ℕ
code_told None q x rest = Err q
code_told (Some None) q x rest = Ok []
code_told (Some (Some r)) q x rest = if r.exec then cons_ok x rest else Ok []

-- the published bytes from a on, at most n, up to the first absent one; or the page that isn't
-- held, if it comes first
unfoldable pub fetch_of : Seen → ByteMap → ℕ → ℕ → Result (List ℕ) ℕ
fetch_of seen bytes a zero = Ok []
fetch_of seen bytes a (suc n) =
    code_told (seen (a / 4096)) (a / 4096) (bytes a) (fetch_of seen bytes (suc a) n)

-- what a fetch answers, and what it wrote
abbrev pub Fetches : Result (List ℕ) ℕ → Result ℕ ℕ → List ℕ → Type 0
Fetches is (Ok n) into = (n ≤ 15) × (is ≡ Ok (take n into))
Fetches is (Err q) into = is ≡ Err q

-- how many bytes an access has
abbrev pub IsWidth : ℕ → Type 0
IsWidth n = (n ≡ 1) ⊎ (n ≡ 2) ⊎ (n ≡ 4) ⊎ (n ≡ 8)

-- the least mapped page from one on
abbrev pub IsNextPage : RightsMap → ℕ → Option ℕ → Type 0
IsNextPage rights from None = (q : ℕ) → from ≤ q → rights q ≡ None
IsNextPage rights from (Some p) = (from ≤ p) × IsSome (rights p) × ((q : ℕ) → from ≤ q → q < p
    → rights q ≡ None)

-- the byte of a number at a place, low byte first
unfoldable pub byte_at : ℕ → ℕ → ℕ
byte_at v zero = v % 256
byte_at v (suc i) = byte_at (v / 256) i

-- the n bytes from a on are the low ones of v
abbrev pub HasBytes : ByteMap → ℕ → ℕ → ℕ → Type 0
HasBytes bytes a n v = (i : ℕ) → i < n → bytes (a + i) ≡ byte_at v i
