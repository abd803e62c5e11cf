-- The pages of a state: the rights of each mapped page by its number, and the byte at each address
-- (0 where no page is mapped). SDM volume 3A, "Paging": 4096 bytes a page. Own: a published page's
-- bytes can be fetched.
use Rattle.std.specs.Prelude.{ℕ, ◌<◌, ◌+◌, ◌*◌, ◌/◌, ◌%◌, ◌==◌, Bool, true, false, Option, Some}
use Rattle.std.specs.Prelude.{None, List, [], ◌∷◌, zero, suc, if◌then◌else◌}
use Rattle.erim_defs.specs.declared.machine.Rights.{Rights}
use Rattle.erim_defs.specs.Bits.{has_bit}
use Rattle.erim_defs.specs.Inspection.Code.{Code}

abbrev pub RightsMap : Type 0
RightsMap = ℕ → Option Rights

abbrev pub ByteMap : Type 0
ByteMap = ℕ → ℕ

-- ---- rights. Linux, mmap(2): of the protection bits asked, PROT_READ is bit 0, PROT_WRITE bit 1,
-- PROT_EXEC bit 2.

abbrev pub asks_write : ℕ → Bool
asks_write asked = has_bit asked 1

abbrev pub asks_exec : ℕ → Bool
asks_exec asked = has_bit asked 2

-- keys are below 16, and protection bits below 8
abbrev pub IsSound : Rights → Type 0
IsSound r = (r.key < 16) × (r.asked < 8)

-- the rights of a page once it is published: no published page is writable
abbrev pub published_rights : Rights → Rights
published_rights r = record r { exec = true; write = false }

-- and once a write took its publication back
abbrev pub taken_back_rights : Rights → Rights
taken_back_rights r = record r { exec = false; write = true }

abbrev pub is_published : Option Rights → Bool
is_published None = false
is_published (Some r) = r.exec

-- ---- codes

-- the published bytes
abbrev pub published_code : RightsMap → ByteMap → Code
published_code rights bytes = λ a. if is_published (rights (a / 4096)) then Some (bytes a) else None

-- the published bytes and those of one more page
abbrev pub code_with : RightsMap → ByteMap → ℕ → Code
code_with rights bytes q = λ a. if a / 4096 == q then Some (bytes a)
    else published_code rights bytes a

-- a map with another value at one place
abbrev pub with_value_at : {X : Type 0} → (ℕ → X) → ℕ → X → ℕ → X
with_value_at m p x = λ q. if q == p then x else m q

-- bytes with zeros on one page
abbrev pub with_zero_page : ByteMap → ℕ → ByteMap
with_zero_page bytes q = λ a. if a / 4096 == q then 0 else bytes a

-- the number in the n bytes from a on, low byte first
unfoldable pub word : ByteMap → ℕ → ℕ → ℕ
word bytes a zero = 0
word bytes a (suc n) = bytes a + 256 * word bytes (suc a) n

-- the bytes after v was written to the n bytes from a on, low byte first
unfoldable pub with_number : ByteMap → ℕ → ℕ → ℕ → ByteMap
with_number bytes a zero v = bytes
with_number bytes a (suc n) v = with_number (with_value_at bytes a (v % 256)) (suc a) n (v / 256)

-- the n bytes from a on
unfoldable pub bytes_of_range : ByteMap → ℕ → ℕ → List ℕ
bytes_of_range bytes a zero = []
bytes_of_range bytes a (suc n) = bytes a ∷ bytes_of_range bytes (suc a) n

abbrev pub code_bytes_on : Option ℕ → List ℕ → List ℕ
code_bytes_on None rest = []
code_bytes_on (Some x) rest = x ∷ rest

-- the bytes of a code from a on, at most n, up to the first absent one
unfoldable pub code_bytes : Code → ℕ → ℕ → List ℕ
code_bytes c a zero = []
code_bytes c a (suc n) = code_bytes_on (c a) (code_bytes c (suc a) n)
