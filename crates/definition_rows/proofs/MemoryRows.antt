-- Accesses and bytes of memory, computed. SDM volume 3A, "Protection keys"; the order of the causes
-- is own.
use Rattle.std.proofs.Common.{◌≡◌, ℕ, List, [], ◌∷◌, Option, Some, None, Bool, true, false, map}
use Rattle.std.proofs.Common.{refl}
use Rattle.erim_defs.specs.declared.machine.Access.{Access}
use Rattle.erim_defs.specs.declared.machine.Access.TheVariants.{Fault, Missing}
use Rattle.erim_defs.specs.declared.machine.Cause.TheVariants.{Unmapped, Read, Write, Key}
use Rattle.erim_defs.specs.declared.machine.Rights.{Rights}
use Rattle.erim_defs.specs.Machine.Access.{whole, opens, opens_write, stop, stop_on}
use Rattle.erim_defs.specs.Inspection.Code.{laid_at}
use Rattle.erim_defs.specs.Machine.Pages.{word, with_number, with_zero_page, bytes_of_range}
use Rattle.erim_defs.specs.Machine.Pages.{code_bytes}
use Rattle.definition_rows.proofs.SmallMachine.{small_rights, bytes_at}

abbrev yes : Bool
yes = true

abbrev no : Bool
no = false

-- PKRU, and what holds of keys 0, 1, 2, 14 and 15
record Opening : Type 0 where
  pkru : ℕ
  opened : List Bool

abbrev row : ℕ → Bool → Bool → Bool → Bool → Bool → Opening
row pkru a b c d e = record { pkru = pkru; opened = a ∷ b ∷ c ∷ d ∷ e ∷ [] }

abbrev keys : List ℕ
keys = 0 ∷ 1 ∷ 2 ∷ 14 ∷ 15 ∷ []

-- AD of key 1 is 4, WD of it 8; AD of key 15 is 0x40000000, WD of it 0x80000000
openings : List Opening
openings =
    row 0 yes yes yes yes yes ∷
    row 4 yes no yes yes yes ∷
    row 8 yes yes yes yes yes ∷
    row 0x40000000 yes yes yes yes no ∷
    row 0x80000000 yes yes yes yes yes ∷
    row 0x55555554 yes no no no no ∷
    row 0x55555550 yes yes no no no ∷ []

opened_keys :
    map (λ (r : Opening). map (opens r.pkru) keys) openings
    ≡ map (λ (r : Opening). r.opened) openings
unfolding opens openings
opened_keys = refl

openings_to_write : List Opening
openings_to_write =
    row 0 yes yes yes yes yes ∷
    row 4 yes no yes yes yes ∷
    row 8 yes no yes yes yes ∷
    row 0x40000000 yes yes yes yes no ∷
    row 0x80000000 yes yes yes yes no ∷
    row 0x55555554 yes no no no no ∷
    row 0x55555550 yes yes no no no ∷ []

keys_opened_to_write :
    map (λ (r : Opening). map (opens_write r.pkru) keys) openings_to_write
    ≡ map (λ (r : Opening). r.opened) openings_to_write
unfolding opens_write openings_to_write
keys_opened_to_write = refl

-- an access under a PKRU to the bytes from an address on, and why it stops
record Row : Type 0 where
  write : Bool
  pkru : ℕ
  addr : ℕ
  count : ℕ
  why : Option Access

abbrev reads : ℕ → ℕ → ℕ → Option Access → Row
reads pkru addr count why =
    record { write = false; pkru = pkru; addr = addr; count = count; why = why }

abbrev writes : ℕ → ℕ → ℕ → Option Access → Row
writes pkru addr count why =
    record { write = true; pkru = pkru; addr = addr; count = count; why = why }

-- 0x55555554 closes key 1, 0x55555550 opens it, 0x55555558 opens it to reads alone
accesses : List Row
accesses =
    -- published text, data, read-only data, an unmapped page, no user address
    reads 0x55555554 0x402000 1 None ∷
    writes 0x55555554 0x402000 1 (Some (Fault Write 0x402000)) ∷
    reads 0x55555554 0x403000 1 None ∷
    writes 0x55555554 0x403000 1 None ∷
    reads 0x55555554 0x405000 1 None ∷
    writes 0x55555554 0x405000 1 (Some (Fault Write 0x405000)) ∷
    reads 0x55555554 0x404000 1 (Some (Fault Unmapped 0x404000)) ∷
    writes 0x55555554 0x404000 1 (Some (Fault Unmapped 0x404000)) ∷
    reads 0x55555554 0x800000000000 1 (Some (Fault Unmapped 0x800000000000)) ∷
    writes 0x55555554 0x800000000000 1 (Some (Fault Unmapped 0x800000000000)) ∷
    -- a page with key 1
    reads 0x55555554 0x406000 1 (Some (Fault Key 0x406000)) ∷
    writes 0x55555554 0x406000 1 (Some (Fault Key 0x406000)) ∷
    reads 0x55555550 0x406000 1 None ∷
    writes 0x55555550 0x406000 1 None ∷
    reads 0x55555558 0x406000 1 None ∷
    writes 0x55555558 0x406000 1 (Some (Fault Key 0x406000)) ∷
    -- the first byte that fails, after the page or at once; no byte at all
    reads 0x55555554 0x403FFE 2 None ∷
    reads 0x55555554 0x403FFE 4 (Some (Fault Unmapped 0x404000)) ∷
    reads 0x55555554 0x405FFE 4 (Some (Fault Key 0x406000)) ∷
    writes 0x55555554 0x405FFE 4 (Some (Fault Write 0x405FFE)) ∷
    reads 0x55555554 0x404000 0 None ∷ []

stops :
    map (λ (r : Row). stop (whole small_rights) r.write r.pkru r.addr r.count) accesses
    ≡ map (λ (r : Row). r.why) accesses
unfolding stop opens opens_write accesses
stops = refl

-- the right comes before the key
no_right : Rights
no_right = record { read = false; write = false; exec = false; asked = 0; key = 1 }

right_before_key :
    stop_on no_right false 0x55555554 0x406000 ∷ stop_on no_right true 0x55555554 0x406000 ∷ []
    ≡ Some (Fault Read 0x406000) ∷ Some (Fault Write 0x406000) ∷ []
unfolding no_right opens opens_write
right_before_key = refl

-- a page that isn't held
not_held : stop (λ q. None) false 0 0x403123 2 ≡ Some (Missing 0x403)
unfolding stop
not_held = refl

-- ---- bytes: low byte first

words : word (bytes_at 0x1000 (0x11 ∷ 0x22 ∷ 0x33 ∷ 0x44 ∷ [])) 0x1000 4 ≡ 0x44332211
unfolding word
words = refl

-- 4 bytes are written, and none beside them
writing :
    map (with_number (λ a. 0x99) 0x1000 4 0xAABBCCDDEE)
    (0xFFF ∷ 0x1000 ∷ 0x1001 ∷ 0x1002 ∷ 0x1003 ∷ 0x1004 ∷ [])
    ≡ 0x99 ∷ 0xEE ∷ 0xDD ∷ 0xCC ∷ 0xBB ∷ 0x99 ∷ []
unfolding with_number
writing = refl

zeros :
    map (with_zero_page (λ a. 0x99) 1) (0xFFF ∷ 0x1000 ∷ 0x1FFF ∷ 0x2000 ∷ [])
    ≡ 0x99 ∷ 0 ∷ 0 ∷ 0x99 ∷ []
zeros = refl

bytes_taken : bytes_of_range (bytes_at 0x1000 (0x11 ∷ 0x22 ∷ 0x33 ∷ 0x44 ∷ [])) 0x1001 2
    ≡ 0x22 ∷ 0x33 ∷ []
unfolding bytes_of_range
bytes_taken = refl

-- at most so many, and no byte after an absent one
bytes_present :
    code_bytes (laid_at 0x1000 (0x11 ∷ 0x22 ∷ 0x33 ∷ [])) 0x1001 15
    ∷ code_bytes (laid_at 0x1000 (0x11 ∷ 0x22 ∷ 0x33 ∷ [])) 0x1000 2
    ∷ code_bytes (laid_at 0x1000 (0x11 ∷ [])) 0xFFF 2 ∷ []
    ≡ (0x22 ∷ 0x33 ∷ []) ∷ (0x11 ∷ 0x22 ∷ []) ∷ [] ∷ []
unfolding code_bytes
bytes_present = refl
