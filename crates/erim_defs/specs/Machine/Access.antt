-- Which accesses are allowed. SDM volume 3A, "Protection keys": AD_i is bit 2i of PKRU and WD_i bit
-- 2i + 1; the order of the causes is own.
use Rattle.std.specs.Prelude.{ℕ, ◌*◌, ◌/◌, ◌%◌, ◌^◌, ◌==◌, nat_lt, Bool, Option, Some, None, zero}
use Rattle.std.specs.Prelude.{suc, if◌then◌else◌}
use Rattle.erim_defs.specs.declared.machine.Rights.{Rights}
use Rattle.erim_defs.specs.declared.machine.Access.{Access}
use Rattle.erim_defs.specs.declared.machine.Access.TheVariants.{Fault, Missing}
use Rattle.erim_defs.specs.declared.machine.Cause.TheVariants.{Unmapped, Read, Write, Key}
use Rattle.erim_defs.specs.Inspection.Code.{or_else}
use Rattle.erim_defs.specs.Machine.Pages.{RightsMap}

-- What a memory says of each page: None where it doesn't hold the page, Some None where the page
-- isn't mapped.
abbrev pub Seen : Type 0
Seen = ℕ → Option (Option Rights)

-- a memory that holds every page
abbrev pub whole : RightsMap → Seen
whole rights = λ q. Some (rights q)

abbrev pub mapped_rights : Option (Option Rights) → Option Rights
mapped_rights None = None
mapped_rights (Some r) = r

-- the rights of each page that is held and mapped
abbrev pub rights_in : Seen → RightsMap
rights_in seen = λ q. mapped_rights (seen q)

-- AD of the key is 0
unfoldable pub opens : ℕ → ℕ → Bool
opens pkru key = (pkru / 2 ^ (2 * key)) % 2 == 0

-- AD and WD of the key are 0
unfoldable pub opens_write : ℕ → ℕ → Bool
opens_write pkru key = (pkru / 2 ^ (2 * key)) % 4 == 0

-- why an access to a byte of a mapped page stops: the right first, then PKRU
abbrev pub stop_on : Rights → Bool → ℕ → ℕ → Option Access
stop_on r write pkru a =
    if write
    then (if r.write then (if opens_write pkru r.key then None else Some (Fault Key a))
    else Some (Fault Write a))
    else (if r.read then (if opens pkru r.key then None else Some (Fault Key a))
    else Some (Fault Read a))

abbrev pub stop_by : Option (Option Rights) → Bool → ℕ → ℕ → Option Access
stop_by None write pkru a = Some (Missing (a / 4096))
stop_by (Some None) write pkru a = Some (Fault Unmapped a)
stop_by (Some (Some r)) write pkru a = stop_on r write pkru a

-- the byte at a; user addresses are below 2^47
abbrev pub stop_at : Seen → Bool → ℕ → ℕ → Option Access
stop_at seen write pkru a = if nat_lt a (2 ^ 47) then stop_by (seen (a / 4096)) write pkru a
    else Some (Fault Unmapped a)

-- why an access to the n bytes from a on stops: the first byte that fails
unfoldable pub stop : Seen → Bool → ℕ → ℕ → ℕ → Option Access
stop seen write pkru a zero = None
stop seen write pkru a (suc n) =
    or_else (stop_at seen write pkru a) (stop seen write pkru (suc a) n)
