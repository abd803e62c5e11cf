-- Sequences of bytes that write PKRU. SDM volume 2: WRPKRU is 0F 01 EF; XRSTOR is 0F AE /5 with an
-- operand in memory, and goes on over its SIB byte and displacement. Prefixes and REX don't belong
-- to a sequence. XRSTORS is privileged, so it isn't looked for.
use Rattle.std.specs.Prelude.{◌≡◌, ℕ, ◌+◌, ◌/◌, ◌%◌, ◌<◌, ◌≤◌, ◌&&◌, ◌==◌, nat_lt, true, Bool}
use Rattle.std.specs.Prelude.{Option, Some, None, is_some, zero, suc, if◌then◌else◌}
use Rattle.erim_defs.specs.declared.found.SeqKind.TheVariants.{Wrpkru, Xrstor}
use Rattle.erim_defs.specs.declared.found.Found.{Found}
use Rattle.erim_defs.specs.Inspection.Code.{Code, has, or_else}
use Rattle.erim_defs.specs.Encoding.Operand.{has_sib, disp_size}

-- all n bytes from an address on are there
unfoldable pub are_present : Code → ℕ → ℕ → Bool
are_present c a zero = true
are_present c a (suc n) = is_some (c a) && are_present c (suc a) n

abbrev pub byte_or_zero : Option ℕ → ℕ
byte_or_zero None = 0
byte_or_zero (Some x) = x

-- ---- WRPKRU

abbrev pub wrpkru_at : Code → ℕ → Option Found
wrpkru_at c a = if has (c (a + 1)) 0x01 && has (c (a + 2)) 0xEF
    then Some (record { at = a; len = 3; kind = Wrpkru }) else None

-- ---- XRSTOR

-- opcode extension 5, and an operand in memory: mod isn't 3
abbrev pub is_xrstor_modrm : ℕ → Bool
is_xrstor_modrm m = m / 8 % 8 == 5 && nat_lt m 192

-- 0F AE, the ModRM byte m, and what it asks for; sib is the byte after it
abbrev pub xrstor_len : ℕ → ℕ → ℕ
xrstor_len m sib = 3 + (if has_sib m then 1 else 0) + disp_size m sib

abbrev pub xrstor_with : Option ℕ → Code → ℕ → Option Found
xrstor_with None c a = None
xrstor_with (Some m) c a =
    if is_xrstor_modrm m && are_present c a (xrstor_len m (byte_or_zero (c (a + 3))))
    then Some (record { at = a; len = xrstor_len m (byte_or_zero (c (a + 3))); kind = Xrstor })
    else None

abbrev pub xrstor_at : Code → ℕ → Option Found
xrstor_at c a = if has (c (a + 1)) 0xAE then xrstor_with (c (a + 2)) c a else None

-- ---- either

-- the occurrence of a code at an address: all its bytes are present there
unfoldable pub occurrence_at : Code → ℕ → Option Found
occurrence_at c a = if has (c a) 0x0F then or_else (wrpkru_at c a) (xrstor_at c a) else None

-- it is the first occurrence of the code at an address from low on
abbrev pub IsFirstFrom : Code → ℕ → Option Found → Type 0
IsFirstFrom c low None = (a : ℕ) → low ≤ a → occurrence_at c a ≡ None
IsFirstFrom c low (Some o) =
    (low ≤ o.at) × (occurrence_at c o.at ≡ Some o) × ((a : ℕ) → low ≤ a → a < o.at
    → occurrence_at c a ≡ None)
