-- The gates into trusted text and out of it. ERIM (USENIX Security 2019), section 3; SDM volume 2,
-- XOR, MOV and WRPKRU.
use Rattle.std.specs.Prelude.{ℕ, ◌+◌, ◌==◌, List, [], ◌∷◌, ◌++◌, Option, Some, None, if◌then◌else◌}
use Rattle.std.specs.Int.{w32, to_le_bytes}
use Rattle.erim_defs.specs.declared.found.SeqKind.{SeqKind}
use Rattle.erim_defs.specs.declared.found.Found.{Found}
use Rattle.erim_defs.specs.Inspection.Check.{check_to, position_start}
use Rattle.erim_defs.specs.Inspection.Check.{Compare, Branch, Number, Leave}
use Rattle.erim_defs.specs.Inspection.Trust.{TrustValue}

-- the PKRU of a thread in trusted text and of a closed one, in a program with one domain
abbrev pub gate_in_value : ℕ
gate_in_value = 0x55555550

abbrev pub gate_out_value : ℕ
gate_out_value = 0x55555554

-- xor ecx, ecx; xor edx, edx; mov eax, value; wrpkru
abbrev pub gate_to : ℕ → List ℕ
gate_to value =
    0x31 ∷ 0xC9 ∷ 0x31 ∷ 0xD2 ∷ 0xB8 ∷ [] ++ to_le_bytes w32 value ++ (0x0F ∷ 0x01 ∷ 0xEF ∷ [])

-- an entry is after it
unfoldable pub gate_in : List ℕ
gate_in = gate_to gate_in_value

-- it ends with the check
unfoldable pub gate_out : List ℕ
gate_out = gate_to gate_out_value ++ check_to gate_out_value

-- the number of the instruction that begins at an address, in the check after a sequence
abbrev pub position_at : TrustValue → SeqKind → ℕ → ℕ → Option ℕ
position_at trust kind next rip =
    if rip == next + position_start trust kind next Compare then Some 0 else
    if rip == next + position_start trust kind next Branch then Some 1 else
    if rip == next + position_start trust kind next Number then Some 2 else
    if rip == next + position_start trust kind next Leave then Some 3 else None

unfoldable pub position_in_check : TrustValue → Found → ℕ → Option ℕ
position_in_check trust o rip = position_at trust o.kind (o.at + o.len) rip
