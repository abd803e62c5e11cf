-- The check after a sequence that writes PKRU: after WRPKRU it ends the program unless PKRU was
-- closed, after XRSTOR unless PKRU stayed as it was, which bit 9 of EAX says. ERIM (USENIX Security
-- 2019), section 3; SDM volume 2, CMP, BT, Jcc, MOV and SYSCALL; Linux on x86-64, exit_group. The
-- bytes of the check after XRSTOR are own.
use Rattle.std.specs.Prelude.{ℕ, List, [], ◌∷◌, ◌++◌, length, pos, false, if◌then◌else◌}
use Rattle.std.specs.Int.{w32, to_le_bytes, cast_signed}
use Rattle.erim_defs.specs.declared.found.SeqKind.{SeqKind}
use Rattle.erim_defs.specs.declared.found.SeqKind.TheVariants.{Wrpkru, Xrstor}
use Rattle.erim_defs.specs.declared.insn.Insn.{Insn}
use Rattle.erim_defs.specs.declared.insn.Insn.TheVariants.{Alu, Bt, Mov, Jcc, Syscall}
use Rattle.erim_defs.specs.declared.insn.AluOp.TheVariants.{Cmp}
use Rattle.erim_defs.specs.declared.insn.Place.TheVariants.{Reg}
use Rattle.erim_defs.specs.declared.insn.Src.TheVariants.{Imm}
use Rattle.erim_defs.specs.declared.insn.Width.TheVariants.{W4}
use Rattle.erim_defs.specs.declared.linux.TheConstants.{SYS_EXIT_GROUP}
use Rattle.erim_defs.specs.declared.register.TheConstants.{RAX}
use Rattle.erim_defs.specs.Inspection.Trust.{TrustValue, entry_key, pkru_of}

-- the PKRU of a closed thread
abbrev pub closed_value : TrustValue → ℕ
closed_value trust = pkru_of trust 0

-- what the check compares with: the value that opens the domain whose entry is after the sequence,
-- where an entry isn't enough, else the closed value
abbrev pub compared_value : TrustValue → ℕ → ℕ
compared_value trust next = pkru_of trust (if trust.strict then entry_key trust next else 0)

-- the instructions of a check, in order: the comparison, the branch over the rest, the number of
-- the call, the call
pub data Position : Type 0 where
  Compare : Position
  Branch : Position
  Number : Position
  Leave : Position

-- the bit of EAX by which XRSTOR is asked for PKRU
abbrev pub pkru_bit : ℕ
pkru_bit = 9

-- cmp eax, compared; je over the rest; mov eax, 231 (exit_group); syscall. After XRSTOR:
-- bt eax, 9; jae over the rest; and the same end. `next` is the address after the sequence.
abbrev pub check_insn : TrustValue → SeqKind → ℕ → Position → Insn
check_insn trust Wrpkru next Compare =
    Alu Cmp W4 (Reg RAX) (Imm (cast_signed w32 (compared_value trust next))) false
check_insn trust Wrpkru next Branch = Jcc 4 (pos 7)
check_insn trust Wrpkru next Number = Mov W4 (Reg RAX) (Imm (pos SYS_EXIT_GROUP))
check_insn trust Wrpkru next Leave = Syscall
check_insn trust Xrstor next Compare = Bt W4 (Reg RAX) pkru_bit
check_insn trust Xrstor next Branch = Jcc 3 (pos 7)
check_insn trust Xrstor next Number = Mov W4 (Reg RAX) (Imm (pos SYS_EXIT_GROUP))
check_insn trust Xrstor next Leave = Syscall

-- their bytes
abbrev pub check_bytes : TrustValue → SeqKind → ℕ → Position → List ℕ
check_bytes trust Wrpkru next Compare = 0x3D ∷ to_le_bytes w32 (compared_value trust next)
check_bytes trust Wrpkru next Branch = 0x74 ∷ 0x07 ∷ []
check_bytes trust Wrpkru next Number = 0xB8 ∷ to_le_bytes w32 SYS_EXIT_GROUP
check_bytes trust Wrpkru next Leave = 0x0F ∷ 0x05 ∷ []
check_bytes trust Xrstor next Compare = 0x0F ∷ 0xBA ∷ 0xE0 ∷ pkru_bit ∷ []
check_bytes trust Xrstor next Branch = 0x73 ∷ 0x07 ∷ []
check_bytes trust Xrstor next Number = 0xB8 ∷ to_le_bytes w32 SYS_EXIT_GROUP
check_bytes trust Xrstor next Leave = 0x0F ∷ 0x05 ∷ []

-- the bytes of the instructions before a position
abbrev pub bytes_before : TrustValue → SeqKind → ℕ → Position → List ℕ
bytes_before trust kind next Compare = []
bytes_before trust kind next Branch = check_bytes trust kind next Compare
bytes_before trust kind next Number =
    check_bytes trust kind next Compare ++ check_bytes trust kind next Branch
bytes_before trust kind next Leave =
    check_bytes trust kind next Compare
    ++ (check_bytes trust kind next Branch ++ check_bytes trust kind next Number)

-- where the instruction of a position begins in the check
abbrev pub position_start : TrustValue → SeqKind → ℕ → Position → ℕ
position_start trust kind next p = length (bytes_before trust kind next p)

-- the check after WRPKRU that compares with a value
abbrev pub check_to : ℕ → List ℕ
check_to value =
    0x3D ∷ to_le_bytes w32 value
    ++ (0x74 ∷ 0x07 ∷ 0xB8 ∷ to_le_bytes w32 SYS_EXIT_GROUP ++ (0x0F ∷ 0x05 ∷ []))

-- the check that is to follow a sequence
unfoldable pub check_of : TrustValue → SeqKind → ℕ → List ℕ
check_of trust kind next = bytes_before trust kind next Leave ++ check_bytes trust kind next Leave
