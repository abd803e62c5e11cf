-- The check after WRPKRU, computed: `3D 54 55 55 55 74 07 B8 E7 00 00 00 0F 05`, whose instructions
-- begin at 0, 5, 7 and 12.
use Rattle.std.proofs.Common.{◌≡◌, [], ◌∷◌, map, refl}
use Rattle.erim_defs.specs.declared.found.SeqKind.TheVariants.{Wrpkru}
use Rattle.erim_defs.specs.declared.insn.Decoded.TheVariants.{Insn}
use Rattle.erim_defs.specs.Inspection.Check.{Compare, Branch, Number, Leave, check_of, check_bytes}
use Rattle.erim_defs.specs.Inspection.Check.{check_insn}
use Rattle.erim_defs.specs.Inspection.Check.{position_start, closed_value}
use Rattle.erim_defs.specs.Encoding.Decoding.{decode}
use Rattle.erim_defs.specs.Inspection.Trust.{TrustValue, pkru_of, plain_trust}
use Rattle.definition_rows.proofs.SmallMachine.{step_by}

no_trust : TrustValue
no_trust = plain_trust [] []

check :
    check_of no_trust Wrpkru 0x401003
    ≡ 0x3D ∷ 0x54 ∷ 0x55 ∷ 0x55 ∷ 0x55 ∷ 0x74 ∷ 0x07 ∷ 0xB8 ∷ 0xE7 ∷ 0 ∷ 0 ∷ 0 ∷ 0x0F ∷ 0x05 ∷ []
unfolding pkru_of check_of no_trust
check = refl

starts :
    map (position_start no_trust Wrpkru 0x401003) (Compare ∷ Branch ∷ Number ∷ Leave ∷ [])
    ≡ 0 ∷ 5 ∷ 7 ∷ 12 ∷ []
unfolding pkru_of no_trust
starts = refl

closed : closed_value no_trust ≡ 0x55555554
unfolding pkru_of no_trust
closed = refl

-- the bytes of each position are its instruction
instructions :
    map (λ p. decode (check_bytes no_trust Wrpkru 0x401003 p))
    (Compare ∷ Branch ∷ Number ∷ Leave ∷ [])
    ≡ Insn (check_insn no_trust Wrpkru 0x401003 Compare) 5 0
    ∷ Insn (check_insn no_trust Wrpkru 0x401003 Branch) 2 0
    ∷ Insn (check_insn no_trust Wrpkru 0x401003 Number) 5 0
    ∷ Insn (check_insn no_trust Wrpkru 0x401003 Leave) 2 0 ∷ []
unfolding pkru_of step_by no_trust
instructions = refl
