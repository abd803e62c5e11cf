-- The gates' bytes, computed, and where the instructions of checks begin.
use Rattle.std.proofs.Common.{◌≡◌, [], ◌∷◌, Some, None, map, refl}
use Rattle.erim_defs.specs.declared.found.SeqKind.TheVariants.{Wrpkru, Xrstor}
use Rattle.erim_defs.specs.Inspection.Check.{check_of}
use Rattle.erim_defs.specs.Inspection.Gate.{gate_in, gate_out, position_in_check}
use Rattle.erim_defs.specs.Inspection.Trust.{TrustValue, pkru_of, plain_trust}

no_trust : TrustValue
no_trust = plain_trust [] []

into_text :
    gate_in
    ≡ 0x31 ∷ 0xC9 ∷ 0x31 ∷ 0xD2 ∷ 0xB8 ∷ 0x50 ∷ 0x55 ∷ 0x55 ∷ 0x55 ∷ 0x0F ∷ 0x01 ∷ 0xEF ∷ []
unfolding no_trust pkru_of gate_in
into_text = refl

out_of_text :
    gate_out
    ≡ 0x31 ∷ 0xC9 ∷ 0x31 ∷ 0xD2 ∷ 0xB8 ∷ 0x54 ∷ 0x55 ∷ 0x55 ∷ 0x55 ∷ 0x0F ∷ 0x01 ∷ 0xEF ∷ 0x3D
    ∷ 0x54 ∷ 0x55 ∷ 0x55 ∷ 0x55 ∷ 0x74 ∷ 0x07 ∷ 0xB8 ∷ 0xE7 ∷ 0 ∷ 0 ∷ 0 ∷ 0x0F ∷ 0x05 ∷ []
unfolding no_trust pkru_of gate_out check_of
out_of_text = refl

positions_behind_wrpkru :
    map (position_in_check no_trust (record { at = 9; len = 3; kind = Wrpkru }))
    (11 ∷ 12 ∷ 13 ∷ 17 ∷ 18 ∷ 19 ∷ 24 ∷ 26 ∷ [])
    ≡ None ∷ Some 0 ∷ None ∷ Some 1 ∷ None ∷ Some 2 ∷ Some 3 ∷ None ∷ []
unfolding position_in_check
positions_behind_wrpkru = refl

positions_behind_xrstor :
    map (position_in_check no_trust (record { at = 10; len = 7; kind = Xrstor }))
    (16 ∷ 17 ∷ 21 ∷ 22 ∷ 23 ∷ 28 ∷ 30 ∷ [])
    ≡ None ∷ Some 0 ∷ Some 1 ∷ None ∷ Some 2 ∷ Some 3 ∷ None ∷ []
unfolding position_in_check
positions_behind_xrstor = refl
