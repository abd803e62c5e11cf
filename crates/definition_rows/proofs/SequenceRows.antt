-- The unsafe sequences of small codes, computed. The bytes lie at address 0.
use Rattle.erim_defs.specs.Inspection.Trust.{pkru_of, plain_trust}
use Rattle.std.proofs.Common.{◌≡◌, ℕ, List, [], ◌∷◌, ◌++◌, Some, refl, sym, lit≤, arith}
use Rattle.erim_defs.specs.declared.found.SeqKind.TheVariants.{Wrpkru}
use Rattle.erim_defs.specs.declared.found.Found.{Found}
use Rattle.erim_defs.specs.Inspection.Code.{laid_at}
use Rattle.erim_defs.specs.Inspection.Occurrence.{occurrence_at}
use Rattle.erim_defs.specs.Inspection.Check.{check_of}
use Rattle.erim_defs.specs.Inspection.Safe.{fits, unsafe_at}
use Rattle.erim_defs.specs.Inspection.Trust.{TrustValue}
use Rattle.erim_defs.specs.Inspection.Unsafe.{list_below, first_below, unsafe_list, first_unsafe}
use Rattle.erim_defs.proofs.CodeLemmas.{laid_at_past}
use Rattle.erim_defs.proofs.FirstUnsafeLemmas.{first_from, first_unsafe_laid}
use Rattle.erim_defs.proofs.UnsafeLemmas.{unsafe_list_from_below}

wrpkru : ℕ → Found
wrpkru a = record { at = a; len = 3; kind = Wrpkru }

-- what is unsafe below address 64
unsafe_in : TrustValue → List ℕ → List Found
unsafe_in trust bytes = list_below 64 (unsafe_at trust (laid_at 0 bytes))

-- a trust with these entries
entered_at : List ℕ → TrustValue
entered_at entries = plain_trust [] entries

-- gate out up to its WRPKRU: xor ecx, ecx; xor edx, edx; mov eax, 0x55555554; wrpkru
closing : List ℕ
closing = 0x31 ∷ 0xC9 ∷ 0x31 ∷ 0xD2 ∷ 0xB8 ∷ 0x54 ∷ 0x55 ∷ 0x55 ∷ 0x55 ∷ 0x0F ∷ 0x01 ∷ 0xEF ∷ []

rest_of_check : List ℕ
rest_of_check = 0x74 ∷ 0x07 ∷ 0xB8 ∷ 0xE7 ∷ 0 ∷ 0 ∷ 0 ∷ 0x0F ∷ 0x05 ∷ []

nothing : unsafe_in (entered_at []) [] ≡ []
unfolding pkru_of unsafe_in entered_at list_below unsafe_at occurrence_at
nothing = refl

within_an_immediate :
    unsafe_in (entered_at []) (0xB8 ∷ 0x0F ∷ 0x01 ∷ 0xEF ∷ 0x00 ∷ []) ≡ wrpkru 1 ∷ []
unfolding pkru_of unsafe_in entered_at wrpkru list_below unsafe_at occurrence_at fits check_of
within_an_immediate = refl

across_two_instructions :
    unsafe_in (entered_at []) (0xB8 ∷ 0x00 ∷ 0x00 ∷ 0x00 ∷ 0x0F ∷ 0x01 ∷ 0xEF ∷ 0x00 ∷ [])
    ≡ wrpkru 4 ∷ []
unfolding pkru_of unsafe_in entered_at wrpkru list_below unsafe_at occurrence_at fits check_of
across_two_instructions = refl

behind_a_prefix : unsafe_in (entered_at []) (0x2E ∷ 0x0F ∷ 0x01 ∷ 0xEF ∷ 0x00 ∷ []) ≡ wrpkru 1 ∷ []
unfolding pkru_of unsafe_in entered_at wrpkru list_below unsafe_at occurrence_at fits check_of
behind_a_prefix = refl

true_gate :
    unsafe_in (entered_at []) (closing ++ (0x3D ∷ 0x54 ∷ 0x55 ∷ 0x55 ∷ 0x55 ∷ []) ++ rest_of_check)
    ≡ []
unfolding pkru_of unsafe_in entered_at closing rest_of_check list_below unsafe_at occurrence_at fits
    check_of
true_gate = refl

gate_with_wrong_value :
    unsafe_in (entered_at []) (closing ++ (0x3D ∷ 0x50 ∷ 0x55 ∷ 0x55 ∷ 0x55 ∷ []) ++ rest_of_check)
    ≡ wrpkru 9 ∷ []
unfolding pkru_of unsafe_in entered_at closing rest_of_check wrpkru list_below unsafe_at
    occurrence_at fits
    check_of
gate_with_wrong_value = refl

-- the fourteenth byte counts
gate_with_wrong_last_byte :
    unsafe_in (entered_at [])
    (closing ++ (0x3D ∷ 0x54 ∷ 0x55 ∷ 0x55 ∷ 0x55 ∷ 0x74 ∷ 0x07 ∷ 0xB8 ∷ 0xE7 ∷ 0 ∷ 0 ∷ 0 ∷ 0x0F
    ∷ 0x04 ∷ []))
    ≡ wrpkru 9 ∷ []
unfolding pkru_of unsafe_in entered_at closing wrpkru list_below unsafe_at occurrence_at fits
    check_of
gate_with_wrong_last_byte = refl

-- after the last byte nothing contradicts the check
end_of_code : unsafe_in (entered_at []) closing ≡ []
unfolding pkru_of unsafe_in entered_at closing list_below unsafe_at occurrence_at fits check_of
end_of_code = refl

-- an entry after it is enough
entry_behind : unsafe_in (entered_at (12 ∷ [])) (closing ++ 0x90 ∷ []) ≡ []
unfolding pkru_of unsafe_in entered_at closing list_below unsafe_at occurrence_at fits check_of
entry_behind = refl

entry_before : unsafe_in (entered_at (11 ∷ [])) (closing ++ 0x90 ∷ []) ≡ wrpkru 9 ∷ []
unfolding pkru_of unsafe_in entered_at closing wrpkru list_below unsafe_at occurrence_at fits
    check_of
entry_before = refl

-- ---- the first of them, and all addresses

two_sequences : List ℕ
two_sequences = 0x90 ∷ 0x0F ∷ 0x01 ∷ 0xEF ∷ 0x90 ∷ 0x0F ∷ 0x01 ∷ 0xEF ∷ 0x90 ∷ []

both : unsafe_in (entered_at []) two_sequences ≡ wrpkru 1 ∷ wrpkru 5 ∷ []
unfolding pkru_of unsafe_in entered_at two_sequences wrpkru list_below unsafe_at occurrence_at fits
    check_of
both = refl

first_of_both :
    first_below 64 (unsafe_at (entered_at []) (laid_at 0 two_sequences)) ≡ Some (wrpkru 1)
unfolding pkru_of entered_at two_sequences wrpkru first_below unsafe_at occurrence_at fits check_of
first_of_both = refl

-- an entry after the first leaves the second
first_behind_an_entry :
    first_below 64 (unsafe_at (entered_at (4 ∷ [])) (laid_at 0 two_sequences)) ≡ Some (wrpkru 5)
unfolding pkru_of entered_at two_sequences wrpkru first_below unsafe_at occurrence_at fits check_of
first_behind_an_entry = refl

whole_list : unsafe_list (entered_at []) (laid_at 0 two_sequences) ≡ wrpkru 1 ∷ wrpkru 5 ∷ []
unfolding pkru_of unsafe_in entered_at two_sequences wrpkru list_below unsafe_at occurrence_at fits
    check_of
whole_list =
    sym (unsafe_list_from_below (entered_at []) (laid_at 0 two_sequences) 64 (lit≤ tt) (λ a high.
    rw (laid_at_past 0 a two_sequences (omega (arith, high))) refl))

first_of_all :
    first_unsafe (entered_at []) (laid_at 0x401000 two_sequences) ≡ Some (wrpkru 0x401001)
unfolding pkru_of entered_at two_sequences wrpkru first_from unsafe_at occurrence_at fits check_of
first_of_all = first_unsafe_laid (entered_at []) 0x401000 two_sequences (lit≤ tt)
