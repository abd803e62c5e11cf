-- Domains, computed: the values of PKRU, what a PKRU opens, where a thread is at home, the check
-- after a WRPKRU. SDM volume 3A, "Protection Keys": AD of key k is bit 2k, WD bit 2k + 1. Own: the
-- rest.
use Rattle.std.proofs.Common.{◌≡◌, ℕ, List, [], ◌∷◌, ◌++◌, map, Option, Some, None, Bool}
use Rattle.std.proofs.Common.{true, false, refl}
use Rattle.std.specs.Prelude.{take, pos}
use Rattle.erim_defs.specs.declared.found.Found.{Found}
use Rattle.erim_defs.specs.declared.found.SeqKind.TheVariants.{Wrpkru, Xrstor}
use Rattle.erim_defs.specs.declared.insn.Decoded.TheVariants.{Insn}
use Rattle.erim_defs.specs.declared.insn.Insn.TheVariants.{Alu}
use Rattle.erim_defs.specs.declared.insn.AluOp.TheVariants.{Cmp}
use Rattle.erim_defs.specs.declared.insn.Place.TheVariants.{Reg}
use Rattle.erim_defs.specs.declared.insn.Src.TheVariants.{Imm}
use Rattle.erim_defs.specs.declared.insn.Width.TheVariants.{W4}
use Rattle.erim_defs.specs.declared.machine.Thread.{Thread}
use Rattle.erim_defs.specs.Encoding.Decoding.{decode}
use Rattle.erim_defs.specs.Encoding.Operand.{has_sib, disp_size}
use Rattle.erim_defs.specs.Inspection.Check.{Compare, Branch, Number, Leave, closed_value}
use Rattle.erim_defs.specs.Inspection.Check.{compared_value}
use Rattle.erim_defs.specs.Inspection.Check.{check_of, check_bytes, check_insn, position_start}
use Rattle.erim_defs.specs.Inspection.Code.{laid_at}
use Rattle.erim_defs.specs.Inspection.Occurrence.{occurrence_at, are_present}
use Rattle.erim_defs.specs.Inspection.Safe.{fits, unsafe_at}
use Rattle.erim_defs.specs.Inspection.Trust.{TrustValue, pkru_of, text_key, entry_key}
use Rattle.erim_defs.specs.Inspection.Trust.{plain_trust}
use Rattle.erim_defs.specs.Machine.Access.{opens, opens_write}
use Rattle.erim_defs.specs.Machine.Domains.{opens_domain, opened_domains, is_set_but, is_at_home}
use Rattle.erim_defs.specs.Machine.Domains.{is_denied}
use Rattle.erim_defs.specs.Machine.State.{is_open, is_outside, is_inside}
use Rattle.definition_rows.proofs.SmallMachine.{thread_at, step_by}
use Rattle.definition_rows.proofs.DomainImages.{trust_of_two, no_flag, first_flag, second_flag}
use Rattle.definition_rows.proofs.DomainImages.{third_flag, fourth_flag, four_flags, trust_of_four}
use Rattle.definition_rows.proofs.DomainImages.{span}

-- ---- values: of a closed thread, and with one domain opened

-- key k has the two bits from 2k on: AD is 1, AD 2
plain_values :
    map (pkru_of (trust_of_two no_flag true)) (0 ∷ 1 ∷ 2 ∷ 3 ∷ 4 ∷ [])
    ≡ 0x55555554 ∷ 0x55555550 ∷ 0x55555544 ∷ 0x55555514 ∷ 0x55555454 ∷ []
unfolding pkru_of
plain_values = refl

-- an integrity domain has WD alone while it isn't opened, and neither while it is
first_integrity_values :
    map (pkru_of (trust_of_two first_flag true)) (0 ∷ 1 ∷ 2 ∷ [])
    ≡ 0x55555558 ∷ 0x55555550 ∷ 0x55555548 ∷ []
unfolding pkru_of
first_integrity_values = refl

second_integrity_values :
    map (pkru_of (trust_of_two second_flag true)) (0 ∷ 1 ∷ 2 ∷ [])
    ≡ 0x55555564 ∷ 0x55555560 ∷ 0x55555544 ∷ []
unfolding pkru_of
second_integrity_values = refl

-- each of four alone, and all of them
four_integrity_values :
    map closed_value
    (trust_of_four first_flag ∷ trust_of_four second_flag ∷ trust_of_four third_flag
    ∷ trust_of_four fourth_flag ∷ trust_of_four four_flags ∷ [])
    ≡ 0x55555558 ∷ 0x55555564 ∷ 0x55555594 ∷ 0x55555654 ∷ 0x555556A8 ∷ []
unfolding pkru_of
four_integrity_values = refl

-- all four are integrity domains, and one is opened
opened_among_four :
    map (pkru_of (trust_of_four four_flags)) (0 ∷ 1 ∷ 2 ∷ 3 ∷ 4 ∷ [])
    ≡ 0x555556A8 ∷ 0x555556A0 ∷ 0x55555688 ∷ 0x55555628 ∷ 0x555554A8 ∷ []
unfolding pkru_of
opened_among_four = refl

-- a value opens the domain that it is of, and no other
opened_by_values :
    map (λ k. opened_domains (trust_of_four four_flags) (pkru_of (trust_of_four four_flags) k))
    (0 ∷ 1 ∷ 2 ∷ 3 ∷ 4 ∷ [])
    ≡ no_flag ∷ first_flag ∷ second_flag ∷ third_flag ∷ fourth_flag ∷ []
unfolding pkru_of opened_domains opens opens_write
opened_by_values = refl

opened_by_plain_values :
    map (λ k. opened_domains (trust_of_four no_flag) (pkru_of (trust_of_four no_flag) k))
    (0 ∷ 1 ∷ 2 ∷ 3 ∷ 4 ∷ [])
    ≡ no_flag ∷ first_flag ∷ second_flag ∷ third_flag ∷ fourth_flag ∷ []
unfolding pkru_of opened_domains opens opens_write
opened_by_plain_values = refl

-- ---- what is opened: the bits of key 1 are 2 and 3, those of key 2 are 4 and 5

abbrev bits_of_one : List ℕ
bits_of_one = 0x55555550 ∷ 0x55555554 ∷ 0x55555558 ∷ 0x5555555C ∷ []

abbrev bits_of_two : List ℕ
bits_of_two = 0x55555544 ∷ 0x55555554 ∷ 0x55555564 ∷ 0x55555574 ∷ []

-- AD alone decides
opens_plain_domain :
    map (λ p. opens_domain (trust_of_two second_flag true) p 1) bits_of_one
    ++ map (λ p. opens_domain (trust_of_two first_flag true) p 2) bits_of_two
    ≡ true ∷ false ∷ true ∷ false ∷ true ∷ false ∷ true ∷ false ∷ []
unfolding opens opens_write
opens_plain_domain = refl

-- both bits are 0
opens_integrity_domain :
    map (λ p. opens_domain (trust_of_two first_flag true) p 1) bits_of_one
    ++ map (λ p. opens_domain (trust_of_two second_flag true) p 2) bits_of_two
    ≡ true ∷ false ∷ false ∷ false ∷ true ∷ false ∷ false ∷ false ∷ []
unfolding opens opens_write
opens_integrity_domain = refl

-- what isn't a domain isn't opened: key 0, keys that no record names, and keys past 4
no_domain :
    map (opens_domain (trust_of_two no_flag true) 0) (0 ∷ 1 ∷ 2 ∷ 3 ∷ 4 ∷ 5 ∷ 15 ∷ [])
    ≡ false ∷ true ∷ true ∷ false ∷ false ∷ false ∷ false ∷ []
unfolding opens opens_write
no_domain = refl

-- a flag at each key from 0 on
opened_flags :
    map (opened_domains (trust_of_two second_flag true))
    (0 ∷ 0x55555554 ∷ 0x55555550 ∷ 0x55555544 ∷ 0x55555540 ∷ 0x55555560 ∷ 0xFFFFFFFF ∷ [])
    ≡ (false ∷ true ∷ true ∷ false ∷ false ∷ []) ∷ no_flag ∷ first_flag ∷ second_flag
    ∷ (false ∷ true ∷ true ∷ false ∷ false ∷ []) ∷ first_flag ∷ no_flag ∷ []
unfolding opened_domains opens opens_write
opened_flags = refl

-- but for the one at a place; past the end none is left out
flags_but :
    map (λ k. is_set_but k (false ∷ true ∷ false ∷ false ∷ true ∷ [])) (0 ∷ 1 ∷ 4 ∷ 2 ∷ 5 ∷ [])
    ++ map (λ k. is_set_but k second_flag) (0 ∷ 1 ∷ 2 ∷ 3 ∷ 4 ∷ 9 ∷ [])
    ++ (is_set_but 0 no_flag ∷ is_set_but 2 [] ∷ [])
    ≡ true ∷ true ∷ true ∷ true ∷ true
    ∷ true ∷ true ∷ false ∷ true ∷ true ∷ true ∷ false ∷ false ∷ []
unfolding is_set_but
flags_but = refl

-- ---- keys that are denied: domains that aren't opened

-- key 0 and keys without a domain are denied to none
denied_keys :
    map (λ p. map (is_denied (trust_of_two no_flag true) p) (0 ∷ 1 ∷ 2 ∷ 3 ∷ 15 ∷ []))
    (0x55555554 ∷ 0x55555550 ∷ 0x55555544 ∷ 0x55555540 ∷ 0xFFFFFFFF ∷ [])
    ≡ (false ∷ true ∷ true ∷ false ∷ false ∷ []) ∷ (false ∷ false ∷ true ∷ false ∷ false ∷ [])
    ∷ (false ∷ true ∷ false ∷ false ∷ false ∷ []) ∷ (false ∷ false ∷ false ∷ false ∷ false ∷ [])
    ∷ (false ∷ true ∷ true ∷ false ∷ false ∷ []) ∷ []
unfolding opens opens_write
denied_keys = refl

-- an integrity domain is denied where it can only be read
denied_integrity :
    map (λ p. is_denied (trust_of_two second_flag true) p 2) bits_of_two
    ≡ false ∷ true ∷ true ∷ true ∷ []
unfolding opens opens_write
denied_integrity = refl

-- ---- places

-- before, first and last byte of each text, after
text_keys :
    map (text_key (trust_of_two no_flag true))
    (0 ∷ 0x401FFF ∷ 0x402000 ∷ 0x402FFF ∷ 0x403000 ∷ 0x403FFF ∷ 0x404000 ∷ [])
    ≡ 0 ∷ 0 ∷ 1 ∷ 1 ∷ 2 ∷ 2 ∷ 0 ∷ []
unfolding text_key
text_keys = refl

-- the entries themselves, and text beside them
entry_keys :
    map (entry_key (trust_of_two no_flag true))
    (0 ∷ 0x402000 ∷ 0x40200B ∷ 0x40200C ∷ 0x40200D ∷ 0x40300C ∷ 0x403000 ∷ [])
    ≡ 0 ∷ 0 ∷ 0 ∷ 1 ∷ 0 ∷ 2 ∷ 0 ∷ []
unfolding entry_key
entry_keys = refl

-- ---- closed, at home, outside

-- of a thread in text of 1, in text of 2, and in none: is it open, at home, inside (open and at
-- home), outside (open and not at home)
abbrev thread : ℕ → ℕ → Thread
thread pkru rip = record (thread_at rip 0 0 0) { pkru = pkru }

stands : TrustValue → ℕ → ℕ → List Bool
unfolding opened_domains opens opens_write is_set_but text_key
stands trust pkru rip =
    is_open trust pkru ∷ is_at_home trust pkru rip ∷ is_inside trust (thread pkru rip)
    ∷ is_outside trust (thread pkru rip) ∷ []

abbrev three_places : List ℕ
three_places = 0x402000 ∷ 0x403000 ∷ 0x401000 ∷ []

abbrev resting : List Bool
resting = false ∷ true ∷ false ∷ false ∷ []

abbrev away : List Bool
away = false ∷ false ∷ false ∷ false ∷ []

abbrev inside : List Bool
inside = true ∷ true ∷ true ∷ false ∷ []

abbrev outside : List Bool
outside = true ∷ false ∷ false ∷ true ∷ []

closed_stands :
    map (stands (trust_of_two no_flag true) 0x55555554) three_places
    ≡ resting ∷ resting ∷ away ∷ []
unfolding stands
closed_stands = refl

-- opens 1 alone, 2 alone, both
first_stands :
    map (stands (trust_of_two no_flag true) 0x55555550) three_places
    ≡ inside ∷ outside ∷ outside ∷ []
unfolding stands
first_stands = refl

second_stands :
    map (stands (trust_of_two no_flag true) 0x55555544) three_places
    ≡ outside ∷ inside ∷ outside ∷ []
unfolding stands
second_stands = refl

both_stand :
    map (stands (trust_of_two no_flag true) 0x55555540) three_places
    ≡ outside ∷ outside ∷ outside ∷ []
unfolding stands
both_stand = refl

-- 2 is an integrity domain: opens 1 and reads 2; reads 2; opens 2 alone; opens both
reading_stands :
    map (λ p. map (stands (trust_of_two second_flag true) p) three_places)
    (0x55555560 ∷ 0x55555564 ∷ 0x55555544 ∷ 0x55555540 ∷ [])
    ≡ (inside ∷ outside ∷ outside ∷ []) ∷ (resting ∷ resting ∷ away ∷ [])
    ∷ (outside ∷ inside ∷ outside ∷ []) ∷ (outside ∷ outside ∷ outside ∷ []) ∷ []
unfolding stands
reading_stands = refl

-- keys that are no domain open nothing
other_keys_stand :
    map (stands (trust_of_two no_flag true) 0x55555014) three_places
    ≡ resting ∷ resting ∷ away ∷ []
unfolding stands
other_keys_stand = refl

-- in version 1: open in text and outside it
plain_stands :
    map (stands (plain_trust (span 0x402000 4096 ∷ []) []) 0x55555550) (0x402000 ∷ 0x401000 ∷ [])
    ≡ inside ∷ outside ∷ []
unfolding stands
plain_stands = refl

-- ---- what the check after a WRPKRU compares with

-- the places are after it: an entry of 1, of 2, none. In a strict trust the value that opens the
-- entry's domain, else that of a closed thread; in a plain one always that
compared_values :
    map (λ (t : TrustValue). map (compared_value t)
    (0x40200C ∷ 0x40300C ∷ 0x402000 ∷ 0x401000 ∷ []))
    (trust_of_two no_flag true ∷ trust_of_two first_flag true ∷ trust_of_two second_flag true
    ∷ trust_of_two no_flag false ∷ [])
    ≡ (0x55555550 ∷ 0x55555544 ∷ 0x55555554 ∷ 0x55555554 ∷ [])
    ∷ (0x55555550 ∷ 0x55555548 ∷ 0x55555558 ∷ 0x55555558 ∷ [])
    ∷ (0x55555560 ∷ 0x55555544 ∷ 0x55555564 ∷ 0x55555564 ∷ [])
    ∷ (0x55555554 ∷ 0x55555554 ∷ 0x55555554 ∷ 0x55555554 ∷ []) ∷ []
unfolding pkru_of entry_key
compared_values = refl

-- cmp eax, value; je; mov eax, 231; syscall: je and what follows are the same
abbrev check_with : ℕ → List ℕ
check_with low =
    0x3D ∷ low ∷ 0x55 ∷ 0x55 ∷ 0x55 ∷ 0x74 ∷ 0x07 ∷ 0xB8 ∷ 0xE7 ∷ 0 ∷ 0 ∷ 0 ∷ 0x0F ∷ 0x05 ∷ []

-- before an entry of 1, of 2, and elsewhere; in a plain trust
checks :
    map (check_of (trust_of_two no_flag true) Wrpkru) (0x40200C ∷ 0x40300C ∷ 0x401003 ∷ [])
    ++ map (check_of (trust_of_two no_flag false) Wrpkru) (0x40200C ∷ 0x40300C ∷ [])
    ++ map (check_of (trust_of_two second_flag true) Wrpkru) (0x40200C ∷ 0x401003 ∷ [])
    ≡ check_with 0x50 ∷ check_with 0x44 ∷ check_with 0x54 ∷ check_with 0x54 ∷ check_with 0x54
    ∷ check_with 0x60 ∷ check_with 0x64 ∷ []
unfolding check_of pkru_of entry_key
checks = refl

-- after XRSTOR: bt eax, 9; jae; mov eax, 231; syscall, also before an entry
xrstor_checks :
    map (check_of (trust_of_two no_flag true) Xrstor) (0x40200C ∷ 0x401003 ∷ [])
    ≡ (0x0F ∷ 0xBA ∷ 0xE0 ∷ 0x09 ∷ 0x73 ∷ 0x07 ∷ 0xB8 ∷ 0xE7 ∷ 0 ∷ 0 ∷ 0 ∷ 0x0F ∷ 0x05 ∷ [])
    ∷ (0x0F ∷ 0xBA ∷ 0xE0 ∷ 0x09 ∷ 0x73 ∷ 0x07 ∷ 0xB8 ∷ 0xE7 ∷ 0 ∷ 0 ∷ 0 ∷ 0x0F ∷ 0x05 ∷ []) ∷ []
unfolding check_of pkru_of entry_key
xrstor_checks = refl

-- its instructions, before an entry of 2: where they begin, and what their bytes decode to
starts :
    map (position_start (trust_of_two no_flag true) Wrpkru 0x40300C)
    (Compare ∷ Branch ∷ Number ∷ Leave ∷ [])
    ≡ 0 ∷ 5 ∷ 7 ∷ 12 ∷ []
unfolding pkru_of entry_key
starts = refl

instructions :
    map (λ p. decode (check_bytes (trust_of_two second_flag true) Wrpkru 0x40200C p))
    (Compare ∷ Branch ∷ Number ∷ Leave ∷ [])
    ≡ Insn (check_insn (trust_of_two second_flag true) Wrpkru 0x40200C Compare) 5 0
    ∷ Insn (check_insn (trust_of_two second_flag true) Wrpkru 0x40200C Branch) 2 0
    ∷ Insn (check_insn (trust_of_two second_flag true) Wrpkru 0x40200C Number) 5 0
    ∷ Insn (check_insn (trust_of_two second_flag true) Wrpkru 0x40200C Leave) 2 0 ∷ []
unfolding step_by pkru_of entry_key
instructions = refl

compare_insn :
    check_insn (trust_of_two second_flag true) Wrpkru 0x40200C Compare
    ≡ Alu Cmp W4 (Reg 0) (Imm (pos 0x55555560)) false
unfolding pkru_of entry_key
compare_insn = refl

-- ---- safe sequences, the code lying at 0x402009: the entry of 1 is after its WRPKRU

wrpkru : List ℕ
wrpkru = 0x0F ∷ 0x01 ∷ 0xEF ∷ []

-- is what begins the code unsafe
unsafe_in : TrustValue → ℕ → List ℕ → Option Found
unfolding unsafe_at occurrence_at are_present has_sib disp_size fits check_of pkru_of entry_key
unsafe_in trust at bytes = unsafe_at trust (laid_at at bytes) at

found : ℕ → Option Found
found at = Some (record { at = at; len = 3; kind = Wrpkru })

-- a strict trust, before the entry of 1: without a check, with the check of 1, with that of 2, with
-- that of a closed thread; and likewise before the entry of 2
strict_entries :
    map (λ check. unsafe_in (trust_of_two no_flag true) 0x402009 (wrpkru ++ check))
    ((0x90 ∷ []) ∷ check_with 0x50 ∷ check_with 0x44 ∷ check_with 0x54 ∷ [])
    ++ map (λ check. unsafe_in (trust_of_two no_flag true) 0x403009 (wrpkru ++ check))
    ((0x90 ∷ []) ∷ check_with 0x50 ∷ check_with 0x44 ∷ check_with 0x54 ∷ [])
    ≡ found 0x402009 ∷ None ∷ found 0x402009 ∷ found 0x402009
    ∷ found 0x403009 ∷ found 0x403009 ∷ None ∷ found 0x403009 ∷ []
unfolding unsafe_in wrpkru found
strict_entries = refl

-- outside entries, in text and elsewhere: the check of a closed thread alone
strict_elsewhere :
    map (λ check. unsafe_in (trust_of_two no_flag true) 0x402100 (wrpkru ++ check))
    (check_with 0x54 ∷ check_with 0x50 ∷ check_with 0x44 ∷ [])
    ++ map (λ check. unsafe_in (trust_of_two no_flag true) 0x401000 (wrpkru ++ check))
    (check_with 0x54 ∷ check_with 0x50 ∷ check_with 0x44 ∷ [])
    ≡ None ∷ found 0x402100 ∷ found 0x402100 ∷ None ∷ found 0x401000 ∷ found 0x401000 ∷ []
unfolding unsafe_in wrpkru found
strict_elsewhere = refl

-- 2 is an integrity domain: before the entry of 1 the check compares with 0x55555560, elsewhere
-- with 0x55555564
strict_integrity :
    map (λ check. unsafe_in (trust_of_two second_flag true) 0x402009 (wrpkru ++ check))
    (check_with 0x60 ∷ check_with 0x50 ∷ check_with 0x64 ∷ [])
    ++ map (λ check. unsafe_in (trust_of_two second_flag true) 0x401000 (wrpkru ++ check))
    (check_with 0x64 ∷ check_with 0x54 ∷ [])
    ≡ None ∷ found 0x402009 ∷ found 0x402009 ∷ None ∷ found 0x401000 ∷ []
unfolding unsafe_in wrpkru found
strict_integrity = refl

-- each byte of a check counts, and absent ones contradict nothing: the first bytes up to each
-- number, and those with another one after them
strict_prefixes :
    map (λ n. unsafe_in (trust_of_two no_flag true) 0x402009 (wrpkru ++ take n (check_with 0x50)))
    (0 ∷ 1 ∷ 2 ∷ 5 ∷ 13 ∷ 14 ∷ [])
    ++ map (λ n. unsafe_in (trust_of_two no_flag true) 0x402009
    (wrpkru ++ (take n (check_with 0x50) ++ 0xCC ∷ []))) (0 ∷ 1 ∷ 4 ∷ 5 ∷ 13 ∷ 14 ∷ [])
    ≡ None ∷ None ∷ None ∷ None ∷ None ∷ None
    ∷ found 0x402009 ∷ found 0x402009 ∷ found 0x402009 ∷ found 0x402009 ∷ found 0x402009 ∷ None
    ∷ []
unfolding unsafe_in wrpkru found
strict_prefixes = refl

-- in a plain trust an entry is enough, whatever follows; elsewhere it needs its check
plain_entries :
    map (λ check. unsafe_in (trust_of_two no_flag false) 0x402009 (wrpkru ++ check))
    ((0x90 ∷ []) ∷ check_with 0x50 ∷ check_with 0x44 ∷ check_with 0x54 ∷ [])
    ++ map (λ check. unsafe_in (trust_of_two no_flag false) 0x401000 (wrpkru ++ check))
    ((0x90 ∷ []) ∷ check_with 0x50 ∷ check_with 0x54 ∷ [])
    ≡ None ∷ None ∷ None ∷ None ∷ found 0x401000 ∷ found 0x401000 ∷ None ∷ []
unfolding unsafe_in wrpkru found
plain_entries = refl

-- ---- XRSTOR: its own check in every trust, and no entry is enough

-- xrstor [0x7FFEE000], 8 bytes, which ends before the entry of 1
xrstor : List ℕ
xrstor = 0x0F ∷ 0xAE ∷ 0x2C ∷ 0x25 ∷ 0x00 ∷ 0xE0 ∷ 0xFE ∷ 0x7F ∷ []

-- with a second byte
xrstor_check : ℕ → List ℕ
xrstor_check second =
    0x0F ∷ second ∷ 0xE0 ∷ 0x09 ∷ 0x73 ∷ 0x07 ∷ 0xB8 ∷ 0xE7 ∷ 0 ∷ 0 ∷ 0 ∷ 0x0F ∷ 0x05 ∷ []

xrstor_found : ℕ → Option Found
xrstor_found at = Some (record { at = at; len = 8; kind = Xrstor })

xrstors :
    map (λ (t : TrustValue). map (λ check. unsafe_in t 0x402004 (xrstor ++ check))
    (xrstor_check 0xBA ∷ xrstor_check 0xBB ∷ (0x90 ∷ []) ∷ check_with 0x50 ∷ [] ∷ []))
    (trust_of_two no_flag true ∷ trust_of_two no_flag false ∷ [])
    ≡ (None ∷ xrstor_found 0x402004 ∷ xrstor_found 0x402004 ∷ xrstor_found 0x402004 ∷ None ∷ [])
    ∷ (None ∷ xrstor_found 0x402004 ∷ xrstor_found 0x402004 ∷ xrstor_found 0x402004 ∷ None ∷ [])
    ∷ []
unfolding unsafe_in xrstor xrstor_check xrstor_found
xrstors = refl
