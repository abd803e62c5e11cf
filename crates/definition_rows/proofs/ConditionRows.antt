-- The sixteen conditions at all flags, computed. The values are those of a processor (SDM volume 2,
-- Jcc).
use Rattle.std.proofs.Common.{◌≡◌, ℕ, ◌/◌, ◌%◌, ◌==◌, List, [], ◌∷◌, filter, refl}
use Rattle.erim_defs.specs.declared.machine.Flags.{Flags}
use Rattle.erim_defs.specs.Machine.Alu.{condition}

-- CF counts 1, PF 2, ZF 4, SF 8 and OF 16
abbrev flags_of : ℕ → Flags
flags_of n =
    record {
      cf = n % 2 == 1;
      pf = n / 2 % 2 == 1;
      zf = n / 4 % 2 == 1;
      sf = n / 8 % 2 == 1;
      of = n / 16 == 1;
    }

below_32 : List ℕ
below_32 =
    0 ∷ 1 ∷ 2 ∷ 3 ∷ 4 ∷ 5 ∷ 6 ∷ 7 ∷ 8 ∷ 9 ∷ 10 ∷ 11 ∷ 12 ∷ 13 ∷ 14 ∷ 15 ∷ 16 ∷ 17 ∷ 18 ∷ 19 ∷ 20
    ∷ 21 ∷ 22 ∷ 23 ∷ 24 ∷ 25 ∷ 26 ∷ 27 ∷ 28 ∷ 29 ∷ 30 ∷ 31 ∷ []

-- at which flags a condition holds
abbrev holds : ℕ → List ℕ
holds c = filter (λ n. condition c (flags_of n)) below_32

-- JO
overflow :
    holds 0 ≡ 16 ∷ 17 ∷ 18 ∷ 19 ∷ 20 ∷ 21 ∷ 22 ∷ 23 ∷ 24 ∷ 25 ∷ 26 ∷ 27 ∷ 28 ∷ 29 ∷ 30 ∷ 31 ∷ []
unfolding condition below_32
overflow = refl

-- JNO
no_overflow : holds 1 ≡ 0 ∷ 1 ∷ 2 ∷ 3 ∷ 4 ∷ 5 ∷ 6 ∷ 7 ∷ 8 ∷ 9 ∷ 10 ∷ 11 ∷ 12 ∷ 13 ∷ 14 ∷ 15 ∷ []
unfolding condition below_32
no_overflow = refl

-- JB
carry : holds 2 ≡ 1 ∷ 3 ∷ 5 ∷ 7 ∷ 9 ∷ 11 ∷ 13 ∷ 15 ∷ 17 ∷ 19 ∷ 21 ∷ 23 ∷ 25 ∷ 27 ∷ 29 ∷ 31 ∷ []
unfolding condition below_32
carry = refl

-- JAE
no_carry : holds 3 ≡ 0 ∷ 2 ∷ 4 ∷ 6 ∷ 8 ∷ 10 ∷ 12 ∷ 14 ∷ 16 ∷ 18 ∷ 20 ∷ 22 ∷ 24 ∷ 26 ∷ 28 ∷ 30 ∷ []
unfolding condition below_32
no_carry = refl

-- JE
zero : holds 4 ≡ 4 ∷ 5 ∷ 6 ∷ 7 ∷ 12 ∷ 13 ∷ 14 ∷ 15 ∷ 20 ∷ 21 ∷ 22 ∷ 23 ∷ 28 ∷ 29 ∷ 30 ∷ 31 ∷ []
unfolding condition below_32
zero = refl

-- JNE
not_zero : holds 5 ≡ 0 ∷ 1 ∷ 2 ∷ 3 ∷ 8 ∷ 9 ∷ 10 ∷ 11 ∷ 16 ∷ 17 ∷ 18 ∷ 19 ∷ 24 ∷ 25 ∷ 26 ∷ 27 ∷ []
unfolding condition below_32
not_zero = refl

-- JBE
carry_or_zero :
    holds 6
    ≡ 1 ∷ 3 ∷ 4 ∷ 5 ∷ 6 ∷ 7 ∷ 9 ∷ 11 ∷ 12 ∷ 13 ∷ 14 ∷ 15 ∷ 17 ∷ 19 ∷ 20 ∷ 21 ∷ 22 ∷ 23 ∷ 25 ∷ 27
    ∷ 28 ∷ 29 ∷ 30 ∷ 31 ∷ []
unfolding condition below_32
carry_or_zero = refl

-- JA
no_carry_nor_zero : holds 7 ≡ 0 ∷ 2 ∷ 8 ∷ 10 ∷ 16 ∷ 18 ∷ 24 ∷ 26 ∷ []
unfolding condition below_32
no_carry_nor_zero = refl

-- JS
sign : holds 8 ≡ 8 ∷ 9 ∷ 10 ∷ 11 ∷ 12 ∷ 13 ∷ 14 ∷ 15 ∷ 24 ∷ 25 ∷ 26 ∷ 27 ∷ 28 ∷ 29 ∷ 30 ∷ 31 ∷ []
unfolding condition below_32
sign = refl

-- JNS
no_sign : holds 9 ≡ 0 ∷ 1 ∷ 2 ∷ 3 ∷ 4 ∷ 5 ∷ 6 ∷ 7 ∷ 16 ∷ 17 ∷ 18 ∷ 19 ∷ 20 ∷ 21 ∷ 22 ∷ 23 ∷ []
unfolding condition below_32
no_sign = refl

-- JP
parity : holds 10 ≡ 2 ∷ 3 ∷ 6 ∷ 7 ∷ 10 ∷ 11 ∷ 14 ∷ 15 ∷ 18 ∷ 19 ∷ 22 ∷ 23 ∷ 26 ∷ 27 ∷ 30 ∷ 31 ∷ []
unfolding condition below_32
parity = refl

-- JNP
no_parity : holds 11 ≡ 0 ∷ 1 ∷ 4 ∷ 5 ∷ 8 ∷ 9 ∷ 12 ∷ 13 ∷ 16 ∷ 17 ∷ 20 ∷ 21 ∷ 24 ∷ 25 ∷ 28 ∷ 29 ∷ []
unfolding condition below_32
no_parity = refl

-- JL
less : holds 12 ≡ 8 ∷ 9 ∷ 10 ∷ 11 ∷ 12 ∷ 13 ∷ 14 ∷ 15 ∷ 16 ∷ 17 ∷ 18 ∷ 19 ∷ 20 ∷ 21 ∷ 22 ∷ 23 ∷ []
unfolding condition below_32
less = refl

-- JGE
not_less : holds 13 ≡ 0 ∷ 1 ∷ 2 ∷ 3 ∷ 4 ∷ 5 ∷ 6 ∷ 7 ∷ 24 ∷ 25 ∷ 26 ∷ 27 ∷ 28 ∷ 29 ∷ 30 ∷ 31 ∷ []
unfolding condition below_32
not_less = refl

-- JLE
less_or_zero :
    holds 14
    ≡ 4 ∷ 5 ∷ 6 ∷ 7 ∷ 8 ∷ 9 ∷ 10 ∷ 11 ∷ 12 ∷ 13 ∷ 14 ∷ 15 ∷ 16 ∷ 17 ∷ 18 ∷ 19 ∷ 20 ∷ 21 ∷ 22 ∷ 23
    ∷ 28 ∷ 29 ∷ 30 ∷ 31 ∷ []
unfolding condition below_32
less_or_zero = refl

-- JG
not_less_nor_zero : holds 15 ≡ 0 ∷ 1 ∷ 2 ∷ 3 ∷ 24 ∷ 25 ∷ 26 ∷ 27 ∷ []
unfolding condition below_32
not_less_nor_zero = refl
