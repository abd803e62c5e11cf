-- What is encoded is in range, form by form.
use Rattle.std.proofs.Common.{◌⊎◌, ◌≡◌, ℕ, ◌-◌, ◌/◌, ◌%◌, ◌^◌, ◌<◌, ◌≤◌, ◌==◌, ◌&&◌, ◌||◌, not}
use Rattle.std.proofs.Common.{nat_lt, nat_le, Bool, true, false, List, [], ◌∷◌, length, refl, sym}
use Rattle.std.proofs.Common.{subst, ◌∙◌, arith, inl, inr, if◌then◌else◌, rules}
use Rattle.std.proofs.lemmas.Bool.{ltb-true, ltb-false, leb-true, eqb-true, and_left, and_right}
use Rattle.erim_defs.specs.declared.grammar.Fields.{Fields}
use Rattle.erim_defs.specs.declared.grammar.Lead.{Lead}
use Rattle.erim_defs.specs.declared.grammar.Row.{Row}
use Rattle.erim_defs.specs.declared.grammar.Form.{Form}
use Rattle.erim_defs.specs.declared.grammar.Form.TheVariants.{Arithmetic, Move, Flow, Exchange}
use Rattle.erim_defs.specs.declared.grammar.Form.TheVariants.{System}
use Rattle.erim_defs.specs.declared.grammar.Arithmetic.{Arithmetic as ArithmeticForm}
use Rattle.erim_defs.specs.declared.grammar.Arithmetic.TheVariants as arithmetics
use Rattle.erim_defs.specs.declared.grammar.Move.{Move as MoveForm}
use Rattle.erim_defs.specs.declared.grammar.Move.TheVariants as moves
use Rattle.erim_defs.specs.declared.grammar.Flow.{Flow as FlowForm}
use Rattle.erim_defs.specs.declared.grammar.Flow.TheVariants as flows
use Rattle.erim_defs.specs.declared.grammar.Exchange.{Exchange as ExchangeForm}
use Rattle.erim_defs.specs.declared.grammar.Exchange.TheVariants as exchanges
use Rattle.erim_defs.specs.declared.grammar.System.{System as SystemForm}
use Rattle.erim_defs.specs.declared.grammar.System.TheVariants as systems
use Rattle.erim_defs.specs.declared.insn.Insn.{Insn}
use Rattle.erim_defs.specs.declared.insn.Place.{Place}
use Rattle.erim_defs.specs.declared.insn.Place.TheVariants.{Reg, High, At}
use Rattle.erim_defs.specs.declared.insn.Width.{Width}
use Rattle.erim_defs.specs.declared.insn.Width.TheVariants.{W1, W4, W8}
use Rattle.erim_defs.specs.Encoding.Parts.{AreBytes, signed_value}
use Rattle.erim_defs.specs.Encoding.Operand.{reg_with_bit}
use Rattle.erim_defs.specs.Encoding.OpcodeTable.{Ask, NoModRM, Any, Ext, AnyMemory, Memory, Exactly}
use Rattle.erim_defs.specs.Encoding.OpcodeTable.{Line, table_lines, in_line, has_modrm, ask_fits}
use Rattle.erim_defs.specs.Encoding.OpcodeTable.{same_bool, w_fits}
use Rattle.erim_defs.specs.Encoding.Forms.{operand_width, rex_width, register_named, rm_place}
use Rattle.erim_defs.specs.Encoding.Forms.{byte_rm_place, reg_place, reg_number, memory_of}
use Rattle.erim_defs.specs.Encoding.Forms.{opcode_reg, alu_op, imm8, imm64, arithmetic_of, move_of}
use Rattle.erim_defs.specs.Encoding.Forms.{flow_of, exchange_of, system_of, insn_of}
use Rattle.erim_defs.specs.Encoding.Grammar.{InsnAndSizes, In, Encodes, lead_of, admits, fields_of}
use Rattle.erim_defs.specs.Encoding.Canonical.{alu_number}
use Rattle.encoding_laws.proofs.LineLemmas.{every, every_in, and_true}
use Rattle.erim_defs.proofs.TableLemmas.{table, tabulated}
use Rattle.x86_encode.proofs.Facts.{limit, MemFits, PlaceFits, is_memory}
use Rattle.x86_encode.proofs.Views.{WidthFits, IsWord, SizedFits, IsLow, place_up, limit_low}
use Rattle.x86_encode.proofs.Good.{NumberFits, WordFits, ExchangeFits, IsGood}
use Rattle.x86_encode.proofs.Shapes.{RexFits, extended_fits, signed_fits, one_fits, zero_low, Shape}
use Rattle.x86_encode.proofs.Shapes.{lead_fits, body_shape}

-- ---- what each line of the table says beside its row, computed

abbrev below_seven : Ask → Bool
below_seven NoModRM = false
below_seven Any = false
below_seven (Ext reg) = nat_lt reg 7
below_seven AnyMemory = false
below_seven (Memory reg) = false
below_seven (Exactly m) = false

abbrev is_fence : Ask → Bool
is_fence NoModRM = false
is_fence Any = false
is_fence (Ext reg) = false
is_fence AnyMemory = false
is_fence (Memory reg) = false
is_fence (Exactly m) = nat_le 5 (m / 8 % 8)

-- the number of an even opcode has one byte
abbrev even_one : ℕ → ℕ → Bool
even_one op size = not (op % 2 == 0) || size == 1

abbrev form_fits : Form → ℕ → ℕ → Bool → Ask → Bool
form_fits (Arithmetic arithmetics.AluMr) op size locks ask = not locks || nat_lt op 56
form_fits (Arithmetic arithmetics.AluMi) op size locks ask =
    (not locks || below_seven ask) && even_one op size
form_fits (Arithmetic arithmetics.AluI) op size locks ask = even_one op size
form_fits (Arithmetic arithmetics.TestI) op size locks ask = even_one op size
form_fits (Arithmetic arithmetics.TestMi) op size locks ask = even_one op size
form_fits (Move moves.MovMi) op size locks ask = even_one op size
form_fits (Move moves.MovByteOi) op size locks ask = size == 1
form_fits (System systems.FenceZo) op size locks ask = is_fence ask
form_fits form op size locks ask = true

abbrev line_fits : ℕ → Line → Bool
line_fits op line = not (in_line line line.escape op)
    || (form_fits line.row.form op line.row.imm line.row.locks line.ask
    && (not line.row.locks || has_modrm line.ask))

lines_fit : table (λ op. every (line_fits op) table_lines) 256 ≡ table (λ op. true) 256
lines_fit = refl

pub by_line : (line : Line) (op : ℕ) → op < 256 → In table_lines line
    → in_line line line.escape op ≡ true
    → (form_fits line.row.form op line.row.imm line.row.locks line.ask ≡ true)
    × ((not line.row.locks || has_modrm line.ask) ≡ true)
by_line line op lt i e =
    let here : line_fits op line ≡ true =
    every_in (line_fits op) table_lines line
    (tabulated (λ n. every (line_fits n) table_lines) (λ n. true) 256 lines_fit op lt) i in
    and_true (form_fits line.row.form op line.row.imm line.row.locks line.ask) (not line.row.locks
    || has_modrm line.ask) (left_false (in_line line line.escape op) e here)
  where
    left_false : (a : Bool) → a ≡ true
        → (not a || (form_fits line.row.form op line.row.imm line.row.locks line.ask
        && (not line.row.locks || has_modrm
        line.ask))) ≡ true → (form_fits line.row.form op line.row.imm line.row.locks line.ask
        && (not line.row.locks || has_modrm line.ask)) ≡ true
    left_false true p q = q
    left_false false p q = absurd cc

pub or_true : (a b : Bool) → (not a || b) ≡ true → a ≡ true → b ≡ true
or_true true b e h = e
or_true false b e h = absurd cc

-- ---- what is known of the fields

pub record Known (row : Row) (ask : Ask) (f : Fields) (imm : List ℕ) : Type 0 where
  pub rex : RexFits f.rex
  pub fits : PlaceFits (limit f.rex.any) f.place
  pub low : IsLow f.place
  pub locked : f.lock ≡ true → (row.locks ≡ true) × (is_memory f.place ≡ true)
  pub line : form_fits row.form f.op row.imm row.locks ask ≡ true
  pub asked : ask_fits ask f.m ≡ true
  pub long : length imm ≡ row.imm
  pub bytes : AreBytes imm

width_fits : (f : Fields) → RexFits f.rex → WidthFits f.rex.any (operand_width f)
unfolding operand_width
width_fits f r = by (f.op % 2 == 0) f.rex.w refl
  where
    any_of : (a : Bool) → (a ≡ false → f.rex.w ≡ false) → f.rex.w ≡ true → a ≡ true
    any_of true h e = refl
    any_of false h e = absurd (let k = h refl in cc)

    by : (x w : Bool) → f.rex.w ≡ w → WidthFits f.rex.any (if x then W1 else if w then W8 else W4)
    by true w e = tt
    by false true e = any_of f.rex.any r.w e
    by false false e = tt

word_fits : (f : Fields) → RexFits f.rex → IsWord f.rex.any (rex_width f)
unfolding rex_width
word_fits f r = by f.rex.w refl
  where
    any_of : (a : Bool) → (a ≡ false → f.rex.w ≡ false) → f.rex.w ≡ true → a ≡ true
    any_of true h e = refl
    any_of false h e = absurd (let k = h refl in cc)

    by : (w : Bool) → f.rex.w ≡ w → IsWord f.rex.any (if w then W8 else W4)
    by true e = any_of f.rex.any r.w e
    by false e = tt

named_fits : (w : Width) (any : Bool) (n : ℕ) → n < limit any
    → SizedFits any w (register_named w any n)
unfolding register_named
named_fits W1 true n h = record { fits = h; view = λ e. absurd cc }
named_fits W1 false n h = by (nat_le 4 n) (nat_lt n 8) refl refl
  where
    by : (x y : Bool) → nat_le 4 n ≡ x → nat_lt n 8 ≡ y
        → SizedFits false W1 (if x && y then High (n - 4) else Reg n)
    by true true p q = let l = leb-true 4 n p in record { fits = omega arith; view = refl }
    by true false p q = let l = ltb-false n 8 q in absurd (omega arith)
    by false y p q = record { fits = h; view = λ e. small p }
      where
        small : nat_le 4 n ≡ false → n < 4
        small p = search (arith, ltb-false)
named_fits W4 any n h = record { fits = h; view = tt }
named_fits W8 any n h = record { fits = h; view = tt }

place_fits : (w : Width) (any : Bool) (p : Place) → PlaceFits (limit any) p → IsLow p
    → SizedFits any w (elim p [ Reg n ↦ register_named w any n | High n ↦ High n | At m ↦ At m ])
place_fits w any (Reg n) h low = named_fits w any n h
place_fits w any (High n) h low = absurd low
place_fits W1 any (At m) h low = record { fits = h; view = tt }
place_fits W4 any (At m) h low = record { fits = h; view = tt }
place_fits W8 any (At m) h low = record { fits = h; view = tt }

rm_fits : (f : Fields) → PlaceFits (limit f.rex.any) f.place → IsLow f.place
    → SizedFits f.rex.any (operand_width f) (rm_place f)
unfolding rm_place
rm_fits f h low = place_fits (operand_width f) f.rex.any f.place h low

byte_fits : (f : Fields) → PlaceFits (limit f.rex.any) f.place → IsLow f.place
    → SizedFits f.rex.any W1 (byte_rm_place f)
unfolding byte_rm_place
byte_fits f h low = place_fits W1 f.rex.any f.place h low

number_fits : (f : Fields) → RexFits f.rex → reg_number f < limit f.rex.any
unfolding reg_number
number_fits f r = extended_fits f.rex.any f.rex.r (f.m / 8 % 8) (omega arith) r.r

number_low : (f : Fields) → RexFits f.rex → reg_number f < 16
number_low f r = let h = number_fits f r in let k = limit_low f.rex.any in omega arith

reg_fits : (f : Fields) → RexFits f.rex → SizedFits f.rex.any (operand_width f) (reg_place f)
unfolding reg_place
reg_fits f r = named_fits (operand_width f) f.rex.any (reg_with_bit f.rex.r (f.m / 8 % 8))
    (extended_fits f.rex.any f.rex.r (f.m / 8 % 8) (omega arith) r.r)

named_flat : (w : Width) (any : Bool) (n : ℕ) → is_memory (register_named w any n) ≡ false
unfolding register_named
named_flat W1 any n = by (not any && (nat_le 4 n && nat_lt n 8))
  where
    by : (b : Bool) → is_memory (if b then High (n - 4) else Reg n) ≡ false
    by true = refl
    by false = refl
named_flat W4 any n = refl
named_flat W8 any n = refl

reg_flat : (f : Fields) → is_memory (reg_place f) ≡ false
unfolding reg_place
reg_flat f = named_flat (operand_width f) f.rex.any (reg_with_bit f.rex.r (f.m / 8 % 8))

-- a place in memory is so at any width
rm_memory : (f : Fields) → is_memory f.place ≡ true → is_memory (rm_place f) ≡ true
unfolding rm_place
rm_memory f e = by f.place e
  where
    by : (p : Place) → is_memory p ≡ true
        → is_memory (elim p [
          | Reg n ↦ register_named (operand_width f) f.rex.any n
          | High n ↦
              High n
          | At m ↦ At m
        ]) ≡ true
    by (Reg n) e = absurd cc
    by (High n) e = absurd cc
    by (At m) e = refl

first_fits : (w : Width) (any : Bool) → SizedFits any w (Reg 0)
first_fits W1 any = record { fits = zero_low any; view = λ e. omega arith }
first_fits W4 any = record { fits = zero_low any; view = tt }
first_fits W8 any = record { fits = zero_low any; view = tt }

imm_fits : (f : Fields) (imm : List ℕ) (size : ℕ) → length imm ≡ size → AreBytes imm
    → even_one f.op size ≡ true → NumberFits (operand_width f) (signed_value imm)
unfolding operand_width
imm_fits f imm size long are e = by (f.op % 2 == 0) f.rex.w e
  where
    by : (x w : Bool) → (not x || size == 1) ≡ true
        → NumberFits (if x then W1 else if w then W8 else W4) (signed_value imm)
    by true w e = one_fits imm are (long ∙ eqb-true size 1 e)
    by false true e = signed_fits imm are
    by false false e = signed_fits imm are

word_place : (f : Fields) → PlaceFits (limit f.rex.any) f.place → IsLow f.place → WordFits f.place
word_place f h low = record { fits = place_up f.rex.any f.place h; plain = low }

memory_fits : (p : Place) → PlaceFits 16 p → MemFits 16 (memory_of p)
unfolding memory_of
memory_fits (At m) h = h
memory_fits (Reg n) h = record {
  base = tt;
  index = tt;
  scale = refl;
  rip = tt;
  disp = search
      rules;
}
memory_fits (High n) h =
    record { base = tt; index = tt; scale = refl; rip = tt; disp = search rules }

opcode_low : (f : Fields) → RexFits f.rex → opcode_reg f < 16
unfolding opcode_reg
opcode_low f r = let h = extended_fits f.rex.any f.rex.b (f.op % 8) (omega arith) r.b in let k =
    limit_low f.rex.any in omega arith

opcode_fits : (f : Fields) → RexFits f.rex
    → SizedFits f.rex.any W1 (register_named W1 f.rex.any (opcode_reg f))
unfolding opcode_reg
opcode_fits f r = named_fits W1 f.rex.any (reg_with_bit f.rex.b (f.op % 8))
    (extended_fits f.rex.any f.rex.b (f.op % 8) (omega arith) r.b)

opcode_word : (f : Fields) → RexFits f.rex → SizedFits f.rex.any W4 (Reg (opcode_reg f))
unfolding opcode_reg
opcode_word f r = record {
  fits = extended_fits f.rex.any f.rex.b (f.op % 8) (omega arith) r.b;
  view = tt;
}

first_low : (imm : List ℕ) → AreBytes imm → imm8 imm < 256
unfolding imm8
first_low [] h = omega arith
first_low (b ∷ bs) h = h.0

wide_low : (s : List ℕ) → AreBytes s → imm64 s < 2 ^ 64
unfolding imm64
wide_low (a ∷ b ∷ c ∷ d ∷ e ∷ f ∷ g ∷ h ∷ []) k = let k0 = k.0 in let k1 = k.1.0 in let k2 =
    k.1.1.0 in let k3 = k.1.1.1.0 in let k4 = k.1.1.1.1.0 in let k5 = k.1.1.1.1.1.0 in let k6 =
    k.1.1.1.1.1.1.0 in let k7 = k.1.1.1.1.1.1.1.0 in omega arith
wide_low s k = omega arith

alu_numbers : table (λ n. nat_lt (alu_number (alu_op n)) 7) 7 ≡ table (λ n. true) 7
unfolding alu_op alu_number
alu_numbers = refl

alu_below : (n : ℕ) → n < 7 → alu_number (alu_op n) < 7
alu_below n h = ltb-true (alu_number (alu_op n)) 7
    (tabulated (λ n. nat_lt (alu_number (alu_op n)) 7) (λ n. true) 7 alu_numbers n h)

ext_below : (ask : Ask) (m : ℕ) → below_seven ask ≡ true → ask_fits ask m ≡ true → m / 8 % 8 < 7
ext_below NoModRM m e h = absurd cc
ext_below Any m e h = absurd cc
ext_below (Ext reg) m e h = let q = eqb-true (m / 8 % 8) reg h in let l = ltb-true reg 7 e in
    omega arith
ext_below AnyMemory m e h = absurd cc
ext_below (Memory reg) m e h = absurd cc
ext_below (Exactly k) m e h = absurd cc

fence_kind : (ask : Ask) (m : ℕ) → is_fence ask ≡ true → ask_fits ask m ≡ true
    → (m / 8 % 8 ≡ 5) ⊎ ((m / 8 % 8 ≡ 6) ⊎ (m / 8 % 8 ≡ 7))
fence_kind NoModRM m e h = absurd cc
fence_kind Any m e h = absurd cc
fence_kind (Ext reg) m e h = absurd cc
fence_kind AnyMemory m e h = absurd cc
fence_kind (Memory reg) m e h = absurd cc
fence_kind (Exactly k) m e h = let q = eqb-true m k h in let l = leb-true 5 (k / 8 % 8) e in
    let j : 5 ≤ m / 8 % 8 = omega arith in by (m / 8 % 8) j (omega arith)
  where
    by : (n : ℕ) → 5 ≤ n → n < 8 → (n ≡ 5) ⊎ ((n ≡ 6) ⊎ (n ≡ 7))
    by n a b = grind arith

exchange_fits : (row : Row) (ask : Ask) (f : Fields) (imm : List ℕ) → Known row ask f imm
    → ExchangeFits f.rex.any (operand_width f) (rm_place f) (reg_place f) f.lock
exchange_fits row ask f imm k =
    record {
      wide = width_fits f k.rex;
      dst_fits = rm_fits f k.fits k.low;
      register = reg_fits f
          k.rex;
      flat = reg_flat f;
      locked = λ l. rm_memory f (k.locked l).1;
    }

-- ---- each form

arithmetic_good : (row : Row) (ask : Ask) (f : Fields) (imm : List ℕ) → Known row ask f imm
    → (v : ArithmeticForm) → row.form ≡ Arithmetic v → IsGood f.rex.any (arithmetic_of v f imm)
unfolding arithmetic_of
arithmetic_good row ask f imm k v e =
    by v (subst (λ x. form_fits x f.op row.imm row.locks ask ≡ true) e k.line)
  where
    by : (v : ArithmeticForm) → form_fits (Arithmetic v) f.op row.imm row.locks ask ≡ true
        → IsGood f.rex.any (arithmetic_of v f imm)
    by arithmetics.AluMr q = (
      width_fits f k.rex,
      rm_fits f k.fits k.low,
      (
        reg_fits f k.rex,
        and_right (is_memory (rm_place f)) (is_memory (reg_place f))
            (reg_flat f),
      ),
      (λ l. rm_memory f (k.locked l).1),
      λ l. (let n =
          ltb-true f.op 56 (or_true row.locks (nat_lt f.op 56) q (k.locked l).0) in
          alu_below (f.op / 8) (omega arith)),
    )
    by arithmetics.AluRm q = (
      width_fits f k.rex,
      reg_fits f k.rex,
      (
        rm_fits f k.fits k.low,
        and_left (is_memory (reg_place f)) (is_memory (rm_place f))
            (reg_flat f),
      ),
      (λ l. absurd cc),
      λ l. absurd cc,
    )
    by arithmetics.AluI q = (
      width_fits f k.rex,
      first_fits (operand_width f) f.rex.any,
      imm_fits f
          imm row.imm k.long k.bytes q,
      (λ l. absurd cc),
      λ l. absurd cc,
    )
    by arithmetics.AluMi q =
        let both = and_true (not row.locks || below_seven ask) (even_one f.op row.imm) q in (
          width_fits f k.rex,
          rm_fits f k.fits k.low,
          imm_fits f imm row.imm k.long k.bytes both.1,
          (λ l. rm_memory f (k.locked l).1),
          λ l. alu_below (f.m / 8 % 8)
              (ext_below ask f.m (or_true row.locks (below_seven ask) both.0 (k.locked l).0)
              k.asked),
        )
    by arithmetics.TestMr q =
        (width_fits f k.rex, rm_fits f k.fits k.low, (reg_fits f k.rex, reg_flat f))
    by arithmetics.TestI q = (
      width_fits f k.rex,
      first_fits (operand_width f) f.rex.any,
      imm_fits f imm row.imm k.long
          k.bytes q,
    )
    by arithmetics.TestMi q =
        (width_fits f k.rex, rm_fits f k.fits k.low, imm_fits f imm row.imm k.long k.bytes q)
    by arithmetics.ImulRm q = (word_fits f k.rex, number_low f k.rex, word_place f k.fits k.low, tt)
    by arithmetics.ImulRmi q =
        (word_fits f k.rex, number_low f k.rex, word_place f k.fits k.low, signed_fits imm k.bytes)
    by arithmetics.UnaryM q =
        (width_fits f k.rex, rm_fits f k.fits k.low, λ l. rm_memory f (k.locked l).1)
    by arithmetics.ShiftMi q = (width_fits f k.rex, rm_fits f k.fits k.low, first_low imm k.bytes)
    by arithmetics.ShiftM1 q = (width_fits f k.rex, rm_fits f k.fits k.low, omega arith)
    by arithmetics.ShiftMc q = (width_fits f k.rex, rm_fits f k.fits k.low, tt)
    by arithmetics.BtMi q = (word_fits f k.rex, word_place f k.fits k.low, first_low imm k.bytes)

move_good : (row : Row) (ask : Ask) (f : Fields) (imm : List ℕ) → Known row ask f imm
    → (v : MoveForm) → row.form ≡ Move v → IsGood f.rex.any (move_of v f imm)
unfolding move_of
move_good row ask f imm k v e =
    by v (subst (λ x. form_fits x f.op row.imm row.locks ask ≡ true) e k.line)
  where
    by : (v : MoveForm) → form_fits (Move v) f.op row.imm row.locks ask ≡ true
        → IsGood f.rex.any (move_of v f imm)
    by moves.MovMr q = (
      width_fits f k.rex,
      rm_fits f k.fits k.low,
      (
        reg_fits f k.rex,
        and_right (is_memory (rm_place f)) (is_memory (reg_place f))
            (reg_flat f),
      ),
    )
    by moves.MovRm q = (
      width_fits f k.rex,
      reg_fits f k.rex,
      (
        rm_fits f k.fits k.low,
        and_left (is_memory (reg_place f)) (is_memory (rm_place f))
            (reg_flat f),
      ),
    )
    by moves.MovByteOi q = (
      tt,
      opcode_fits f k.rex,
      one_fits imm k.bytes (k.long
          ∙ eqb-true row.imm 1 q),
    )
    by moves.MovOi q = (tt, opcode_word f k.rex, signed_fits imm k.bytes)
    by moves.MovMi q = (
      width_fits f k.rex,
      rm_fits f k.fits k.low,
      imm_fits f imm row.imm k.long
          k.bytes q,
    )
    by moves.MovWideOi q = (opcode_low f k.rex, wide_low imm k.bytes)
    by moves.LeaRm q = (
      word_fits f k.rex,
      number_low f k.rex,
      memory_fits f.place
          (place_up f.rex.any f.place k.fits),
    )
    by moves.MovSxdRm q = (number_low f k.rex, word_place f k.fits k.low)
    by moves.MovZxByteRm q =
        record {
          wide = word_fits f k.rex;
          low = number_fits f k.rex;
          each = inl
              (refl, byte_fits f k.fits k.low);
        }
    by moves.MovZxWordRm q =
        record {
          wide = word_fits f k.rex;
          low = number_fits f k.rex;
          each = inr
              (refl, word_place f k.fits k.low);
        }
    by moves.MovSxByteRm q =
        record {
          wide = word_fits f k.rex;
          low = number_fits f k.rex;
          each = inl
              (refl, byte_fits f k.fits k.low);
        }
    by moves.MovSxWordRm q =
        record {
          wide = word_fits f k.rex;
          low = number_fits f k.rex;
          each = inr
              (refl, word_place f k.fits k.low);
        }
    by moves.WidenZo q = word_fits f k.rex
    by moves.SpreadZo q = word_fits f k.rex
    by moves.CmovRm q = (
      omega arith,
      word_fits f k.rex,
      number_low f k.rex,
      word_place f k.fits
          k.low,
    )
    by moves.SetM q = (omega arith, byte_fits f k.fits k.low)

flow_good : (row : Row) (ask : Ask) (f : Fields) (imm : List ℕ) → Known row ask f imm
    → (v : FlowForm) → IsGood f.rex.any (flow_of v f imm)
unfolding flow_of
flow_good row ask f imm k flows.JccD = (omega arith, signed_fits imm k.bytes)
flow_good row ask f imm k flows.JmpD = signed_fits imm k.bytes
flow_good row ask f imm k flows.CallD = signed_fits imm k.bytes
flow_good row ask f imm k flows.JmpM = word_place f k.fits k.low
flow_good row ask f imm k flows.CallM = word_place f k.fits k.low
flow_good row ask f imm k flows.RetZo = tt
flow_good row ask f imm k flows.PushO = record { fits = opcode_low f k.rex; plain = tt }
flow_good row ask f imm k flows.PushI = signed_fits imm k.bytes
flow_good row ask f imm k flows.PushM = word_place f k.fits k.low
flow_good row ask f imm k flows.PopO = opcode_low f k.rex
flow_good row ask f imm k flows.LeaveZo = tt

exchange_good : (row : Row) (ask : Ask) (f : Fields) (imm : List ℕ) → Known row ask f imm
    → (v : ExchangeForm) → IsGood f.rex.any (exchange_of v f imm)
unfolding exchange_of
exchange_good row ask f imm k exchanges.XchgMr = exchange_fits row ask f imm k
exchange_good row ask f imm k exchanges.CmpxchgMr = exchange_fits row ask f imm k
exchange_good row ask f imm k exchanges.XaddMr = exchange_fits row ask f imm k

system_good : (row : Row) (ask : Ask) (f : Fields) (imm : List ℕ) → Known row ask f imm
    → (v : SystemForm) → row.form ≡ System v → IsGood f.rex.any (system_of v f imm)
unfolding system_of
system_good row ask f imm k v e =
    by v (subst (λ x. form_fits x f.op row.imm row.locks ask ≡ true) e k.line)
  where
    by : (v : SystemForm) → form_fits (System v) f.op row.imm row.locks ask ≡ true
        → IsGood f.rex.any (system_of v f imm)
    by systems.SyscallZo q = tt
    by systems.WrpkruZo q = tt
    by systems.RdpkruZo q = tt
    by systems.XrstorM q = memory_fits f.place (place_up f.rex.any f.place k.fits)
    by systems.FenceZo q = fence_kind ask f.m q k.asked
    by systems.Nop q = tt

known_good : (row : Row) (ask : Ask) (f : Fields) (imm : List ℕ) → Known row ask f imm
    → IsGood f.rex.any (insn_of row.form f imm)
unfolding insn_of
known_good row ask f imm k = by row.form refl
  where
    by : (v : Form) → row.form ≡ v → IsGood f.rex.any (insn_of v f imm)
    by (Arithmetic v) e = arithmetic_good row ask f imm k v e
    by (Move v) e = move_good row ask f imm k v e
    by (Flow v) e = flow_good row ask f imm k v
    by (Exchange v) e = exchange_good row ask f imm k v
    by (System v) e = system_good row ask f imm k v e

-- ---- a whole encoding

asks_all : (ask : Ask) (m : ℕ) → (has_modrm ask ≡ true → ask_fits ask m ≡ true)
    → ask_fits ask m ≡ true
asks_all NoModRM m h = refl
asks_all Any m h = refl
asks_all (Ext reg) m h = h refl
asks_all AnyMemory m h = h refl
asks_all (Memory reg) m h = h refl
asks_all (Exactly k) m h = h refl

lock_admits : (l : Lead) (row : Row) (m : ℕ) → l.lock ≡ true → admits l row m ≡ true
    → (row.locks ≡ true) × (nat_lt m 192 ≡ true)
unfolding admits
lock_admits l row m k h =
    let first = (and_true (not l.lock
    || (row.locks && nat_lt m 192)) ((not l.size_prefix || row.size_prefix)
    && (not l.rex.b || not row.low)) h).0 in
    and_true row.locks (nat_lt m 192) (or_true l.lock (row.locks && nat_lt m 192) first k)

shape_known : (l : Lead) (a : InsnAndSizes) → RexFits l.rex → (s : Shape l a)
    → Known s.line.row s.line.ask (fields_of l s.op s.m s.place) s.imm
unfolding fields_of
shape_known l a r s =
    let at = and_true (in_line s.line s.line.escape s.op) (same_bool s.line.f3 l.f3
    && w_fits s.line.w l.rex.w) s.at in
    let facts = by_line s.line s.op s.op_low s.member at.0 in
    record {
      rex = r;
      fits = s.fits;
      low = s.low;
      locked = λ k. (let may = lock_admits l s.line.row s.m k s.admitted in
          (may.0, s.memory (or_true s.line.row.locks (has_modrm s.line.ask) facts.1 may.0) may.1));
      line = facts.0;
      asked = asks_all s.line.ask s.m s.asked;
      long = s.long;
      bytes = s.bytes;
    }

pub encoding_good : (encoding : List ℕ) (insn : Insn) (skip : ℕ) → Encodes encoding insn skip
    → (any : Bool) × IsGood any insn
unfolding fields_of
encoding_good encoding insn skip h =
    let l = lead_of h.format.prefixes h.format.f3 h.format.rex in
    let r = lead_fits h.format.prefixes h.format.f3 h.format.rex in
    let s = body_shape l h.format.body (insn, skip, h.disp, h.imm) r h.format.line in
    (l.rex.any, subst (IsGood l.rex.any) (sym s.is) (good l s r))
  where
    good : (l : Lead) (s : Shape l (insn, skip, h.disp, h.imm)) → RexFits l.rex
        → IsGood l.rex.any (insn_of s.line.row.form (fields_of l s.op s.m s.place) s.imm)
    good l s r = known_good s.line.row s.line.ask (fields_of l s.op s.m s.place) s.imm
        (shape_known l (insn, skip, h.disp, h.imm) r s)
