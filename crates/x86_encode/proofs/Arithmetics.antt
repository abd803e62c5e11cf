-- The canonical encodings of arithmetic, logic and bits are encodings.
use Rattle.std.proofs.Common.{◌≡◌, ℕ, ◌+◌, ◌*◌, ◌/◌, ◌%◌, ◌<◌, ◌≤◌, ◌==◌, ◌&&◌, not, Bool, true}
use Rattle.std.proofs.Common.{false, List, [], ◌∷◌, ◌++◌, length, Option, Some, None, refl, sym, ap}
use Rattle.std.proofs.Common.{subst, ◌∙◌, arith, ℤ, if◌then◌else◌}
use Rattle.std.specs.Prelude.{FitsSigned}
use Rattle.std.specs.Int.{w8, w32}
use Rattle.std.proofs.lemmas.Bool.{ne_eqb}
use Rattle.erim_defs.specs.declared.grammar.Row.{Row}
use Rattle.erim_defs.specs.declared.grammar.Form.{Form}
use Rattle.erim_defs.specs.declared.grammar.Form.TheVariants.{Arithmetic}
use Rattle.erim_defs.specs.declared.grammar.Arithmetic.TheVariants.{AluMr, AluRm, AluMi, TestMr}
use Rattle.erim_defs.specs.declared.grammar.Arithmetic.TheVariants.{TestMi, ImulRm, ImulRmi, UnaryM}
use Rattle.erim_defs.specs.declared.grammar.Arithmetic.TheVariants.{ShiftMi, ShiftMc, BtMi}
use Rattle.erim_defs.specs.declared.insn.AluOp.{AluOp}
use Rattle.erim_defs.specs.declared.insn.AluOp.TheVariants.{Add, Or, Adc, Sbb, And, Sub, Xor, Cmp}
use Rattle.erim_defs.specs.declared.insn.UnaryOp.{UnaryOp}
use Rattle.erim_defs.specs.declared.insn.UnaryOp.TheVariants.{Not, Neg, Inc, Dec}
use Rattle.erim_defs.specs.declared.insn.ShiftOp.{ShiftOp}
use Rattle.erim_defs.specs.declared.insn.ShiftOp.TheVariants.{Shl, Shr, Sar}
use Rattle.erim_defs.specs.declared.insn.By.{By}
use Rattle.erim_defs.specs.declared.insn.By.TheVariants.{Count, Cl}
use Rattle.erim_defs.specs.declared.insn.Insn.TheVariants.{Alu, Test, Imul, Shift, Unary, Bt}
use Rattle.erim_defs.specs.declared.insn.Place.{Place}
use Rattle.erim_defs.specs.declared.insn.Place.TheVariants.{Reg, High, At}
use Rattle.erim_defs.specs.declared.insn.Src.{Src}
use Rattle.erim_defs.specs.declared.insn.Src.TheVariants.{From, Imm}
use Rattle.erim_defs.specs.declared.insn.Width.{Width}
use Rattle.erim_defs.specs.declared.insn.Width.TheVariants.{W1, W4, W8}
use Rattle.erim_defs.specs.Encoding.Parts.{AreBytes, signed_value}
use Rattle.erim_defs.specs.Encoding.OpcodeTable.{plain_row, with_lock}
use Rattle.erim_defs.specs.Encoding.Forms.{insn_of, arithmetic_of, alu_op, unary_op, shift_op, imm8}
use Rattle.erim_defs.specs.Encoding.Canonical.{one_byte, four_bytes, fits_byte, width_bytes}
use Rattle.erim_defs.specs.Encoding.Canonical.{shortest_bytes, is_wide, asks_rex, opcode_of_width}
use Rattle.erim_defs.specs.Encoding.Canonical.{register_number, opcode_with_modrm, reg_rm_bytes}
use Rattle.erim_defs.specs.Encoding.Canonical.{rm_bytes, alu_number, alu_imm_bytes, alu_bytes}
use Rattle.erim_defs.specs.Encoding.Canonical.{test_bytes, imul_bytes, shift_number, shift_bytes}
use Rattle.erim_defs.specs.Encoding.Canonical.{unary_bytes, word_rm_bytes}
use Rattle.erim_defs.specs.Encoding.OpcodeMap.{one_byte_row, two_byte_row, alu_opcode_row}
use Rattle.erim_defs.specs.Encoding.OpcodeMap.{middle_opcode_row, high_opcode_row, is_shift_reg}
use Rattle.erim_defs.specs.Encoding.OpcodeMap.{one_byte_has_modrm, two_byte_has_modrm}
use Rattle.encoding_laws.proofs.OpcodeMapLemmas.{row_in_map, modrm_in_map}
use Rattle.erim_defs.proofs.TableLemmas.{table, tabulated}
use Rattle.x86_encode.proofs.Numbers.{one_length, one_are, one_signed, small_fits, four_length}
use Rattle.x86_encode.proofs.Numbers.{four_are, four_signed}
use Rattle.x86_encode.proofs.Facts.{is_memory}
use Rattle.x86_encode.proofs.Encodings.{IsEncoding, ModrmRow, bare}
use Rattle.x86_encode.proofs.Views.{pair_encodes, single_encodes, word_encodes}
use Rattle.x86_encode.proofs.Founds.{any_row, ext_row, sized_any, sized_ext, both_ext, row_by}
use Rattle.x86_encode.proofs.Good.{IsGood}

-- ---- numbers that end a row

-- the bytes of a number
pub record Number (size : ℕ) (bytes : List ℕ) (z : ℤ) : Type 0 where
  pub long : length bytes ≡ size
  pub are : AreBytes bytes
  pub is : signed_value bytes ≡ z

pub one_number : (z : ℤ) → FitsSigned w8 z → Number 1 (one_byte z) z
one_number z f = record { long = one_length z; are = one_are z; is = one_signed z f }

pub four_number : (z : ℤ) → FitsSigned w32 z → Number 4 (four_bytes z) z
four_number z f = record { long = four_length z; are = four_are z; is = four_signed z f }

-- ---- arithmetic and logic of two operands

abbrev alu_row : Form → ℕ → ℕ → Row
alu_row v i n = record { form = v; imm = i; locks = not (n == 7); size_prefix = false; low = false }

abbrev ge_row : ℕ → Row
ge_row n = plain_row (Arithmetic AluRm) 0

alu_low : (op : AluOp) → alu_number op < 8
unfolding alu_number
alu_low Add = omega arith
alu_low Or = omega arith
alu_low Adc = omega arith
alu_low Sbb = omega arith
alu_low And = omega arith
alu_low Sub = omega arith
alu_low Xor = omega arith
alu_low Cmp = omega arith

alu_back : (op : AluOp) → alu_op (alu_number op) ≡ op
unfolding alu_number alu_op
alu_back Add = refl
alu_back Or = refl
alu_back Adc = refl
alu_back Sbb = refl
alu_back And = refl
alu_back Sub = refl
alu_back Xor = refl
alu_back Cmp = refl

-- rows of opcodes 8 * n + v
opcode_row : (wide : Bool) (v n g : ℕ) (e : Place) (row : ℕ → Row) → v < 4 → n < 8
    → ((k : ℕ) → (row k).low ≡ false)
    → ((m : ℕ) → table (λ k. row_in_map false false wide (8 * k + v) m) 8
    ≡ table (λ k. Some (row k)) 8) → table (λ k. modrm_in_map false (8 * k + v)) 8 ≡ table (λ k.
    true) 8 → ModrmRow false wide (8 * n + v) g e (row n)
opcode_row wide v n g e row lv ln low found asks =
    any_row false wide (8 * n + v) g e (row n) (omega arith)
    (λ _. ne_eqb (8 * n + v) 0x0F (λ q. absurd (omega (arith, q))))
    (tabulated (λ k. modrm_in_map false (8 * k + v)) (λ k. true) 8 asks n ln)
    (λ m. tabulated (λ k. row_in_map false false wide (8 * k + v) m) (λ k. Some (row k)) 8 (found m)
    n ln) (low n)

eg_row : (w : Width) (n g : ℕ) (e : Place) → n < 8
    → ModrmRow false (is_wide w) (opcode_of_width w (8 * n)) g e (alu_row (Arithmetic AluMr) 0 n)
unfolding opcode_of_width is_wide one_byte_row alu_opcode_row one_byte_has_modrm
eg_row W1 n g e lt = let P : ℕ
    → Type 0 = λ op. ModrmRow false false op g e (alu_row (Arithmetic AluMr) 0 n) in
    let q : 8 * n + 0 ≡ 8 * n = omega arith in
    subst P q (opcode_row false 0 n g e (alu_row (Arithmetic AluMr) 0) (omega arith) lt (λ k. refl)
    (λ m. refl) refl)
eg_row W4 n g e lt = opcode_row false 1 n g e (alu_row (Arithmetic AluMr) 0) (omega arith) lt
    (λ k. refl) (λ m. refl) refl
eg_row W8 n g e lt = opcode_row true 1 n g e (alu_row (Arithmetic AluMr) 0) (omega arith) lt
    (λ k. refl) (λ m. refl) refl

ge_found : (w : Width) (n g : ℕ) (e : Place) → n < 8
    → ModrmRow false (is_wide w) (opcode_of_width w (8 * n + 2)) g e
    (plain_row (Arithmetic AluRm) 0)
unfolding opcode_of_width is_wide one_byte_row alu_opcode_row one_byte_has_modrm
ge_found W1 n g e lt = opcode_row false 2 n g e ge_row (omega arith) lt (λ k. refl) (λ m. refl) refl
ge_found W4 n g e lt = let P : ℕ
    → Type 0 = λ op. ModrmRow false false op g e (plain_row (Arithmetic AluRm) 0) in
    let q : 8 * n + 3 ≡ 8 * n + 2 + 1 = omega arith in
    subst P q (opcode_row false 3 n g e ge_row (omega arith) lt (λ k. refl) (λ m. refl) refl)
ge_found W8 n g e lt = let P : ℕ
    → Type 0 = λ op. ModrmRow false true op g e (plain_row (Arithmetic AluRm) 0) in
    let q : 8 * n + 3 ≡ 8 * n + 2 + 1 = omega arith in
    subst P q (opcode_row true 3 n g e ge_row (omega arith) lt (λ k. refl) (λ m. refl) refl)

eg_number : (w : Width) (n : ℕ) → opcode_of_width w (8 * n) / 8 ≡ n
unfolding opcode_of_width
eg_number W1 n = omega arith
eg_number W4 n = omega arith
eg_number W8 n = omega arith

ge_number : (w : Width) (n : ℕ) → opcode_of_width w (8 * n + 2) / 8 ≡ n
unfolding opcode_of_width
ge_number W1 n = omega arith
ge_number W4 n = omega arith
ge_number W8 n = omega arith

locks_below : (n : ℕ) → n < 7 → not (n == 7) ≡ true
locks_below n h = ap not (ne_eqb n 7 (λ q. absurd (omega arith)))

alu_pair : (any lock : Bool) (op : AluOp) (w : Width) (dst r : Place) → is_memory r ≡ false
    → IsGood any (Alu op w dst (From r) lock)
    → IsEncoding (reg_rm_bytes lock w false (8 * alu_number op) r dst) (Alu op w dst (From r) lock)
unfolding insn_of arithmetic_of
alu_pair any lock op w dst r flat h =
    let n = alu_number op in
    let even : 8 * n % 2 ≡ 0 = omega arith in
    pair_encodes any lock w false (8 * n) r dst (alu_row (Arithmetic AluMr) 0 n)
    (Alu op w dst (From r) lock) h.0 h.2.0 flat h.1 even
    (eg_row w n (register_number r) dst (alu_low op)) (λ k. (locks_below n (h.4 k), h.3 k)) refl
    (λ f o wd e g l. let q : alu_op (f.op / 8) ≡ op = ap (λ k. alu_op (k / 8)) o
    ∙ ap alu_op (eg_number w n) ∙ alu_back op in cc)

-- a register whose place is memory is none
pub flat_of : (a : Bool) → (a && true) ≡ false → a ≡ false
flat_of true e = e
flat_of false e = e

alu_memory : (any lock : Bool) (op : AluOp) (w : Width) (dst src : Place) → is_memory src ≡ true
    → IsGood any (Alu op w dst (From src) lock)
    → IsEncoding (reg_rm_bytes lock w false (8 * alu_number op + 2) dst src)
    (Alu op w dst (From src) lock)
unfolding insn_of arithmetic_of
alu_memory any lock op w dst src there h =
    let n = alu_number op in
    let flat : is_memory dst ≡ false =
    flat_of (is_memory dst) (ap (λ t. is_memory dst && t) (sym there) ∙ h.2.1) in
    let even : (8 * n + 2) % 2 ≡ 0 = omega arith in
    let free : (k : lock ≡ true) → ⊥ = λ k. (let j = h.3 k in absurd cc) in
    pair_encodes any lock w false (8 * n + 2) dst src (plain_row (Arithmetic AluRm) 0)
    (Alu op w dst (From src) lock) h.0 h.1 flat h.2.0 even
    (ge_found w n (register_number dst) src (alu_low op)) (λ k. absurd (free k)) refl
    (λ f o wd e g l. let q : alu_op (f.op / 8) ≡ op = ap (λ k. alu_op (k / 8)) o
    ∙ ap alu_op (ge_number w n) ∙ alu_back op in let un : lock ≡ false = unlocked lock free in
    cc)
  where
    unlocked : (b : Bool) → (b ≡ true → ⊥) → b ≡ false
    unlocked true h = absurd (h refl)
    unlocked false h = refl

-- ---- with a number

ei_row : (op size n : ℕ) (e : Place) (wide : Bool) → op < 256 → (op == 0x0F) ≡ false
    → modrm_in_map false op ≡ true → n < 8
    → ((wide : Bool) → table (row_in_map false false wide op) 256
    ≡ table (λ m. Some (alu_row (Arithmetic AluMi) size (m / 8 % 8)))
    256) → ModrmRow false wide op n e (alu_row (Arithmetic AluMi) size n)
ei_row op size n e wide lt apart asks small found = record {
  op_low = lt;
  apart = λ _. apart;
  asks = asks;
  found = λ m rest is a b c. let here : m / 8 % 8 ≡ n = omega (arith, b) in
      tabulated (row_in_map false false wide op)
      (λ m. Some (alu_row (Arithmetic AluMi) size (m / 8 % 8))) 256 (found wide) m a
      ∙ ap (λ k. Some (alu_row (Arithmetic AluMi) size k)) here;
  any_low = refl;
}

row_80 : (n : ℕ) (e : Place) (wide : Bool) → n < 8
    → ModrmRow false wide 0x80 n e (alu_row (Arithmetic AluMi) 1 n)
unfolding one_byte_row middle_opcode_row one_byte_has_modrm
row_80 n e wide h = ei_row 0x80 1 n e wide (omega arith) refl refl h (λ w. refl)

row_81 : (n : ℕ) (e : Place) (wide : Bool) → n < 8
    → ModrmRow false wide 0x81 n e (alu_row (Arithmetic AluMi) 4 n)
unfolding one_byte_row middle_opcode_row one_byte_has_modrm
row_81 n e wide h = ei_row 0x81 4 n e wide (omega arith) refl refl h (λ w. refl)

row_83 : (n : ℕ) (e : Place) (wide : Bool) → n < 8
    → ModrmRow false wide 0x83 n e (alu_row (Arithmetic AluMi) 1 n)
unfolding one_byte_row middle_opcode_row one_byte_has_modrm
row_83 n e wide h = ei_row 0x83 1 n e wide (omega arith) refl refl h (λ w. refl)

alu_number_encodes : (any lock : Bool) (op : AluOp) (w : Width) (even size : ℕ) (dst : Place)
    (z : ℤ) (bytes : List ℕ) → even % 2 ≡ 0 → size ≤ 4 → Number size bytes z
    → ModrmRow false (is_wide w) (opcode_of_width w even) (alu_number op) dst
    (alu_row (Arithmetic AluMi) size (alu_number op)) → IsGood any (Alu op w dst (Imm z) lock)
    → IsEncoding (rm_bytes lock w even (alu_number op) dst ++ bytes) (Alu op w dst (Imm z) lock)
unfolding insn_of arithmetic_of
alu_number_encodes any lock op w even size dst z bytes ev le b r h =
    let n = alu_number op in
    single_encodes any lock w even n dst (alu_row (Arithmetic AluMi) size n) bytes
    (Alu op w dst (Imm z) lock) h.0 (alu_low op) h.1 ev r (λ k. (locks_below n (h.4 k), h.3 k))
    b.long le b.are
    (λ f wd e m l. let q : alu_op (f.m / 8 % 8) ≡ op = ap alu_op m ∙ alu_back op in let i = b.is in
    cc)

alu_immediate_encodes : (any lock : Bool) (op : AluOp) (w : Width) (dst : Place) (z : ℤ)
    → IsGood any (Alu op w dst (Imm z) lock)
    → IsEncoding (alu_imm_bytes (alu_number op) w dst z lock) (Alu op w dst (Imm z) lock)
unfolding alu_imm_bytes shortest_bytes rm_bytes opcode_of_width is_wide asks_rex
alu_immediate_encodes any lock op W1 dst z h =
    alu_number_encodes any lock op W1 0x80 1 dst z (one_byte z) refl (omega arith)
    (one_number z h.2) (row_80 (alu_number op) dst false (alu_low op)) h
alu_immediate_encodes any lock op W4 dst z h = by_small (fits_byte z) refl
  where
    by_small : (b : Bool) → fits_byte z ≡ b
        → IsEncoding (opcode_with_modrm lock (is_wide W4) false false (if b then 0x83
        else 0x81) (alu_number op) dst ++ (if b then one_byte z
        else four_bytes z)) (Alu op W4 dst (Imm z) lock)
    by_small true e = alu_number_encodes any lock op W4 0x82 1 dst z (one_byte z) refl (omega arith)
        (one_number z (small_fits z e)) (row_83 (alu_number op) dst false (alu_low op)) h
    by_small false e = alu_number_encodes any lock op W4 0x80 4 dst z (four_bytes z) refl
        (omega arith) (four_number z h.2) (row_81 (alu_number op) dst false (alu_low op)) h
alu_immediate_encodes any lock op W8 dst z h = by_small (fits_byte z) refl
  where
    by_small : (b : Bool) → fits_byte z ≡ b
        → IsEncoding (opcode_with_modrm lock (is_wide W8) false false (if b then 0x83
        else 0x81) (alu_number op) dst ++ (if b then one_byte z
        else four_bytes z)) (Alu op W8 dst (Imm z) lock)
    by_small true e = alu_number_encodes any lock op W8 0x82 1 dst z (one_byte z) refl (omega arith)
        (one_number z (small_fits z e)) (row_83 (alu_number op) dst true (alu_low op)) h
    by_small false e = alu_number_encodes any lock op W8 0x80 4 dst z (four_bytes z) refl
        (omega arith) (four_number z h.2) (row_81 (alu_number op) dst true (alu_low op)) h

pub alu_encodes : (any lock : Bool) (op : AluOp) (w : Width) (dst : Place) (src : Src)
    → IsGood any (Alu op w dst src lock)
    → IsEncoding (alu_bytes (alu_number op) w dst src lock) (Alu op w dst src lock)
unfolding alu_bytes
alu_encodes any lock op w dst (From (Reg r)) h = alu_pair any lock op w dst (Reg r) refl h
alu_encodes any lock op w dst (From (High r)) h = alu_pair any lock op w dst (High r) refl h
alu_encodes any lock op w dst (From (At m)) h = alu_memory any lock op w dst (At m) refl h
alu_encodes any lock op w dst (Imm z) h = alu_immediate_encodes any lock op w dst z h

-- ---- TEST

test_row : (w : Width) (r : ℕ) (a : Place)
    → ModrmRow false (is_wide w) (opcode_of_width w 0x84) r a (plain_row (Arithmetic TestMr) 0)
unfolding one_byte_row middle_opcode_row one_byte_has_modrm
test_row w r a = sized_any false 0x84 r a (plain_row (Arithmetic TestMr) 0) (omega arith)
    (λ _. refl) (λ _. refl) refl refl (λ wide m. refl) (λ wide m. refl) refl w

test_number_row : (w : Width) (a : Place)
    → ModrmRow false (is_wide w) (opcode_of_width w 0xF6) 0 a
    (row_by w (plain_row (Arithmetic TestMi) 1) (plain_row (Arithmetic TestMi) 4))
unfolding one_byte_row high_opcode_row one_byte_has_modrm
test_number_row w a = sized_ext 0xF6 0 a (plain_row (Arithmetic TestMi) 1)
    (plain_row (Arithmetic TestMi) 4) (omega arith) (λ _. refl) (λ _. refl) refl refl (λ wide. refl)
    (λ wide. refl) (omega arith) refl refl w

test_immediate : (any : Bool) (w : Width) (a : Place) (z : ℤ) → IsGood any (Test w a (Imm z))
    → IsEncoding (rm_bytes false w 0xF6 0 a ++ width_bytes w z) (Test w a (Imm z))
unfolding insn_of arithmetic_of width_bytes
test_immediate any W1 a z h = let b = one_number z h.2 in
    single_encodes any false W1 0xF6 0 a (plain_row (Arithmetic TestMi) 1) (one_byte z)
    (Test W1 a (Imm z)) h.0 (omega arith) h.1 refl (test_number_row W1 a) (λ k. absurd cc) b.long
    (omega arith) b.are (λ f wd e m l. let i = b.is in cc)
test_immediate any W4 a z h = let b = four_number z h.2 in
    single_encodes any false W4 0xF6 0 a (plain_row (Arithmetic TestMi) 4) (four_bytes z)
    (Test W4 a (Imm z)) h.0 (omega arith) h.1 refl (test_number_row W4 a) (λ k. absurd cc) b.long
    (omega arith) b.are (λ f wd e m l. let i = b.is in cc)
test_immediate any W8 a z h = let b = four_number z h.2 in
    single_encodes any false W8 0xF6 0 a (plain_row (Arithmetic TestMi) 4) (four_bytes z)
    (Test W8 a (Imm z)) h.0 (omega arith) h.1 refl (test_number_row W8 a) (λ k. absurd cc) b.long
    (omega arith) b.are (λ f wd e m l. let i = b.is in cc)

pub test_encodes : (any : Bool) (w : Width) (a : Place) (src : Src) → IsGood any (Test w a src)
    → IsEncoding (test_bytes w a src) (Test w a src)
unfolding test_bytes insn_of arithmetic_of
test_encodes any w a (From r) h =
    pair_encodes any false w false 0x84 r a (plain_row (Arithmetic TestMr) 0) (Test w a (From r))
    h.0 h.2.0 h.2.1 h.1 refl (test_row w (register_number r) a) (λ k. absurd cc) refl
    (λ f o wd e g l. cc)
test_encodes any w a (Imm z) h = test_immediate any w a z h

-- ---- IMUL

imul_number : (any : Bool) (w : Width) (r op size : ℕ) (a : Place) (z : ℤ) (bytes : List ℕ)
    → size ≤ 4 → Number size bytes z
    → ModrmRow false (is_wide w) op r a (plain_row (Arithmetic ImulRmi) size)
    → IsGood any (Imul w r a (Some z))
    → IsEncoding (word_rm_bytes w false op r a ++ bytes) (Imul w r a (Some z))
unfolding insn_of arithmetic_of
imul_number any w r op size a z bytes le b row h =
    word_encodes any w false op r a (plain_row (Arithmetic ImulRmi) size) bytes
    (Imul w r a (Some z)) h.0 h.1 h.2.fits h.2.plain row b.long le b.are
    (λ f o wd e g m. let i = b.is in cc)

pub imul_encodes : (any : Bool) (w : Width) (r : ℕ) (a : Place) (b : Option ℤ)
    → IsGood any (Imul w r a b) → IsEncoding (imul_bytes w r a b) (Imul w r a b)
unfolding imul_bytes shortest_bytes insn_of arithmetic_of one_byte_row middle_opcode_row
    two_byte_row one_byte_has_modrm two_byte_has_modrm
imul_encodes any w r a None h =
    bare (word_rm_bytes w true 0xAF r a) (Imul w r a None)
    (word_encodes any w true 0xAF r a (plain_row (Arithmetic ImulRm) 0) [] (Imul w r a None) h.0 h.1
    h.2.fits h.2.plain (any_row true (is_wide w) 0xAF r a (plain_row (Arithmetic ImulRm) 0)
    (omega arith) (λ k. absurd cc) refl (λ m. refl) refl) refl (omega arith) tt (λ f o wd e g m.
    cc))
imul_encodes any w r a (Some z) h = by_small (fits_byte z) refl
  where
    by_small : (b : Bool) → fits_byte z ≡ b
        → IsEncoding (word_rm_bytes w false (if b then 0x6B else 0x69) r a ++ (if b then one_byte z
        else four_bytes z)) (Imul w r a (Some z))
    by_small true e = imul_number any w r 0x6B 1 a z (one_byte z) (omega arith)
        (one_number z (small_fits z e))
        (any_row false (is_wide w) 0x6B r a (plain_row (Arithmetic ImulRmi) 1) (omega arith)
        (λ _. refl) refl (λ m. refl) refl) h
    by_small false e = imul_number any w r 0x69 4 a z (four_bytes z) (omega arith)
        (four_number z h.3) (any_row false (is_wide w) 0x69 r a (plain_row (Arithmetic ImulRmi) 4)
        (omega arith) (λ _. refl) refl (λ m. refl) refl) h

-- ---- shifts

shift_row : (op : ShiftOp) (w : Width) (a : Place)
    → ModrmRow false (is_wide w) (opcode_of_width w 0xC0) (shift_number op) a
    (plain_row (Arithmetic ShiftMi) 1)
unfolding one_byte_row high_opcode_row is_shift_reg one_byte_has_modrm shift_number
shift_row Shl w a = both_ext 0xC0 4 a (plain_row (Arithmetic ShiftMi) 1) (omega arith) (λ _. refl)
    (λ _. refl) refl refl (λ wide. refl) (λ wide. refl) (omega arith) refl w
shift_row Shr w a = both_ext 0xC0 5 a (plain_row (Arithmetic ShiftMi) 1) (omega arith) (λ _. refl)
    (λ _. refl) refl refl (λ wide. refl) (λ wide. refl) (omega arith) refl w
shift_row Sar w a = both_ext 0xC0 7 a (plain_row (Arithmetic ShiftMi) 1) (omega arith) (λ _. refl)
    (λ _. refl) refl refl (λ wide. refl) (λ wide. refl) (omega arith) refl w

shift_cl_row : (op : ShiftOp) (w : Width) (a : Place)
    → ModrmRow false (is_wide w) (opcode_of_width w 0xD2) (shift_number op) a
    (plain_row (Arithmetic ShiftMc) 0)
unfolding one_byte_row high_opcode_row is_shift_reg one_byte_has_modrm shift_number
shift_cl_row Shl w a = both_ext 0xD2 4 a (plain_row (Arithmetic ShiftMc) 0) (omega arith)
    (λ _. refl) (λ _. refl) refl refl (λ wide. refl) (λ wide. refl) (omega arith) refl w
shift_cl_row Shr w a = both_ext 0xD2 5 a (plain_row (Arithmetic ShiftMc) 0) (omega arith)
    (λ _. refl) (λ _. refl) refl refl (λ wide. refl) (λ wide. refl) (omega arith) refl w
shift_cl_row Sar w a = both_ext 0xD2 7 a (plain_row (Arithmetic ShiftMc) 0) (omega arith)
    (λ _. refl) (λ _. refl) refl refl (λ wide. refl) (λ wide. refl) (omega arith) refl w

shift_low : (op : ShiftOp) → shift_number op < 8
unfolding shift_number
shift_low Shl = omega arith
shift_low Shr = omega arith
shift_low Sar = omega arith

shift_back : (op : ShiftOp) → shift_op (shift_number op) ≡ op
unfolding shift_number shift_op
shift_back Shl = refl
shift_back Shr = refl
shift_back Sar = refl

pub shift_encodes : (any : Bool) (op : ShiftOp) (w : Width) (dst : Place) (by : By)
    → IsGood any (Shift op w dst by)
    → IsEncoding (shift_bytes (shift_number op) w dst by) (Shift op w dst by)
unfolding shift_bytes insn_of arithmetic_of imm8
shift_encodes any op w dst (Count k) h =
    single_encodes any false w 0xC0 (shift_number op) dst (plain_row (Arithmetic ShiftMi) 1) (k
    ∷ []) (Shift op w dst (Count k)) h.0 (shift_low op) h.1 refl (shift_row op w dst) (λ k.
    absurd cc) refl (omega arith) (h.2, tt) (λ f wd e m l. let q : shift_op (f.m / 8 % 8) ≡ op =
    ap shift_op m ∙ shift_back op in cc)
shift_encodes any op w dst Cl h =
    bare (rm_bytes false w 0xD2 (shift_number op) dst) (Shift op w dst Cl)
    (single_encodes any false w 0xD2 (shift_number op) dst (plain_row (Arithmetic ShiftMc) 0) []
    (Shift op w dst Cl) h.0 (shift_low op) h.1 refl (shift_cl_row op w dst) (λ k. absurd cc) refl
    (omega arith) tt (λ f wd e m l. let q : shift_op (f.m / 8 % 8) ≡ op = ap shift_op m
    ∙ shift_back op in cc))

-- ---- one operand, and one bit

unary_with : (any lock : Bool) (op : UnaryOp) (w : Width) (even reg : ℕ) (dst : Place)
    → even % 2 ≡ 0 → reg < 8 → unary_op reg ≡ op
    → ModrmRow false (is_wide w) (opcode_of_width w even) reg dst
    (with_lock (plain_row (Arithmetic UnaryM) 0)) → IsGood any (Unary op w dst lock)
    → IsEncoding (rm_bytes lock w even reg dst) (Unary op w dst lock)
unfolding insn_of arithmetic_of
unary_with any lock op w even reg dst ev lt is r h =
    bare (rm_bytes lock w even reg dst) (Unary op w dst lock)
    (single_encodes any lock w even reg dst (with_lock (plain_row (Arithmetic UnaryM) 0)) []
    (Unary op w dst lock) h.0 lt h.1 ev r (λ k. (refl, h.2 k)) refl (omega arith) tt
    (λ f wd e m l. let q : unary_op (f.m / 8 % 8) ≡ op = ap unary_op m ∙ is in cc))

pub unary_encodes : (any lock : Bool) (op : UnaryOp) (w : Width) (dst : Place)
    → IsGood any (Unary op w dst lock)
    → IsEncoding (unary_bytes op w dst lock) (Unary op w dst lock)
unfolding unary_bytes unary_op one_byte_row high_opcode_row one_byte_has_modrm
unary_encodes any lock Not w dst h =
    unary_with any lock Not w 0xF6 2 dst refl (omega arith) refl
    (both_ext 0xF6 2 dst (with_lock (plain_row (Arithmetic UnaryM) 0)) (omega arith) (λ _. refl)
    (λ _. refl) refl refl (λ wide. refl) (λ wide. refl) (omega arith) refl w) h
unary_encodes any lock Neg w dst h =
    unary_with any lock Neg w 0xF6 3 dst refl (omega arith) refl
    (both_ext 0xF6 3 dst (with_lock (plain_row (Arithmetic UnaryM) 0)) (omega arith) (λ _. refl)
    (λ _. refl) refl refl (λ wide. refl) (λ wide. refl) (omega arith) refl w) h
unary_encodes any lock Inc w dst h =
    unary_with any lock Inc w 0xFE 0 dst refl (omega arith) refl
    (both_ext 0xFE 0 dst (with_lock (plain_row (Arithmetic UnaryM) 0)) (omega arith) (λ _. refl)
    (λ _. refl) refl refl (λ wide. refl) (λ wide. refl) (omega arith) refl w) h
unary_encodes any lock Dec w dst h =
    unary_with any lock Dec w 0xFE 1 dst refl (omega arith) refl
    (both_ext 0xFE 1 dst (with_lock (plain_row (Arithmetic UnaryM) 0)) (omega arith) (λ _. refl)
    (λ _. refl) refl refl (λ wide. refl) (λ wide. refl) (omega arith) refl w) h

pub bt_encodes : (any : Bool) (w : Width) (a : Place) (k : ℕ) → IsGood any (Bt w a k)
    → IsEncoding (word_rm_bytes w true 0xBA 4 a ++ (k ∷ [])) (Bt w a k)
unfolding insn_of arithmetic_of imm8 two_byte_row two_byte_has_modrm
bt_encodes any w a k h =
    word_encodes any w true 0xBA 4 a (plain_row (Arithmetic BtMi) 1) (k ∷ []) (Bt w a k) h.0
    (omega arith) h.1.fits h.1.plain
    (ext_row true (is_wide w) 0xBA 4 a (plain_row (Arithmetic BtMi) 1) (omega arith)
    (λ j. absurd cc) refl (λ wide. refl) (omega arith) refl) refl (omega arith) (
      h.2,
      tt,
    ) (λ f o wd e g m. cc)
