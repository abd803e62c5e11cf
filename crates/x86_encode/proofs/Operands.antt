-- The bytes of a canonical operand are of that operand.
use Rattle.std.proofs.Common.{◌≡◌, ℕ, ◌+◌, ◌*◌, ◌/◌, ◌%◌, ◌<◌, ◌≤◌, ◌==◌, ◌&&◌, ◌||◌, not, nat_lt}
use Rattle.std.proofs.Common.{Bool, true, false, cond, List, [], ◌∷◌, ◌++◌, length, Option, Some}
use Rattle.std.proofs.Common.{None, refl, sym, ap, subst, ◌∙◌, arith, ℤ, pos, if◌then◌else◌}
use Rattle.std.specs.Prelude.{FitsSigned}
use Rattle.std.specs.Ordering.{int_eq}
use Rattle.std.specs.Int.{w32}
use Rattle.std.proofs.lemmas.Bool.{ne_eqb, ltb-false, lt-ltb}
use Rattle.std.proofs.lemmas.Bool.Decides.{Decides-int_eq}
use Rattle.erim_defs.specs.declared.grammar.Lead.{Lead}
use Rattle.erim_defs.specs.declared.grammar.Rex.{Rex}
use Rattle.erim_defs.specs.declared.grammar.Row.{Row}
use Rattle.erim_defs.specs.declared.insn.Base.{Base}
use Rattle.erim_defs.specs.declared.insn.Base.TheVariants as bases
use Rattle.erim_defs.specs.declared.insn.Mem.{Mem}
use Rattle.erim_defs.specs.declared.insn.Place.{Place}
use Rattle.erim_defs.specs.declared.insn.Place.TheVariants.{Reg, High, At}
use Rattle.erim_defs.specs.Encoding.Parts.{AreBytes, Byte, Chunk, signed_value}
use Rattle.erim_defs.specs.Encoding.Operand.{Operand, reg_with_bit, has_sib, disp_size, sib_mem}
use Rattle.erim_defs.specs.Encoding.Operand.{place_of}
use Rattle.erim_defs.specs.Encoding.Grammar.{InsnAndSizes, Rest}
use Rattle.erim_defs.specs.Encoding.Canonical.{four_bytes, one_byte, fits_byte, is_upper}
use Rattle.erim_defs.specs.Encoding.Canonical.{register_number, modrm_byte, index_number, sib_byte}
use Rattle.erim_defs.specs.Encoding.Canonical.{disp_mode, disp_bytes, needs_sib, base_disp_bytes}
use Rattle.erim_defs.specs.Encoding.Canonical.{memory_bytes, operand_bytes, has_upper_index}
use Rattle.erim_defs.specs.Encoding.Canonical.{has_upper_base}
use Rattle.encoding_laws.proofs.BodyLemmas.{choose_left, choose_right}
use Rattle.x86_encode.proofs.Numbers.{four_length, four_are, four_signed, one_length, one_are}
use Rattle.x86_encode.proofs.Numbers.{one_signed, small_fits}
use Rattle.x86_encode.proofs.Facts.{BaseFits, IndexFits, ScaleFits, RipFits, PlaceFits, is_memory}
use Rattle.x86_encode.proofs.Facts.{raw}

-- ---- by mod, rm and SIB

abbrev sib_of : ℕ → ℕ → Bool
sib_of mode rm = not (mode == 3) && rm == 4

abbrev size_of : ℕ → ℕ → ℕ → ℕ
size_of mode rm s = if mode == 0 then (if rm == 5 || (rm == 4 && s % 8 == 5) then 4 else 0)
    else if mode == 1 then 1 else if mode == 2 then 4 else 0

abbrev at_of : Rex → ℕ → ℕ → ℕ → ℤ → Place
at_of rex mode rm s disp =
    if mode == 3 then Reg (reg_with_bit rex.b rm) else
    if rm == 4 then At (sib_mem rex mode s disp) else
    At (record {
      base = if mode == 0 && rm == 5 then bases.Rip
          else bases.Reg (reg_with_bit rex.b rm);
      index = None;
      scale = 0;
      disp = disp;
    })

record Split (m mode rm : ℕ) : Type 0 where
  mode_is : m / 64 ≡ mode
  rm_is : m % 8 ≡ rm

split : (mode reg rm : ℕ) → mode < 4 → Split (modrm_byte mode reg rm) mode (rm % 8)
unfolding modrm_byte
split mode reg rm p = record { mode_is = omega arith; rm_is = omega arith }

has_sib_is : (m mode rm : ℕ) → Split m mode rm → has_sib m ≡ sib_of mode rm
unfolding has_sib
has_sib_is m mode rm f = ap (λ x. sib_of x (m % 8)) f.mode_is ∙ ap (sib_of mode) f.rm_is

size_is : (m mode rm s : ℕ) → Split m mode rm → disp_size m s ≡ size_of mode rm s
unfolding disp_size
size_is m mode rm s f = ap (λ x. size_of x (m % 8) s) f.mode_is ∙ ap (λ x. size_of mode x s) f.rm_is

place_is : (rex : Rex) (m mode rm s : ℕ) (d : ℤ) → Split m mode rm
    → place_of rex m s d ≡ at_of rex mode rm s d
unfolding place_of
place_is rex m mode rm s d f = ap (λ x. at_of rex x (m % 8) s d) f.mode_is
    ∙ ap (λ x. at_of rex mode x s d) f.rm_is

abbrev Part : Type 1
Part = Place × ℕ → List ℕ → InsnAndSizes → Type 0

no_sib : (rex : Rex) (m mode rm : ℕ) (S : Part) (disp tail : List ℕ) (d : ℤ) (place : Place)
    (a : InsnAndSizes) → Split m mode rm → sib_of mode rm ≡ false → length disp ≡ size_of mode rm 0
    → AreBytes disp → signed_value disp ≡ d → at_of rex mode rm 0 d ≡ place
    → S (place, length disp) tail a → Operand rex m S (disp ++ tail) a
no_sib rex m mode rm S disp tail d place a f s l b e is h =
    let P : Place → Type 0 = λ p. S (p, disp_size m 0) tail a in
    let Q : ℕ → Type 0 = λ n. S (place, n) tail a in
    let size : length disp ≡ disp_size m 0 = l ∙ sym (size_is m mode rm 0 f) in
    choose_right (has_sib m)
    (Byte (λ c. Chunk (disp_size m c)
    (λ x. S (place_of rex m c (signed_value x), disp_size m c)))) (Chunk (disp_size m 0) (λ x. S (
      place_of rex m 0 (signed_value x),
      disp_size m
          0,
    ))) (disp ++ tail) a (has_sib_is m mode rm f ∙ s)
    (record {
      front = disp;
      back = tail;
      parts = refl;
      long = size;
      bytes = b;
      then = subst P (sym (ap (λ z. place_of rex m 0 z) e ∙ place_is rex m mode rm 0 d f
          ∙ is)) (subst Q size h);
    })

with_sib : (rex : Rex) (m mode s : ℕ) (S : Part) (disp tail : List ℕ) (d : ℤ) (place : Place)
    (a : InsnAndSizes) → Split m mode 4 → mode < 3 → s < 256 → length disp ≡ size_of mode 4 s
    → AreBytes disp → signed_value disp ≡ d → At (sib_mem rex mode s d) ≡ place
    → S (place, length disp) tail a → Operand rex m S (s ∷ disp ++ tail) a
with_sib rex m mode s S disp tail d place a f lt ls l b e is h =
    let P : Place → Type 0 = λ p. S (p, disp_size m s) tail a in
    let Q : ℕ → Type 0 = λ n. S (place, n) tail a in
    let size : length disp ≡ disp_size m s = l ∙ sym (size_is m mode 4 s f) in
    let ne : (mode == 3) ≡ false = ne_eqb mode 3 (λ q. absurd (omega arith)) in
    let at : at_of rex mode 4 s d ≡ At (sib_mem rex mode s d) =
    ap (λ x. cond x (Reg (reg_with_bit rex.b 4)) (At (sib_mem rex mode s d))) ne in
    choose_left (has_sib m) (Byte
    (λ c. Chunk (disp_size m c)
    (λ x. S (place_of rex m c (signed_value x), disp_size m c)))) (Chunk (disp_size m 0) (λ x. S (
      place_of rex m 0 (signed_value x),
      disp_size m
          0,
    ))) (s ∷ disp ++ tail) a (has_sib_is m mode 4 f ∙ ap (λ x. not x && true) ne) (
      ls,
      record {
        front = disp;
        back = tail;
        parts = refl;
        long = size;
        bytes = b;
        then = subst P (sym (ap (λ z. place_of rex m s z) e ∙ place_is rex m mode 4 s d f
            ∙ at ∙ is)) (subst Q size h);
      },
    )

-- ---- what the bytes of an operand are

pub record OperandOf (l : Lead) (reg : ℕ) (e : Place) : Type 0 where
  pub m : ℕ
  pub rest : List ℕ
  pub size : ℕ
  pub is : operand_bytes reg e ≡ m ∷ rest
  pub low : m < 256
  pub reg_is : m / 8 % 8 ≡ reg % 8
  pub memory_is : nat_lt m 192 ≡ is_memory e
  pub bytes : AreBytes rest
  pub short : length rest ≤ 5
  pub part : (op : ℕ) (row : Row) (tail : List ℕ) (a : InsnAndSizes)
      → Rest l op m row (raw e, size) tail a
      → Operand l.rex m (λ p. Rest l op m row p) (rest ++ tail) a

modrm_low : (mode reg rm : ℕ) → mode < 4 → modrm_byte mode reg rm < 256
unfolding modrm_byte
modrm_low mode reg rm h = omega arith

modrm_reg : (mode reg rm : ℕ) → mode < 4 → modrm_byte mode reg rm / 8 % 8 ≡ reg % 8
unfolding modrm_byte
modrm_reg mode reg rm h = omega arith

modrm_memory : (mode reg rm : ℕ) → mode < 3 → nat_lt (modrm_byte mode reg rm) 192 ≡ true
unfolding modrm_byte
modrm_memory mode reg rm h = lt-ltb (64 * mode + 8 * (reg % 8) + rm % 8) 192 (omega arith)

modrm_register : (reg rm : ℕ) → nat_lt (modrm_byte 3 reg rm) 192 ≡ false
unfolding modrm_byte
modrm_register reg rm = search (arith, ltb-false)

pub extended_is : (n : ℕ) → n < 16 → reg_with_bit (is_upper n) (n % 8) ≡ n
unfolding reg_with_bit is_upper
extended_is n h = grind arith

-- ---- registers

register_of : (l : Lead) (reg rm : ℕ) (e : Place) → operand_bytes reg e ≡ modrm_byte 3 reg rm ∷ []
    → is_memory e ≡ false → Reg (reg_with_bit l.rex.b (rm % 8)) ≡ raw e → OperandOf l reg e
register_of l reg rm e is memory_bytes place = record {
  m = modrm_byte 3 reg rm;
  rest = [];
  size = 0;
  is = is;
  low = modrm_low 3 reg rm (omega arith);
  reg_is = modrm_reg 3 reg rm (omega arith);
  memory_is = modrm_register reg rm ∙ sym memory_bytes;
  bytes = tt;
  short = omega arith;
  part = λ op row tail a h. no_sib l.rex (modrm_byte 3 reg rm) 3 (rm % 8)
      (λ p. Rest l op (modrm_byte 3 reg rm) row p) [] tail (pos 0) (raw e) a
      (split 3 reg rm (omega arith)) refl refl tt refl place h;
}

-- ---- memory without a base

rip_of : (l : Lead) (reg : ℕ) (d : ℤ) → FitsSigned w32 d
    → OperandOf l reg (At (record { base = bases.Rip; index = None; scale = 0; disp = d }))
unfolding operand_bytes memory_bytes
rip_of l reg d f = record {
  m = modrm_byte 0 reg 5;
  rest = four_bytes d;
  size = length (four_bytes d);
  is = refl;
  low = modrm_low 0 reg 5 (omega arith);
  reg_is = modrm_reg 0 reg 5 (omega arith);
  memory_is = modrm_memory 0 reg 5 (omega arith);
  bytes = four_are d;
  short = omega (arith, four_length d);
  part = λ op row tail a h. no_sib l.rex (modrm_byte 0 reg 5) 0 5
      (λ p. Rest l op (modrm_byte 0 reg 5) row p) (four_bytes d) tail d
      (At (record { base = bases.Rip; index = None; scale = 0; disp = d })) a
      (split 0 reg 5 (omega arith)) refl (four_length d) (four_are d) (four_signed d f) refl h;
}

-- SIB names its index
sib_low : (scale : ℕ) (index : Option ℕ) (base : ℕ) → index_number index < 8
    → sib_byte scale index base < 256
unfolding sib_byte
sib_low scale index base h = omega arith

index_low : (index : Option ℕ) → index_number index < 8
unfolding index_number
index_low None = omega arith
index_low (Some i) = omega arith

sib_scale : (scale : ℕ) (index : Option ℕ) (base : ℕ) → index_number index < 8 → scale < 4
    → sib_byte scale index base / 64 ≡ scale
unfolding sib_byte
sib_scale scale index base h k = omega arith

sib_index : (scale : ℕ) (index : Option ℕ) (base : ℕ) → index_number index < 8
    → sib_byte scale index base / 8 % 8 ≡ index_number index
unfolding sib_byte
sib_index scale index base h = omega arith

sib_base : (scale : ℕ) (index : Option ℕ) (base : ℕ) → sib_byte scale index base % 8 ≡ base % 8
unfolding sib_byte
sib_base scale index base = omega arith

abbrev bit_of : Option ℕ → Bool
bit_of None = false
bit_of (Some i) = is_upper i

not_extended : (n : ℕ) → reg_with_bit false n ≡ n
unfolding reg_with_bit
not_extended n = refl

abbrev mem_of : ℕ → Base → ℕ → ℤ → Mem
mem_of i base scale d = if i == 4 then record { base = base; index = None; scale = 0; disp = d }
    else record { base = base; index = Some i; scale = scale; disp = d }

sib_mem_is : (rex : Rex) (mode s : ℕ) (d : ℤ) (base : Base) (index : Option ℕ) (scale : ℕ)
    → rex.x ≡ bit_of index → s / 64 ≡ scale → s / 8 % 8 ≡ index_number index
    → (if mode == 0 && s % 8 == 5 then bases.Zero else bases.Reg (reg_with_bit rex.b (s % 8)))
    ≡ base → IndexFits 16 index → ScaleFits index scale
    → sib_mem rex mode s d ≡ record { base = base; index = index; scale = scale; disp = d }
unfolding sib_mem index_number
sib_mem_is rex mode s d base index scale x sc i b f g =
    ap (λ k. mem_of k (if mode == 0 && s % 8 == 5 then bases.Zero
    else bases.Reg (reg_with_bit rex.b (s % 8))) (s / 64) d) number ∙ ap (λ k. mem_of (named
    index) k (s / 64) d) b ∙ ap (λ k. mem_of (named index) base k d) sc ∙ by_index index f g
  where
    named : Option ℕ → ℕ
    named None = 4
    named (Some n) = n

    extended_index : (index : Option ℕ) → IndexFits 16 index
        → reg_with_bit (bit_of index) (index_number index) ≡ named index
    extended_index None f = not_extended 4
    extended_index (Some n) f = extended_is n f.0

    number : reg_with_bit rex.x (s / 8 % 8) ≡ named index
    number = ap (λ k. reg_with_bit k (s / 8 % 8)) x ∙ ap (reg_with_bit (bit_of index)) i
        ∙ extended_index index f

    by_index : (index : Option ℕ) → IndexFits 16 index → ScaleFits index scale
        → mem_of (named index) base scale d
        ≡ record { base = base; index = index; scale = scale; disp = d }
    by_index None f g = ap (λ (k : ℕ). record { base = base; index = None; scale = k; disp = d })
        (sym g)
    by_index (Some n) f g = ap (λ t. cond t
        (record { base = base; index = None; scale = 0; disp = d })
        (record { base = base; index = Some n; scale = scale; disp = d })) f.1

scale_low : (index : Option ℕ) (scale : ℕ) → ScaleFits index scale → scale < 4
scale_low None scale h = omega arith
scale_low (Some n) scale h = h

zero_of : (l : Lead) (reg : ℕ) (index : Option ℕ) (scale : ℕ) (d : ℤ) → l.rex.x ≡ bit_of index
    → IndexFits 16 index → ScaleFits index scale → FitsSigned w32 d
    → OperandOf l reg (At (record { base = bases.Zero; index = index; scale = scale; disp = d }))
unfolding operand_bytes memory_bytes
zero_of l reg index scale d x f g h =
    let low = index_low index in
    let s = sib_byte scale index 5 in
    let five : (s % 8 == 5) ≡ true = ap (λ k. k == 5) (sib_base scale index 5) in
    record {
      m = modrm_byte 0 reg 4;
      rest = s ∷ four_bytes d;
      size = length (four_bytes d);
      is = refl;
      low = modrm_low 0 reg 4 (omega arith);
      reg_is = modrm_reg 0 reg 4 (omega arith);
      memory_is = modrm_memory 0 reg 4 (omega arith);
      bytes = (sib_low scale index 5 low, four_are d);
      short = omega (arith, four_length d);
      part = λ op row tail a r. with_sib l.rex (modrm_byte 0 reg 4) 0 s
          (λ p. Rest l op (modrm_byte 0 reg 4) row p) (four_bytes d) tail d
          (At (record { base = bases.Zero; index = index; scale = scale; disp = d })) a
          (split 0 reg 4 (omega arith)) (omega arith) (sib_low scale index 5 low) (four_length d
          ∙ sym (ap (λ t. cond t 4 0) five)) (four_are d) (four_signed d h)
          (ap At (sib_mem_is l.rex 0 s d bases.Zero index scale x
          (sib_scale scale index 5 low (scale_low index scale g)) (sib_index scale index 5 low)
          (ap (λ t. cond t bases.Zero (bases.Reg (reg_with_bit l.rex.b (s % 8)))) five) f g)) r;
    }

-- ---- memory with a base

-- the displacement's mod and bytes
record Displaced (b : ℕ) (d : ℤ) : Type 0 where
  mode : ℕ
  disp : List ℕ
  low : mode < 3
  mode_is : disp_mode b d ≡ mode
  disp_is : disp_bytes mode d ≡ disp
  sized : (rm s : ℕ) → (mode == 0 && (rm == 5 || (rm == 4 && s % 8 == 5))) ≡ false
      → length disp ≡ size_of mode rm s
  keeps : (mode == 0 && b % 8 == 5) ≡ false
  bytes : AreBytes disp
  is : signed_value disp ≡ d
  short : length disp ≤ 4

displaced : (b : ℕ) (d : ℤ) → FitsSigned w32 d → Displaced b d
unfolding disp_mode disp_bytes
displaced b d f = by_zero (int_eq d (pos 0)) (b % 8 == 5) refl refl
  where
    Mode : Bool → Bool → Bool → ℕ
    Mode x y z = if x && not y then 0 else if z then 1 else 2

    by_small : (x y : Bool) → int_eq d (pos 0) ≡ x → (b % 8 == 5) ≡ y → (x && not y) ≡ false
        → (z : Bool) → fits_byte d ≡ z → Displaced b d
    by_small x y e g n true h = record {
      mode = 1;
      disp = one_byte d;
      low = omega arith;
      mode_is = ap (λ t. Mode t (b % 8 == 5) (fits_byte d)) e ∙ ap (λ t. Mode x t (fits_byte d)) g
          ∙ ap (Mode x y) h ∙ ap (λ t. if t then 0 else 1) n;
      disp_is = refl;
      sized = λ rm s k. one_length d;
      keeps = refl;
      bytes = one_are d;
      is = one_signed d (small_fits d h);
      short = omega (arith, one_length d);
    }
    by_small x y e g n false h = record {
      mode = 2;
      disp = four_bytes d;
      low = omega arith;
      mode_is = ap (λ t. Mode t (b % 8 == 5) (fits_byte d)) e ∙ ap (λ t. Mode x t (fits_byte d)) g
          ∙ ap (Mode x y) h ∙ ap (λ t. if t then 0 else 2) n;
      disp_is = refl;
      sized = λ rm s k. four_length d;
      keeps = refl;
      bytes = four_are d;
      is = four_signed d f;
      short = omega (arith, four_length d);
    }

    by_zero : (x y : Bool) → int_eq d (pos 0) ≡ x → (b % 8 == 5) ≡ y → Displaced b d
    by_zero true false e g = record {
      mode = 0;
      disp = [];
      low = omega arith;
      mode_is = ap (λ t. Mode t (b % 8 == 5) (fits_byte d)) e
          ∙ ap (λ t. Mode true t (fits_byte d)) g;
      disp_is = refl;
      sized = λ rm s k. sym (ap (λ t. cond t 4 0) k);
      keeps = g;
      bytes = tt;
      is = sym ((Decides-int_eq d (pos 0)).0 e);
      short = omega arith;
    }
    by_zero true true e g = by_small true true e g refl (fits_byte d) refl
    by_zero false y e g = by_small false y e g refl (fits_byte d) refl

left_false : (a b : Bool) → (a && b) ≡ false → (c : Bool) → (a && (false || (c && b))) ≡ false
left_false true b e true = e
left_false true b e false = refl
left_false false b e c = refl

based_sib : (l : Lead) (reg b : ℕ) (index : Option ℕ) (scale : ℕ) (d : ℤ) → b < 16
    → l.rex.b ≡ is_upper b → l.rex.x ≡ bit_of index → IndexFits 16 index → ScaleFits index scale
    → Displaced b d → needs_sib b index ≡ true
    → OperandOf l reg (At (record { base = bases.Reg b; index = index; scale = scale; disp = d }))
unfolding operand_bytes memory_bytes base_disp_bytes
based_sib l reg b index scale d lt up x f g v needs =
    let low = index_low index in
    let s = sib_byte scale index b in
    let m = modrm_byte v.mode reg 4 in
    let base : s % 8 ≡ b % 8 = sib_base scale index b in
    let keeps : (v.mode == 0 && s % 8 == 5) ≡ false = ap (λ k. v.mode == 0 && k == 5) base
    ∙ v.keeps in
    record {
      m = m;
      rest = s ∷ v.disp;
      size = length v.disp;
      is = ap (λ t. if t then modrm_byte (disp_mode b d) reg 4 ∷ s ∷ disp_bytes (disp_mode b d) d
          else modrm_byte (disp_mode b d) reg b
          ∷ disp_bytes (disp_mode b d) d) needs ∙ ap (λ k. modrm_byte k reg 4 ∷ s
          ∷ disp_bytes k d) v.mode_is ∙ ap (λ t. m ∷ s ∷ t) v.disp_is;
      low = modrm_low v.mode reg 4 (let k = v.low in omega arith);
      reg_is = modrm_reg v.mode reg 4 (let k = v.low in omega arith);
      memory_is = modrm_memory v.mode reg 4 v.low;
      bytes = (sib_low scale index b low, v.bytes);
      short = (let k = v.short in omega arith);
      part = λ op row tail a r. with_sib l.rex m v.mode s (λ p. Rest l op m row p) v.disp tail d
          (At (record { base = bases.Reg b; index = index; scale = scale; disp = d })) a
          (split v.mode reg 4 (let k = v.low in omega arith)) v.low (sib_low scale index b low)
          (v.sized 4 s (left_false (v.mode == 0) (s % 8 == 5) keeps true)) v.bytes v.is
          (ap At (sib_mem_is l.rex v.mode s d (bases.Reg b) index scale x
          (sib_scale scale index b low (scale_low index scale g)) (sib_index scale index b low)
          (ap (λ t. cond t bases.Zero (bases.Reg (reg_with_bit l.rex.b (s % 8)))) keeps
          ∙ ap (λ k. bases.Reg (reg_with_bit l.rex.b k)) base
          ∙ ap (λ k. bases.Reg (reg_with_bit k (b % 8))) up
          ∙ ap bases.Reg (extended_is b lt)) f g)) r;
    }

based_plain : (l : Lead) (reg b : ℕ) (d : ℤ) → b < 16 → l.rex.b ≡ is_upper b → Displaced b d
    → (b % 8 == 4) ≡ false → OperandOf l reg
    (At (record { base = bases.Reg b; index = None; scale = 0; disp = d }))
unfolding operand_bytes memory_bytes base_disp_bytes needs_sib
based_plain l reg b d lt up v four =
    let m = modrm_byte v.mode reg b in
    let low = v.low in
    let ne : (v.mode == 3) ≡ false = ne_eqb v.mode 3 (λ q. absurd (omega arith)) in
    let mem : Base → Place = λ k. At (record { base = k; index = None; scale = 0; disp = d }) in
    record {
      m = m;
      rest = v.disp;
      size = length v.disp;
      is = ap (λ t. if t then modrm_byte (disp_mode b d) reg 4 ∷ sib_byte 0 None b
          ∷ disp_bytes (disp_mode b d) d
          else modrm_byte (disp_mode b d) reg b
          ∷ disp_bytes (disp_mode b d) d) four ∙ ap (λ k. modrm_byte k reg b
          ∷ disp_bytes k d) v.mode_is ∙ ap (λ t. m ∷ t) v.disp_is;
      low = modrm_low v.mode reg b (omega arith);
      reg_is = modrm_reg v.mode reg b (omega arith);
      memory_is = modrm_memory v.mode reg b v.low;
      bytes = v.bytes;
      short = (let k = v.short in omega arith);
      part = λ op row tail a r. no_sib l.rex m v.mode (b % 8) (λ p. Rest l op m row p) v.disp tail d
          (mem (bases.Reg b)) a (split v.mode reg b (omega arith)) (ap (λ t. not (v.mode == 3)
          && t) four ∙ and_no (not (v.mode == 3))) (v.sized (b % 8) 0 (rm_apart (v.mode == 0)
          (b % 8 == 5) (b % 8 == 4) four v.keeps)) v.bytes v.is
          (ap (λ t. cond t (Reg (reg_with_bit l.rex.b (b % 8)))
          (cond (b % 8 == 4) (At (sib_mem l.rex v.mode 0 d))
          (mem (cond (v.mode == 0 && b % 8 == 5) bases.Rip
          (bases.Reg (reg_with_bit l.rex.b (b % 8))))))) ne
          ∙ ap (λ t. cond t (At (sib_mem l.rex v.mode 0 d))
          (mem (cond (v.mode == 0 && b % 8 == 5) bases.Rip
          (bases.Reg (reg_with_bit l.rex.b (b % 8)))))) four
          ∙ ap (λ t. mem (cond t bases.Rip (bases.Reg (reg_with_bit l.rex.b (b % 8))))) v.keeps
          ∙ ap (λ k. mem (bases.Reg (reg_with_bit k (b % 8)))) up
          ∙ ap (λ k. mem (bases.Reg k)) (extended_is b lt)) r;
    }
  where
    and_no : (a : Bool) → (a && false) ≡ false
    and_no true = refl
    and_no false = refl

    rm_apart : (z five four : Bool) → four ≡ false → (z && five) ≡ false
        → (z && (five || (four && false))) ≡ false
    rm_apart z five true e k = absurd cc
    rm_apart true true false e k = k
    rm_apart true false false e k = refl
    rm_apart false five false e k = refl

based_of : (l : Lead) (reg b : ℕ) (index : Option ℕ) (scale : ℕ) (d : ℤ) → b < 16
    → l.rex.b ≡ is_upper b → l.rex.x ≡ bit_of index → IndexFits 16 index → ScaleFits index scale
    → FitsSigned w32 d → OperandOf l reg
    (At (record { base = bases.Reg b; index = index; scale = scale; disp = d }))
unfolding needs_sib
based_of l reg b (Some i) scale d lt up x f g h =
    based_sib l reg b (Some i) scale d lt up x f g (displaced b d h) refl
based_of l reg b None scale d lt up x f g h = by_four (b % 8 == 4) refl
  where
    by_four : (t : Bool) → (b % 8 == 4) ≡ t
        → OperandOf l reg (At (record {
          base = bases.Reg b;
          index = None;
          scale = scale;
          disp = d;
        }))
    by_four true e = based_sib l reg b None scale d lt up x f g (displaced b d h) e
    by_four false e = let P : ℕ
        → Type 0 = λ k. OperandOf l reg
        (At (record { base = bases.Reg b; index = None; scale = k; disp = d })) in
        subst P (sym g) (based_plain l reg b d lt up (displaced b d h) e)

memory_of : (l : Lead) (reg : ℕ) (base : Base) (index : Option ℕ) (scale : ℕ) (d : ℤ)
    → BaseFits 16 base → RipFits base index → IndexFits 16 index → ScaleFits index scale
    → FitsSigned w32 d → l.rex.b
    ≡ has_upper_base (At (record { base = base; index = index; scale = scale; disp = d }))
    → l.rex.x ≡ has_upper_index
    (At (record { base = base; index = index; scale = scale; disp = d }))
    → OperandOf l reg (At (record { base = base; index = index; scale = scale; disp = d }))
unfolding has_upper_base has_upper_index
memory_of l reg bases.Zero None scale d lt rip f g h b x = zero_of l reg None scale d x f g h
memory_of l reg bases.Zero (Some i) scale d lt rip f g h b x =
    zero_of l reg (Some i) scale d x f g h
memory_of l reg (bases.Reg n) None scale d lt rip f g h b x =
    based_of l reg n None scale d lt b x f g h
memory_of l reg (bases.Reg n) (Some i) scale d lt rip f g h b x =
    based_of l reg n (Some i) scale d lt b x f g h
memory_of l reg bases.Rip None scale d lt rip f g h b x = let P : ℕ
    → Type 0 = λ k. OperandOf l reg
    (At (record { base = bases.Rip; index = None; scale = k; disp = d })) in
    subst P (sym g) (rip_of l reg d h)
memory_of l reg bases.Rip (Some i) scale d lt rip f g h b x = absurd cc

-- any operand in range
pub operand_of : (l : Lead) (reg : ℕ) (e : Place) → PlaceFits 16 e → l.rex.b ≡ has_upper_base e
    → l.rex.x ≡ has_upper_index e → OperandOf l reg e
unfolding operand_bytes has_upper_base register_number
operand_of l reg (Reg n) f b x =
    register_of l reg n (Reg n) refl refl (ap (λ k. Reg (reg_with_bit k (n % 8))) b
    ∙ ap Reg (extended_is n f))
operand_of l reg (High n) f b x = let q : (n % 4 + 4) % 8 ≡ n % 4 + 4 = omega arith in
    register_of l reg (n % 4 + 4) (High n) refl refl
    (ap (λ k. Reg (reg_with_bit k ((n % 4 + 4) % 8))) b
    ∙ ap Reg (not_extended ((n % 4 + 4) % 8) ∙ q))
operand_of l reg (At m) f b x =
    memory_of l reg m.base m.index m.scale m.disp f.base f.rip f.index f.scale f.disp b x
