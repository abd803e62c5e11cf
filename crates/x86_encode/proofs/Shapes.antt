-- What a encoded instruction is made of.
use Rattle.std.proofs.Common.{rules, ◌≡◌, ℕ, ◌/◌, ◌%◌, ◌<◌, ◌==◌, ◌&&◌, nat_lt, Bool, true, false}
use Rattle.std.proofs.Common.{List, [], ◌∷◌, length, Option, Some, None, refl, ap, arith, ℤ, pos}
use Rattle.std.proofs.Common.{if◌then◌else◌}
use Rattle.std.specs.Prelude.{FitsSigned}
use Rattle.std.specs.Int.{w8, w32, cast_signed, from_le_bytes}
use Rattle.std.proofs.lemmas.Bool.{ltb-true, eqb-true}
use Rattle.erim_defs.specs.declared.grammar.Lead.{Lead}
use Rattle.erim_defs.specs.declared.grammar.Rex.{Rex}
use Rattle.erim_defs.specs.declared.insn.Base.TheVariants as bases
use Rattle.erim_defs.specs.declared.insn.Place.{Place}
use Rattle.erim_defs.specs.declared.insn.Place.TheVariants.{Reg, At}
use Rattle.erim_defs.specs.Encoding.Parts.{AreBytes, Byte, Chunk, Choose, When, signed_value}
use Rattle.erim_defs.specs.Encoding.Operand.{Operand, reg_with_bit, has_sib, disp_size, sib_mem}
use Rattle.erim_defs.specs.Encoding.Operand.{place_of}
use Rattle.erim_defs.specs.Encoding.OpcodeTable.{Line, table_lines, has_modrm, ask_fits}
use Rattle.erim_defs.specs.Encoding.Forms.{insn_of}
use Rattle.erim_defs.specs.Encoding.Grammar.{at_line, InsnAndSizes, In, Rest, After, Opcode}
use Rattle.erim_defs.specs.Encoding.Grammar.{Escaped, Body, admits, fields_of, has_byte, if_rex}
use Rattle.erim_defs.specs.Encoding.Grammar.{lead_of, prefix_lead, with_f3, with_rex, rex_bits}
use Rattle.encoding_laws.proofs.PartLemmas.{when_to}
use Rattle.encoding_laws.proofs.LineLemmas.{and_true}
use Rattle.x86_encode.proofs.Facts.{limit, BaseFits, RipFits, MemFits, PlaceFits, is_memory}
use Rattle.x86_encode.proofs.Views.{IsLow}

-- ---- numbers

byte_wide : (b : ℕ) → b < 256 → FitsSigned w32 (cast_signed w8 b)
byte_wide b h = search rules

byte_small : (b : ℕ) → b < 256 → FitsSigned w8 (cast_signed w8 b)
byte_small b h = search rules

four_wide : (a b c d : ℕ) → a < 256 → b < 256 → c < 256 → d < 256
    → FitsSigned w32 (cast_signed w32 (from_le_bytes w32 (a ∷ b ∷ c ∷ d ∷ [])))
four_wide a b c d p q r s = search rules

zero_fits : FitsSigned w32 (pos 0)
zero_fits = search rules

pub signed_fits : (bytes : List ℕ) → AreBytes bytes → FitsSigned w32 (signed_value bytes)
signed_fits [] h = zero_fits
signed_fits (a ∷ []) h = byte_wide a h.0
signed_fits (a ∷ b ∷ []) h = zero_fits
signed_fits (a ∷ b ∷ c ∷ []) h = zero_fits
signed_fits (a ∷ b ∷ c ∷ d ∷ []) h = four_wide a b c d h.0 h.1.0 h.1.1.0 h.1.1.1.0
signed_fits (a ∷ b ∷ c ∷ d ∷ e ∷ s) h = zero_fits

pub one_fits : (bytes : List ℕ) → AreBytes bytes → length bytes ≡ 1
    → FitsSigned w8 (signed_value bytes)
one_fits [] h e = absurd (omega (arith, e))
one_fits (a ∷ []) h e = byte_small a h.0
one_fits (a ∷ b ∷ s) h e = absurd (omega (arith, e))

-- ---- registers, with REX and without

-- no bit is set without REX
pub record RexFits (rex : Rex) : Type 0 where
  pub w : rex.any ≡ false → rex.w ≡ false
  pub r : rex.any ≡ false → rex.r ≡ false
  pub x : rex.any ≡ false → rex.x ≡ false
  pub b : rex.any ≡ false → rex.b ≡ false

rex_fits : (l : Lead) (rex : Option ℕ) → RexFits l.rex → RexFits (if_rex rex l).rex
unfolding with_rex rex_bits
rex_fits l None h = h
rex_fits l (Some b) h = record {
  w = λ e. absurd cc;
  r = λ e. absurd cc;
  x = λ e. absurd cc;
  b = λ e. absurd cc;
}

pub lead_fits : (prefixes : List ℕ) (f3 : Bool) (rex : Option ℕ)
    → RexFits (lead_of prefixes f3 rex).rex
unfolding prefix_lead with_f3
lead_fits prefixes true rex =
    rex_fits (with_f3 (prefix_lead (length prefixes) (has_byte 0xF0 prefixes)
    (has_byte 0x66 prefixes))) rex (record {
      w = λ e. refl;
      r = λ e. refl;
      x = λ e. refl;
      b =
          λ e. refl;
    })
lead_fits prefixes false rex =
    rex_fits (prefix_lead (length prefixes) (has_byte 0xF0 prefixes) (has_byte 0x66 prefixes)) rex
    (record { w = λ e. refl; r = λ e. refl; x = λ e. refl; b = λ e. refl })

pub extended_fits : (any b : Bool) (n : ℕ) → n < 8 → (any ≡ false → b ≡ false)
    → reg_with_bit b n < limit any
unfolding reg_with_bit
extended_fits true true n h e = omega arith
extended_fits true false n h e = omega arith
extended_fits false true n h e = absurd (let k = e refl in cc)
extended_fits false false n h e = h

-- ---- operands

mem_fits : (rex : Rex) (mode s : ℕ) (d : ℤ) → RexFits rex → s < 256 → FitsSigned w32 d
    → MemFits (limit rex.any) (sib_mem rex mode s d)
unfolding sib_mem
mem_fits rex mode s d r h f =
    by_index (reg_with_bit rex.x (s / 8 % 8) == 4) (mode == 0 && s % 8 == 5) refl
  where
    base : (b : Bool) → BaseFits (limit rex.any) (if b then bases.Zero
        else bases.Reg (reg_with_bit rex.b (s % 8)))
    base true = tt
    base false = extended_fits rex.any rex.b (s % 8) (omega arith) r.b

    rip : (b : Bool) (index : Option ℕ)
        → RipFits (if b then bases.Zero else bases.Reg (reg_with_bit rex.b (s % 8))) index
    rip true index = tt
    rip false index = tt

    by_index : (i b : Bool) → (reg_with_bit rex.x (s / 8 % 8) == 4) ≡ i
        → MemFits (limit rex.any) (if i
        then record {
          base = if b then bases.Zero
              else bases.Reg (reg_with_bit rex.b (s % 8));
          index = None;
          scale = 0;
          disp =
              d;
        } else record {
          base = if b then bases.Zero
              else bases.Reg (reg_with_bit rex.b (s % 8));
          index =
              Some (reg_with_bit rex.x (s / 8 % 8));
          scale = s / 64;
          disp = d;
        })
    by_index true b e = record {
      base = base b;
      index = tt;
      scale = refl;
      rip = rip b None;
      disp = f;
    }
    by_index false b e = record {
      base = base b;
      index = (extended_fits rex.any rex.x (s / 8 % 8) (omega arith) r.x, e);
      scale =
          omega arith;
      rip = rip b (Some (reg_with_bit rex.x (s / 8 % 8)));
      disp = f;
    }

-- an operand in range, in memory below mod 3
record Ranged (any : Bool) (m : ℕ) (p : Place) : Type 0 where
  fits : PlaceFits (limit any) p
  low : IsLow p
  memory : nat_lt m 192 ≡ true → is_memory p ≡ true

place_ranged : (rex : Rex) (m s : ℕ) (d : ℤ) → RexFits rex → s < 256 → FitsSigned w32 d
    → Ranged rex.any m (place_of rex m s d)
unfolding place_of
place_ranged rex m s d r h f = by_tests (m / 64 == 3) (m % 8 == 4) (m / 64 == 0 && m % 8 == 5) refl
  where
    base : (b : Bool) → BaseFits (limit rex.any) (if b then bases.Rip
        else bases.Reg (reg_with_bit rex.b (m % 8)))
    base true = tt
    base false = extended_fits rex.any rex.b (m % 8) (omega arith) r.b

    rip : (b : Bool) → RipFits (if b then bases.Rip
        else bases.Reg (reg_with_bit rex.b (m % 8))) None
    rip true = refl
    rip false = tt

    by_tests : (x y z : Bool) → (m / 64 == 3) ≡ x
        → Ranged rex.any m (if x then Reg (reg_with_bit rex.b (m % 8)) else if y
        then At (sib_mem rex (m / 64) s d)
        else At (record {
          base = if z then bases.Rip
              else bases.Reg (reg_with_bit rex.b (m % 8));
          index = None;
          scale = 0;
          disp = d;
        }))
    by_tests true y z e = record {
      fits = extended_fits rex.any rex.b (m % 8) (omega arith) r.b;
      low = tt;
      memory = λ k. (let q = eqb-true (m / 64) 3 e in let l = ltb-true m 192 k in
          absurd (omega arith));
    }
    by_tests false true z e =
        record { fits = mem_fits rex (m / 64) s d r h f; low = tt; memory = λ k. refl }
    by_tests false false z e =
        record {
          fits = record { base = base z; index = tt; scale = refl; rip = rip z; disp = f };
          low = tt;
          memory = λ k. refl;
        }

-- ---- the line, the fields and the number of a encoded instruction

pub record Shape (l : Lead) (a : InsnAndSizes) : Type 0 where
  pub line : Line
  pub member : In table_lines line
  pub op : ℕ
  pub m : ℕ
  pub place : Place
  pub imm : List ℕ
  pub op_low : op < 256
  pub at : at_line line l op ≡ true
  pub asked : has_modrm line.ask ≡ true → ask_fits line.ask m ≡ true
  pub admitted : admits l line.row m ≡ true
  pub fits : PlaceFits (limit l.rex.any) place
  pub low : IsLow place
  pub memory : has_modrm line.ask ≡ true → nat_lt m 192 ≡ true → is_memory place ≡ true
  pub long : length imm ≡ line.row.imm
  pub bytes : AreBytes imm
  pub is : a.0 ≡ insn_of line.row.form (fields_of l op m place) imm

record Operated (any : Bool) (m : ℕ) (S : Place × ℕ → List ℕ → InsnAndSizes
    → Type 0) (a : InsnAndSizes) : Type 0 where
  p : Place × ℕ
  back : List ℕ
  ranged : Ranged any m p.0
  tail : S p back a

operated : (rex : Rex) (m : ℕ) (S : Place × ℕ → List ℕ → InsnAndSizes
    → Type 0) (t : List ℕ) (a :
    InsnAndSizes) → RexFits rex → Operand rex m S t a → Operated rex.any m S a
operated rex m S t a r h = by_sib (has_sib m) t h
  where
    behind : (s : ℕ) (t : List ℕ) → s < 256
        → Chunk (disp_size m s) (λ x. S (place_of rex m s (signed_value x), disp_size m s)) t a
        → Operated rex.any m S a
    behind s t lt c = record {
      p = (place_of rex m s (signed_value c.front), disp_size m s);
      back = c.back;
      ranged = place_ranged rex m s (signed_value c.front) r lt
          (signed_fits c.front c.bytes);
      tail = c.then;
    }

    by_sib : (b : Bool) (t : List ℕ)
        → Choose b (Byte (λ s. Chunk (disp_size m s)
        (λ x. S (place_of rex m s (signed_value x), disp_size m s)))) (Chunk (disp_size m 0) (λ x. S
        (place_of rex m 0 (signed_value x), disp_size m 0))) t a → Operated rex.any m S a
    by_sib true [] k = absurd k
    by_sib true (s ∷ v) k = behind s v k.0 k.1
    by_sib false v k = behind 0 v (omega arith) k

pub zero_low : (any : Bool) → 0 < limit any
zero_low true = omega arith
zero_low false = omega arith

opcode_shape : (line : Line) (l : Lead) (t : List ℕ) (a : InsnAndSizes) → RexFits l.rex
    → In table_lines line → Opcode line l t a → Shape l a
opcode_shape line l [] a r i h = absurd h
opcode_shape line l (op ∷ u) a r i h = let w =
    when_to (at_line line l op) (After line l op) u a h.1 in
    by_modrm (has_modrm line.ask) refl u w.0 w.1
  where
    Modrm : ℕ → List ℕ → InsnAndSizes → Type 0
    Modrm m = When (ask_fits line.ask m
        && admits l line.row m) (Operand l.rex m (λ place. Rest l op m line.row place))

    by_modrm : (b : Bool) → has_modrm line.ask ≡ b → (u : List ℕ) → at_line line l op ≡ true
        → Choose b (Byte Modrm) (When (admits l line.row 0) (Rest l op 0 line.row (Reg 0, 0))) u a
        → Shape l a
    by_modrm true e [] q k = absurd k
    by_modrm true e (m ∷ v) q k =
        let w = when_to (ask_fits line.ask m
        && admits l line.row m) (Operand l.rex m
        (λ place. Rest l op m line.row place)) v a k.1 in
        let both = and_true (ask_fits line.ask m) (admits l line.row m) w.0 in
        let o = operated l.rex m (λ place. Rest l op m line.row place) v a r w.1 in
        record {
          line = line;
          member = i;
          op = op;
          m = m;
          place = o.p.0;
          imm = o.tail.front;
          op_low = h.0;
          at = q;
          asked = λ _. both.0;
          admitted = both.1;
          fits =
              o.ranged.fits;
          low = o.ranged.low;
          memory = λ _ j. o.ranged.memory j;
          long =
              o.tail.long;
          bytes = o.tail.bytes;
          is = ap (λ (x : InsnAndSizes). x.0) o.tail.then.1;
        }
    by_modrm false e v q k =
        let w = when_to (admits l line.row 0) (Rest l op 0 line.row (Reg 0, 0)) v a k in
        record {
          line = line;
          member = i;
          op = op;
          m = 0;
          place = Reg 0;
          imm = w.1.front;
          op_low = h.0;
          at = q;
          asked = λ y. absurd (cc (e, y));
          admitted = w.0;
          fits =
              zero_low l.rex.any;
          low = tt;
          memory = λ y. absurd (cc (e, y));
          long = w.1.long;
          bytes =
              w.1.bytes;
          is = ap (λ (x : InsnAndSizes). x.0) w.1.then.1;
        }

pub body_shape : (l : Lead) (t : List ℕ) (a : InsnAndSizes) → RexFits l.rex → Body l t a → Shape l a
body_shape l t a r h = by_escape h.0.escape h.0 h.1 t h.2
  where
    by_escape : (b : Bool) (line : Line) → In table_lines line → (t : List ℕ)
        → Escaped b (Opcode line l) t a → Shape l a
    by_escape true line i [] k = absurd k
    by_escape true line i (b ∷ u) k =
        opcode_shape line l u a r i (when_to (b == 0x0F) (Opcode line l) u a k.1).1
    by_escape false line i t k = opcode_shape line l t a r i k
