-- Rows of the table by their opcodes.
use Rattle.std.proofs.Common.{◌≡◌, ℕ, ◌+◌, ◌/◌, ◌%◌, ◌<◌, ◌==◌, ◌&&◌, nat_lt, Bool, true, false}
use Rattle.std.proofs.Common.{cond, [], ◌∷◌, Some, refl, sym, ap, subst, ◌∙◌, arith}
use Rattle.std.proofs.lemmas.Bool.{eq-eqb}
use Rattle.erim_defs.specs.declared.grammar.Row.{Row}
use Rattle.erim_defs.specs.declared.insn.Place.{Place}
use Rattle.erim_defs.specs.declared.insn.Width.{Width}
use Rattle.erim_defs.specs.declared.insn.Width.TheVariants.{W1, W4, W8}
use Rattle.erim_defs.specs.Encoding.Canonical.{is_wide, opcode_of_width, operand_bytes}
use Rattle.encoding_laws.proofs.OpcodeMapLemmas.{row_in_map, modrm_in_map}
use Rattle.encoding_laws.proofs.LineLemmas.{both_true}
use Rattle.erim_defs.proofs.TableLemmas.{table, tabulated}
use Rattle.x86_encode.proofs.Facts.{is_memory}
use Rattle.x86_encode.proofs.Encodings.{ModrmRow}

abbrev pub Apart : Bool → ℕ → Type 0
Apart escape op = escape ≡ false → (op == 0x0F) ≡ false

-- whatever the ModRM byte is
abbrev pub AnyTable : Bool → ℕ → Row → Type 0
AnyTable escape op row = (wide : Bool) (m : ℕ) → row_in_map escape false wide op m ≡ Some row

pub any_row : (escape wide : Bool) (op reg : ℕ) (e : Place) (row : Row) → op < 256 → Apart escape op
    → modrm_in_map escape op ≡ true → ((m : ℕ) → row_in_map escape false wide op m ≡ Some row)
    → row.low ≡ false → ModrmRow escape wide op reg e row
any_row escape wide op reg e row lt apart asks found low =
    record {
      op_low = lt;
      apart = apart;
      asks = asks;
      found = λ m rest is a b c. found m;
      any_low = low;
    }

-- the same row at an even opcode and at the odd one after it
pub sized_any : (escape : Bool) (op reg : ℕ) (e : Place) (row : Row) → op < 255 → Apart escape op
    → Apart escape (op + 1) → modrm_in_map escape op ≡ true → modrm_in_map escape (op + 1) ≡ true
    → AnyTable escape op row → AnyTable escape (op + 1) row → row.low ≡ false → (w : Width)
    → ModrmRow escape (is_wide w) (opcode_of_width w op) reg e row
unfolding opcode_of_width is_wide
sized_any escape op reg e row lt a b p q f g low W1 =
    any_row escape false op reg e row (omega arith) a p (f false) low
sized_any escape op reg e row lt a b p q f g low W4 =
    any_row escape false (op + 1) reg e row (omega arith) b q (g false) low
sized_any escape op reg e row lt a b p q f g low W8 =
    any_row escape true (op + 1) reg e row (omega arith) b q (g true) low

-- with a reg
abbrev pub ExtTable : Bool → ℕ → ℕ → Row → Type 0
ExtTable escape op reg row = (wide : Bool)
    → table (λ m. cond (m / 8 % 8 == reg) (row_in_map escape false wide op m) (Some row)) 256
    ≡ table (λ m. Some row) 256

pub ext_row : (escape wide : Bool) (op reg : ℕ) (e : Place) (row : Row) → op < 256 → Apart escape op
    → modrm_in_map escape op ≡ true → ExtTable escape op reg row → reg < 8 → row.low ≡ false
    → ModrmRow escape wide op reg e row
ext_row escape wide op reg e row lt apart asks found small low = record {
  op_low = lt;
  apart = apart;
  asks = asks;
  found = λ m rest is a b c.
      let here : m / 8 % 8 ≡ reg = omega (arith, b) in
      let hit : (m / 8 % 8 == reg) ≡ true = eq-eqb (m / 8 % 8) reg here in
      sym (ap (λ t. cond t (row_in_map escape false wide op m) (Some row)) hit)
      ∙ tabulated (λ k. cond (k / 8 % 8 == reg) (row_in_map escape false wide op k) (Some row))
      (λ k. Some row) 256 (found wide) m a;
  any_low = low;
}

abbrev pub row_by : Width → Row → Row → Row
row_by W1 small big = small
row_by W4 small big = big
row_by W8 small big = big

pub sized_ext : (op reg : ℕ) (e : Place) (small big : Row) → op < 255 → Apart false op
    → Apart false (op + 1) → modrm_in_map false op ≡ true → modrm_in_map false (op + 1) ≡ true
    → ExtTable false op reg small → ExtTable false (op + 1) reg big → reg < 8 → small.low ≡ false
    → big.low ≡ false → (w : Width)
    → ModrmRow false (is_wide w) (opcode_of_width w op) reg e (row_by w small big)
unfolding opcode_of_width is_wide
sized_ext op reg e small big lt a b p q f g r s t W1 =
    ext_row false false op reg e small (omega arith) a p f r s
sized_ext op reg e small big lt a b p q f g r s t W4 =
    ext_row false false (op + 1) reg e big (omega arith) b q g r t
sized_ext op reg e small big lt a b p q f g r s t W8 =
    ext_row false true (op + 1) reg e big (omega arith) b q g r t

-- where a row takes memory alone
abbrev pub MemoryTable : Bool → ℕ → ℕ → Row → Type 0
MemoryTable escape op reg row = (wide : Bool)
    → table (λ m. cond (nat_lt m 192 && m / 8 % 8 == reg) (row_in_map escape false wide op m)
    (Some row)) 256 ≡ table (λ m. Some row) 256

pub memory_row : (escape wide : Bool) (op reg : ℕ) (e : Place) (row : Row) → op < 256
    → Apart escape op → modrm_in_map escape op ≡ true → MemoryTable escape op (reg % 8) row
    → is_memory e ≡ true → row.low ≡ false → ModrmRow escape wide op reg e row
memory_row escape wide op reg e row lt apart asks found there low = record {
  op_low = lt;
  apart = apart;
  asks = asks;
  found = λ m rest is a b c.
      let hit : (nat_lt m 192 && m / 8 % 8 == reg % 8) ≡ true =
      both_true (nat_lt m 192) (m / 8 % 8 == reg % 8) (c
      ∙ there) (eq-eqb (m / 8 % 8) (reg % 8) b) in
      sym (ap (λ t. cond t (row_in_map escape false wide op m) (Some row)) hit)
      ∙ tabulated (λ k. cond (nat_lt k 192
      && k / 8 % 8 == reg % 8) (row_in_map escape false wide op k) (Some
      row)) (λ k. Some row) 256 (found wide) m a;
  any_low = low;
}

-- one ModRM byte alone
pub exact_row : (escape wide : Bool) (op reg m : ℕ) (e : Place) (row : Row) → op < 256
    → Apart escape op → modrm_in_map escape op ≡ true → operand_bytes reg e ≡ m ∷ []
    → row_in_map escape false wide op m ≡ Some row → row.low ≡ false
    → ModrmRow escape wide op reg e row
exact_row escape wide op reg m e row lt apart asks here found low = record {
  op_low = lt;
  apart = apart;
  asks = asks;
  found = λ k rest is a b c. let q : k ≡ m = cc in ap (row_in_map escape false wide op) q ∙ found;
  any_low = low;
}

pub same_row : (w : Width) (row : Row) → row_by w row row ≡ row
same_row W1 row = refl
same_row W4 row = refl
same_row W8 row = refl

-- the same row at an even opcode and at the odd one after it, with a reg
pub both_ext : (op reg : ℕ) (e : Place) (row : Row) → op < 255 → Apart false op
    → Apart false (op + 1) → modrm_in_map false op ≡ true → modrm_in_map false (op + 1) ≡ true
    → ExtTable false op reg row → ExtTable false (op + 1) reg row → reg < 8 → row.low ≡ false
    → (w : Width) → ModrmRow false (is_wide w) (opcode_of_width w op) reg e row
both_ext op reg e row lt a b p q f g r s w = let P : Row
    → Type 0 = λ x. ModrmRow false (is_wide w) (opcode_of_width w op) reg e x in
    subst P (same_row w row) (sized_ext op reg e row row lt a b p q f g r s s w)
