-- The code's order and the table are one: computed by the checker.
use Rattle.std.proofs.Common.{◌≡◌, ℕ, ◌<◌, Bool, true, false, ◌||◌, not, nat_lt, if◌then◌else◌}
use Rattle.std.proofs.Common.{List, Option, refl, sym, subst, ◌∙◌}
use Rattle.std.proofs.lemmas.Bool.{ltb-true}
use Rattle.erim_defs.specs.declared.grammar.Row.{Row}
use Rattle.erim_defs.specs.Encoding.OpcodeTable.{Line, table_lines, lookup, in_line, has_modrm}
use Rattle.erim_defs.specs.Encoding.OpcodeTable.{same_bool}
use Rattle.erim_defs.specs.Encoding.OpcodeMap.{one_byte_row, two_byte_row, alu_opcode_row}
use Rattle.erim_defs.specs.Encoding.OpcodeMap.{middle_opcode_row, high_opcode_row, is_shift_reg}
use Rattle.erim_defs.specs.Encoding.OpcodeMap.{one_byte_has_modrm, two_byte_has_modrm}
use Rattle.erim_defs.specs.Encoding.Decoding.{modrm_follows}
use Rattle.erim_defs.specs.Encoding.Grammar.{In}
use Rattle.encoding_laws.proofs.LineLemmas.{every, fitting, pick, picks, pick_is, picks_is, hits}
use Rattle.encoding_laws.proofs.LineLemmas.{every_in, same_true}
use Rattle.erim_defs.proofs.TableLemmas.{table, tabulated}

-- the row that the code finds
abbrev pub row_in_map : Bool → Bool → Bool → ℕ → ℕ → Option Row
row_in_map escape f3 w op m = if escape then two_byte_row f3 op m else one_byte_row f3 w op m

abbrev OpcodeMap : Bool → Bool → Bool → Type 0
OpcodeMap escape f3 w = table (λ op. table (pick (fitting table_lines escape f3 w op)) 256) 256
    ≡ table (λ op. table (row_in_map escape f3 w op) 256) 256

coded_ttt : OpcodeMap true true true
unfolding one_byte_row two_byte_row alu_opcode_row middle_opcode_row high_opcode_row is_shift_reg
coded_ttt = refl

coded_ttf : OpcodeMap true true false
unfolding one_byte_row two_byte_row alu_opcode_row middle_opcode_row high_opcode_row is_shift_reg
coded_ttf = refl

coded_tft : OpcodeMap true false true
unfolding one_byte_row two_byte_row alu_opcode_row middle_opcode_row high_opcode_row is_shift_reg
coded_tft = refl

coded_tff : OpcodeMap true false false
unfolding one_byte_row two_byte_row alu_opcode_row middle_opcode_row high_opcode_row is_shift_reg
coded_tff = refl

coded_ftt : OpcodeMap false true true
unfolding one_byte_row two_byte_row alu_opcode_row middle_opcode_row high_opcode_row is_shift_reg
coded_ftt = refl

coded_ftf : OpcodeMap false true false
unfolding one_byte_row two_byte_row alu_opcode_row middle_opcode_row high_opcode_row is_shift_reg
coded_ftf = refl

coded_fft : OpcodeMap false false true
unfolding one_byte_row two_byte_row alu_opcode_row middle_opcode_row high_opcode_row is_shift_reg
coded_fft = refl

coded_fff : OpcodeMap false false false
unfolding one_byte_row two_byte_row alu_opcode_row middle_opcode_row high_opcode_row is_shift_reg
coded_fff = refl

coded_table : (escape f3 w : Bool) → OpcodeMap escape f3 w
coded_table true true true = coded_ttt
coded_table true true false = coded_ttf
coded_table true false true = coded_tft
coded_table true false false = coded_tff
coded_table false true true = coded_ftt
coded_table false true false = coded_ftf
coded_table false false true = coded_fft
coded_table false false false = coded_fff

pub row_in_map_is : (escape f3 w : Bool) (op m : ℕ) → op < 256 → m < 256
    → lookup table_lines escape f3 w op m ≡ row_in_map escape f3 w op m
row_in_map_is escape f3 w op m p q =
    sym (pick_is table_lines escape f3 w op m) ∙
    tabulated (pick (fitting table_lines escape f3 w op)) (row_in_map escape f3 w op) 256
    (tabulated (λ n. table (pick (fitting table_lines escape f3 w n)) 256)
    (λ n. table (row_in_map escape f3 w n) 256) 256 (coded_table escape f3 w) op p) m q

abbrev few_of : List Line → List Bool
few_of ls = table (λ m. nat_lt (picks ls m) 2) 256

abbrev Few : Bool → Bool → Bool → Type 0
Few escape f3 w = table (λ op. few_of (fitting table_lines escape f3 w op)) 256
    ≡ table (λ op. table (λ m. true) 256) 256

few_ttt : Few true true true
few_ttt = refl

few_ttf : Few true true false
few_ttf = refl

few_tft : Few true false true
few_tft = refl

few_tff : Few true false false
few_tff = refl

few_ftt : Few false true true
few_ftt = refl

few_ftf : Few false true false
few_ftf = refl

few_fft : Few false false true
few_fft = refl

few_fff : Few false false false
few_fff = refl

few_table : (escape f3 w : Bool) → Few escape f3 w
few_table true true true = few_ttt
few_table true true false = few_ttf
few_table true false true = few_tft
few_table true false false = few_tff
few_table false true true = few_ftt
few_table false true false = few_ftf
few_table false false true = few_fft
few_table false false false = few_fff

-- no two lines fit
pub few : (escape f3 w : Bool) (op m : ℕ) → op < 256 → m < 256
    → hits table_lines escape f3 w op m < 2
few escape f3 w op m p q =
    let P : ℕ → Type 0 = λ n. n < 2 in
    subst P (picks_is table_lines escape f3 w op m)
    (ltb-true (picks (fitting table_lines escape f3 w op) m) 2
    (tabulated (λ m. nat_lt (picks (fitting table_lines escape f3 w op) m) 2) (λ m. true) 256
    (tabulated (λ n. few_of (fitting table_lines escape f3 w n)) (λ n. table (λ m. true) 256) 256
    (few_table escape f3 w) op p) m q))

-- whether the code asks for ModRM
abbrev pub modrm_in_map : Bool → ℕ → Bool
modrm_in_map escape op = if escape then two_byte_has_modrm op else one_byte_has_modrm op

asks_table : (escape : Bool) → table (modrm_follows escape) 256 ≡ table (modrm_in_map escape) 256
unfolding modrm_follows one_byte_has_modrm two_byte_has_modrm
asks_table true = refl
asks_table false = refl

pub asks_is : (escape : Bool) (op : ℕ) → op < 256 → modrm_follows escape op ≡ modrm_in_map escape op
asks_is escape op p = tabulated (modrm_follows escape) (modrm_in_map escape) 256 (asks_table escape)
    op p

abbrev kind_fits : Bool → ℕ → Line → Bool
kind_fits escape op line =
    not (in_line line escape op) || same_bool (has_modrm line.ask) (modrm_in_map escape op)

kind_table : (escape : Bool)
    → table (λ op. every (kind_fits escape op) table_lines) 256 ≡ table (λ op. true) 256
unfolding one_byte_has_modrm two_byte_has_modrm
kind_table true = refl
kind_table false = refl

-- the lines of an opcode all have ModRM, or none
pub kind : (line : Line) (escape : Bool) (op : ℕ) → op < 256 → In table_lines line
    → in_line line escape op ≡ true → has_modrm line.ask ≡ modrm_follows escape op
kind line escape op p i e =
    let all : every (kind_fits escape op) table_lines ≡ true =
    tabulated (λ n. every (kind_fits escape n) table_lines) (λ n. true) 256 (kind_table escape)
    op p in
    let here : kind_fits escape op line ≡ true =
    every_in (kind_fits escape op) table_lines line all i in
    same_true (has_modrm line.ask) (modrm_in_map escape op)
    (left_false (in_line line escape op)
    (same_bool (has_modrm line.ask) (modrm_in_map escape op)) e here) ∙ sym (asks_is escape op
    p)
  where
    left_false : (a b : Bool) → a ≡ true → (not a || b) ≡ true → b ≡ true
    left_false true b p q = q
    left_false false b p q = absurd cc

-- no line of one byte has the opcode 0F
pub not_escape : (line : Line) → In table_lines line → (not (in_line line false 0x0F)) ≡ true
not_escape line i = every_in (λ (l : Line). not (in_line l false 0x0F)) table_lines line refl i
