-- The rows of the table, by their lines and by their bytes.
use Rattle.std.proofs.Common.{◌≡◌, ℕ, ◌<◌, ◌&&◌, Bool, true, false, cond, List, [], ◌∷◌, Option}
use Rattle.std.proofs.Common.{Some, None, refl, sym, ap, subst, ◌∙◌, arith}
use Rattle.erim_defs.specs.declared.grammar.Lead.{Lead}
use Rattle.erim_defs.specs.declared.grammar.Row.{Row}
use Rattle.erim_defs.specs.Encoding.Parts.{Byte, Choose, When}
use Rattle.erim_defs.specs.Encoding.OpcodeTable.{Line, Ask, NoModRM, Any, AnyMemory, Ext, Memory}
use Rattle.erim_defs.specs.Encoding.OpcodeTable.{Exactly, table_lines, hit, lookup, in_line}
use Rattle.erim_defs.specs.Encoding.OpcodeTable.{has_modrm, ask_fits, same_bool, w_fits}
use Rattle.erim_defs.specs.Encoding.Grammar.{at_line, InsnAndSizes, In, After, Opcode, admits}
use Rattle.erim_defs.specs.Encoding.Decoding.{if_admitted, row_at, modrm_follows}
use Rattle.encoding_laws.proofs.PartLemmas.{when_to, when_back}
use Rattle.encoding_laws.proofs.LineLemmas.{and_true, both_true, lookup_hit, lookup_found}
use Rattle.encoding_laws.proofs.OpcodeMapLemmas.{few, kind}
use Rattle.encoding_laws.proofs.TailLemmas.{Found, OfPlain, OfModrm, Tail}

-- ---- choices

choose_as : {A : Type 0} (b c : Bool) (R S T U : List ℕ → A → Type 0) (t : List ℕ) (a : A) → b ≡ c
    → (b ≡ true → R t a → T t a) → (b ≡ false → S t a → U t a) → Choose b R S t a → Choose c T U t a
choose_as true true R S T U t a e f g h = f refl h
choose_as false false R S T U t a e f g h = g refl h
choose_as true false R S T U t a e f g h = absurd cc
choose_as false true R S T U t a e f g h = absurd cc

pub choose_left : {A : Type 0} (b : Bool) (R S : List ℕ → A → Type 0) (t : List ℕ) (a : A)
    → b ≡ true → R t a → Choose b R S t a
choose_left true R S t a e h = h
choose_left false R S t a e h = absurd cc

pub choose_right : {A : Type 0} (b : Bool) (R S : List ℕ → A → Type 0) (t : List ℕ) (a : A)
    → b ≡ false → S t a → Choose b R S t a
choose_right false R S t a e h = h
choose_right true R S t a e h = absurd cc

found_some : (F : Row → List ℕ → InsnAndSizes
    → Type 0) (r : Option Row) (t : List ℕ) (a : InsnAndSizes) → Found F r t a → (row : Row) × (r
    ≡ Some row) × F row t a
found_some F None t a h = absurd h
found_some F (Some row) t a h = (row, refl, h)

found_is : (F : Row → List ℕ → InsnAndSizes
    → Type 0) (r : Option Row) (row : Row) (t : List ℕ) (a :
    InsnAndSizes) → r ≡ Some row → F row t a → Found F r t a
found_is F r row t a e h = let P : Option Row → Type 0 = λ x. Found F x t a in subst P (sym e) h

admitted : (lead : Lead) (m : ℕ) (r : Option Row) (row : Row) → if_admitted lead m r ≡ Some row
    → (r ≡ Some row) × (admits lead row m ≡ true)
admitted lead m None row e = absurd cc
admitted lead m (Some x) row e = by_test (admits lead x m) refl e
  where
    by_test : (b : Bool) → admits lead x m ≡ b → cond b (Some x) None ≡ Some row
        → (Some x ≡ Some row) × (admits lead row m ≡ true)
    by_test true h f = let k : x ≡ row = cc in (f, ap (λ (y : Row). admits lead y m) (sym k) ∙ h)
    by_test false h f = absurd cc

admitted_is : (lead : Lead) (m : ℕ) (r : Option Row) (row : Row) → r ≡ Some row
    → admits lead row m ≡ true → if_admitted lead m r ≡ Some row
admitted_is lead m r row e h = ap (if_admitted lead m) e ∙ ap (λ b. cond b (Some row) None) h

-- ---- a line's row is found, and what is found is a line's

-- the same with ModRM, as hit has it
hit_of : (line : Line) (lead : Lead) (escape : Bool) (op m : ℕ) → line.escape ≡ escape
    → at_line line lead op ≡ true → ask_fits line.ask m ≡ true
    → hit line escape lead.f3 lead.rex.w op m ≡ true
hit_of line lead escape op m e h k =
    let one = and_true (in_line line line.escape op) (same_bool line.f3 lead.f3
    && w_fits line.w lead.rex.w) h in
    let two = and_true (same_bool line.f3 lead.f3) (w_fits line.w lead.rex.w) one.1 in
    both_true (in_line line escape op) (same_bool line.f3 lead.f3
    && (w_fits line.w lead.rex.w && ask_fits line.ask m))
    (ap (λ b. in_line line b op) (sym e) ∙ one.0)
    (both_true (same_bool line.f3 lead.f3) (w_fits line.w lead.rex.w
    && ask_fits line.ask m) two.0 (both_true (w_fits line.w lead.rex.w) (ask_fits line.ask m)
    two.1 k))

pub record Fitting (lead : Lead) (escape : Bool) (op m : ℕ) (row : Row) : Type 0 where
  pub line : Line
  pub member : In table_lines line
  pub where_is : line.escape ≡ escape
  pub at : at_line line lead op ≡ true
  pub asked : ask_fits line.ask m ≡ true
  pub row_is : line.row ≡ row
  pub admitted : admits lead line.row m ≡ true
  pub kind : has_modrm line.ask ≡ modrm_follows escape op

escape_of : (line : Line) (escape : Bool) (op : ℕ) → in_line line escape op ≡ true
    → line.escape ≡ escape
escape_of line escape op h =
    same line.escape escape (and_true (same_bool line.escape escape) (_) h).0
  where
    same : (a b : Bool) → same_bool a b ≡ true → a ≡ b
    same true true e = refl
    same true false e = absurd cc
    same false true e = absurd cc
    same false false e = refl

row_fits : (lead : Lead) (escape : Bool) (op m : ℕ) (row : Row) → op < 256 → m < 256
    → row_at lead escape op m ≡ Some row → Fitting lead escape op m row
unfolding row_at
row_fits lead escape op m row p q e =
    let a = admitted lead m (lookup table_lines escape lead.f3 lead.rex.w op m) row e in
    let f = lookup_found table_lines escape lead.f3 lead.rex.w op m row a.0 in
    let line = f.0 in
    let one = and_true (in_line line escape op) (same_bool line.f3 lead.f3
    && (w_fits line.w lead.rex.w && ask_fits line.ask m)) f.2 in
    let two = and_true (same_bool line.f3 lead.f3) (w_fits line.w lead.rex.w
    && ask_fits line.ask m) one.1 in
    let three = and_true (w_fits line.w lead.rex.w) (ask_fits line.ask m) two.1 in
    let esc = escape_of line escape op one.0 in
    record {
      line = line;
      member = f.1;
      where_is = esc;
      at = both_true (in_line line line.escape op) (same_bool line.f3 lead.f3
          && w_fits line.w lead.rex.w) (ap (λ b. in_line line b op) esc
          ∙ one.0) (both_true (same_bool line.f3 lead.f3) (w_fits line.w lead.rex.w) two.0 three.0);
      asked = three.1;
      row_is = f.3;
      admitted = ap (λ (r : Row). admits lead r m) f.3 ∙ a.1;
      kind = kind line escape op p f.1 one.0;
    }

line_row : (lead : Lead) (escape : Bool) (op m : ℕ) (line : Line) → op < 256 → m < 256
    → In table_lines line → line.escape ≡ escape → at_line line lead op ≡ true
    → ask_fits line.ask m ≡ true → admits lead line.row m ≡ true
    → row_at lead escape op m ≡ Some line.row
unfolding row_at
line_row lead escape op m line p q i e h k a =
    admitted_is lead m (lookup table_lines escape lead.f3 lead.rex.w op m) line.row
    (lookup_hit table_lines line escape lead.f3 lead.rex.w op m i
    (hit_of line lead escape op m e h k) (few escape lead.f3 lead.rex.w op m p q)) a

plain_asks : (ask : Ask) (m : ℕ) → has_modrm ask ≡ false → ask_fits ask m ≡ true
plain_asks NoModRM m e = refl
plain_asks Any m e = refl
plain_asks AnyMemory m e = absurd cc
plain_asks (Ext r) m e = absurd cc
plain_asks (Memory r) m e = absurd cc
plain_asks (Exactly r) m e = absurd cc

-- ---- opcodes of one map

unfoldable pub Opcoded : Lead → Bool → List ℕ → InsnAndSizes → Type 0
Opcoded lead escape encoding a = (line : Line) × In table_lines line × (line.escape ≡ escape)
    × Opcode line lead encoding a

pub opcoded_to : (lead : Lead) (escape : Bool) (t : List ℕ) (a : InsnAndSizes)
    → Opcoded lead escape t a → Byte (Tail lead escape) t a
unfolding Opcoded Tail
opcoded_to lead escape [] a h = absurd h.3
opcoded_to lead escape (op ∷ u) a h =
    let line = h.0 in
    let lt : op < 256 = h.3.0 in
    let w = when_to (at_line line lead op) (After line lead op) u a h.3.1 in
    let one = and_true (in_line line line.escape op) (same_bool line.f3 lead.f3
    && w_fits line.w lead.rex.w) w.0 in
    let k = kind line escape op lt h.1 (ap (λ b. in_line line b op) (sym h.2) ∙ one.0) in (
      lt,
      choose_as (has_modrm line.ask) (modrm_follows escape op)
          (Byte (λ m. When (ask_fits line.ask m
          && admits lead line.row m) (OfModrm lead op m line.row)))
          (When (admits lead line.row 0) (OfPlain lead op line.row))
          (Byte (λ m. Found (OfModrm lead op m) (row_at lead escape op m)))
          (Found (OfPlain lead op) (row_at lead escape op 0)) u a k
          (λ _. modrm line h.1 h.2 lt w.0 u)
          (λ no p. let v = when_to (admits lead line.row 0) (OfPlain lead op line.row) u a p in
          found_is (OfPlain lead op) (row_at lead escape op 0) line.row u a
          (line_row lead escape op 0 line lt (omega arith) h.1 h.2 w.0
          (plain_asks line.ask 0 no) v.0) v.1) w.1,
    )
  where
    modrm : (line : Line) → In table_lines line → line.escape ≡ escape → op < 256
        → at_line line lead op ≡ true → (t : List ℕ)
        → Byte (λ m. When (ask_fits line.ask m
        && admits lead line.row m) (OfModrm lead op m line.row)) t a → Byte (λ m. Found (OfModrm
        lead op m) (row_at lead escape op m)) t a
    modrm line i e lt at [] p = absurd p
    modrm line i e lt at (m ∷ v) p =
        let w = when_to (ask_fits line.ask m && admits lead line.row m) (OfModrm lead op m line.row)
        v a p.1 in
        let both = and_true (ask_fits line.ask m) (admits lead line.row m) w.0 in (
          p.0,
          found_is (OfModrm lead op m) (row_at lead escape op m) line.row v a
              (line_row lead escape op m line lt p.0 i e at both.0 both.1) w.1,
        )

pub opcoded_back : (lead : Lead) (escape : Bool) (t : List ℕ) (a : InsnAndSizes)
    → Byte (Tail lead escape) t a → Opcoded lead escape t a
unfolding Opcoded Tail
opcoded_back lead escape [] a h = absurd h
opcoded_back lead escape (op ∷ u) a h = by_asks (modrm_follows escape op) refl h.1
  where
    Modrm : Line → List ℕ → InsnAndSizes → Type 0
    Modrm line = Byte (λ m. When (ask_fits line.ask m
        && admits lead line.row m) (OfModrm lead op m line.row))

    Plain : Line → List ℕ → InsnAndSizes → Type 0
    Plain line = When (admits lead line.row 0) (OfPlain lead op line.row)

    done : (m : ℕ) (row : Row) (f : Fitting lead escape op m row) → After f.line lead op u a
        → Opcoded lead escape (op ∷ u) a
    done m row f r = (
      f.line,
      f.member,
      f.where_is,
      (h.0, when_back (at_line f.line lead op) (After f.line lead op) u a f.at r),
    )

    by_asks : (b : Bool) → modrm_follows escape op ≡ b
        → Choose b (Byte (λ m. Found (OfModrm lead op m) (row_at lead escape op m)))
        (Found (OfPlain lead op) (row_at lead escape op 0)) u a → Opcoded lead escape (op ∷ u) a
    by_asks true e p = modrm u refl p
      where
        modrm : (t : List ℕ) → u ≡ t
            → Byte (λ m. Found (OfModrm lead op m) (row_at lead escape op m)) t a
            → Opcoded lead escape (op ∷ u) a
        modrm [] eq p = absurd p
        modrm (m ∷ v) eq p =
            let s = found_some (OfModrm lead op m) (row_at lead escape op m) v a p.1 in
            let f = row_fits lead escape op m s.0 h.0 p.0 s.1 in
            let P : Row → Type 0 = λ r. OfModrm lead op m r v a in
            let w = when_back (ask_fits f.line.ask m
            && admits lead f.line.row m) (OfModrm lead op m f.line.row) v a (both_true
            (ask_fits f.line.ask m) (admits lead f.line.row m) f.asked f.admitted) (subst P
            (sym f.row_is) s.2) in
            let Q : List ℕ → Type 0 = λ t. Modrm f.line t a in
            done m s.0 f (choose_left (has_modrm f.line.ask) (Modrm f.line) (Plain f.line) u a
            (f.kind ∙ e) (subst Q (sym eq) (p.0, w)))
    by_asks false e p =
        let s = found_some (OfPlain lead op) (row_at lead escape op 0) u a p in
        let f = row_fits lead escape op 0 s.0 h.0 (omega arith) s.1 in
        let P : Row → Type 0 = λ r. OfPlain lead op r u a in
        let w = when_back (admits lead f.line.row 0) (OfPlain lead op f.line.row) u a f.admitted
        (subst P (sym f.row_is) s.2) in
        done 0 s.0 f (choose_right (has_modrm f.line.ask) (Modrm f.line) (Plain f.line) u a (f.kind
        ∙ e) w)
