-- Lines of a table, and the first one that fits.
use Rattle.std.proofs.Common.{◌⊎◌, ◌≡◌, ℕ, ◌+◌, ◌<◌, ◌≤◌, ◌&&◌, Bool, true, false, cond, List, []}
use Rattle.std.proofs.Common.{◌∷◌, Option, Some, None, refl, sym, ap, ◌∙◌, arith, inl, inr}
use Rattle.erim_defs.specs.declared.grammar.Row.{Row}
use Rattle.erim_defs.specs.Encoding.Grammar.{In}
use Rattle.erim_defs.specs.Encoding.OpcodeTable.{w_fits, ask_fits, Line, hit, lookup, in_line}
use Rattle.erim_defs.specs.Encoding.OpcodeTable.{same_bool}

pub and_true : (a b : Bool) → (a && b) ≡ true → (a ≡ true) × (b ≡ true)
and_true true b e = (refl, e)
and_true false b e = absurd cc

pub both_true : (a b : Bool) → a ≡ true → b ≡ true → (a && b) ≡ true
both_true true b p q = q
both_true false b p q = absurd cc

pub same_true : (a b : Bool) → same_bool a b ≡ true → a ≡ b
same_true true true e = refl
same_true true false e = absurd cc
same_true false true e = absurd cc
same_true false false e = refl

pub same_refl : (a : Bool) → same_bool a a ≡ true
same_refl true = refl
same_refl false = refl

abbrev pub every : {A : Type 0} → (A → Bool) → List A → Bool
every p [] = true
every p (x ∷ xs) = p x && every p xs

pub every_in : {A : Type 0} (p : A → Bool) (xs : List A) (x : A) → every p xs ≡ true → In xs x
    → p x ≡ true
every_in p [] x e i = absurd i
every_in p (y ∷ ys) x e (inl h) = ap p (sym h) ∙ (and_true (p y) (every p ys) e).0
every_in p (y ∷ ys) x e (inr h) = every_in p ys x (and_true (p y) (every p ys) e).1 h

-- how many lines fit
abbrev pub hits : List Line → Bool → Bool → Bool → ℕ → ℕ → ℕ
hits [] escape f3 w op m = 0
hits (line ∷ ls) escape f3 w op m =
    cond (hit line escape f3 w op m) (1 + hits ls escape f3 w op m) (hits ls escape f3 w op m)

hits_in : (ls : List Line) (line : Line) (escape f3 w : Bool) (op m : ℕ) → In ls line
    → hit line escape f3 w op m ≡ true → 1 ≤ hits ls escape f3 w op m
hits_in [] line escape f3 w op m i e = absurd i
hits_in (l ∷ ls) line escape f3 w op m i e =
    by_hit (hit l escape f3 w op m) refl i (λ j. hits_in ls line escape f3 w op m j e)
  where
    by_hit : (b : Bool) → hit l escape f3 w op m ≡ b → (l ≡ line) ⊎ In ls line
        → (In ls line → 1 ≤ hits ls escape f3 w op m)
        → 1 ≤ cond b (1 + hits ls escape f3 w op m) (hits ls escape f3 w op m)
    by_hit true h j rec = omega arith
    by_hit false h (inl j) rec = let e' : hit l escape f3 w op m ≡ true =
        ap (λ (x : Line). hit x escape f3 w op m) j ∙ e in absurd cc
    by_hit false h (inr j) rec = rec j

-- where at the most one line fits, a line that fits is found
pub lookup_hit : (ls : List Line) (line : Line) (escape f3 w : Bool) (op m : ℕ) → In ls line
    → hit line escape f3 w op m ≡ true → hits ls escape f3 w op m < 2
    → lookup ls escape f3 w op m ≡ Some line.row
lookup_hit [] line escape f3 w op m i e u = absurd i
lookup_hit (l ∷ ls) line escape f3 w op m i e u =
    by_hit (hit l escape f3 w op m) refl i u (λ j v. lookup_hit ls line escape f3 w op m j e v)
  where
    by_hit : (b : Bool) → hit l escape f3 w op m ≡ b → (l ≡ line) ⊎ In ls line
        → cond b (1 + hits ls escape f3 w op m) (hits ls escape f3 w op m) < 2
        → (In ls line → hits ls escape f3 w op m < 2 → lookup ls escape f3 w op m ≡ Some line.row)
        → cond b (Some l.row) (lookup ls escape f3 w op m) ≡ Some line.row
    by_hit true h (inl j) v rec = ap (λ (x : Line). Some x.row) j
    by_hit true h (inr j) v rec = let k = hits_in ls line escape f3 w op m j e in
        absurd (omega arith)
    by_hit false h (inl j) v rec = let e' : hit l escape f3 w op m ≡ true =
        ap (λ (x : Line). hit x escape f3 w op m) j ∙ e in absurd cc
    by_hit false h (inr j) v rec = rec j v

-- what is found is a line's
pub lookup_found : (ls : List Line) (escape f3 w : Bool) (op m : ℕ) (row : Row)
    → lookup ls escape f3 w op m ≡ Some row
    → (line : Line) × In ls line × (hit line escape f3 w op m ≡ true) × (line.row ≡ row)
lookup_found [] escape f3 w op m row e = absurd cc
lookup_found (l ∷ ls) escape f3 w op m row e =
    by_hit (hit l escape f3 w op m) refl e (lookup_found ls escape f3 w op m row)
  where
    by_hit : (b : Bool) → hit l escape f3 w op m ≡ b
        → cond b (Some l.row) (lookup ls escape f3 w op m) ≡ Some row
        → (lookup ls escape f3 w op m ≡ Some row
        → (line : Line) × In ls line × (hit line escape f3 w op m ≡ true)
        × (line.row ≡ row)) → (line : Line) × In (l ∷ ls) line × (hit line escape f3 w op m
        ≡ true) × (line.row ≡ row)
    by_hit true h f rec = (l, inl refl, h, cc)
    by_hit false h f rec = let k = rec f in (k.0, inr k.1, k.2, k.3)

-- the same, with the opcode's lines first

abbrev pub fitting : List Line → Bool → Bool → Bool → ℕ → List Line
fitting [] escape f3 w op = []
fitting (line ∷ ls) escape f3 w op =
    cond (in_line line escape op && (same_bool line.f3 f3 && w_fits line.w w)) (line
    ∷ fitting ls escape f3 w op) (fitting ls escape f3 w op)

abbrev pub pick : List Line → ℕ → Option Row
pick [] m = None
pick (line ∷ ls) m = cond (ask_fits line.ask m) (Some line.row) (pick ls m)

abbrev pub picks : List Line → ℕ → ℕ
picks [] m = 0
picks (line ∷ ls) m = cond (ask_fits line.ask m) (1 + picks ls m) (picks ls m)

pub pick_is : (ls : List Line) (escape f3 w : Bool) (op m : ℕ)
    → pick (fitting ls escape f3 w op) m ≡ lookup ls escape f3 w op m
pick_is [] escape f3 w op m = refl
pick_is (line ∷ ls) escape f3 w op m =
    by_tests (in_line line escape op) (same_bool line.f3 f3) (w_fits line.w w) (ask_fits line.ask m)
    refl (pick_is ls escape f3 w op m)
  where
    by_tests : (a b c d : Bool) → ask_fits line.ask m ≡ d
        → pick (fitting ls escape f3 w op) m ≡ lookup ls escape f3 w op m
        → pick (cond (a && (b && c)) (line ∷ fitting ls escape f3 w op) (fitting ls escape f3 w op))
        m ≡ cond (a && (b && (c && d))) (Some line.row) (lookup ls escape f3 w op m)
    by_tests true true true true e rec =
        ap (λ x. cond x (Some line.row) (pick (fitting ls escape f3 w op) m)) e
    by_tests true true true false e rec =
        ap (λ x. cond x (Some line.row) (pick (fitting ls escape f3 w op) m)) e ∙ rec
    by_tests true true false d e rec = rec
    by_tests true false c d e rec = rec
    by_tests false b c d e rec = rec

pub picks_is : (ls : List Line) (escape f3 w : Bool) (op m : ℕ)
    → picks (fitting ls escape f3 w op) m ≡ hits ls escape f3 w op m
picks_is [] escape f3 w op m = refl
picks_is (line ∷ ls) escape f3 w op m =
    by_tests (in_line line escape op) (same_bool line.f3 f3) (w_fits line.w w) (ask_fits line.ask m)
    refl (picks_is ls escape f3 w op m)
  where
    by_tests : (a b c d : Bool) → ask_fits line.ask m ≡ d
        → picks (fitting ls escape f3 w op) m ≡ hits ls escape f3 w op m
        → picks (cond (a && (b && c)) (line ∷ fitting ls escape f3 w op)
        (fitting ls escape f3 w op)) m ≡ cond (a
        && (b && (c && d))) (1 + hits ls escape f3 w op m) (hits ls escape f3 w op m)
    by_tests true true true true e rec =
        ap (λ x. cond x (1 + picks (fitting ls escape f3 w op) m)
        (picks (fitting ls escape f3 w op) m)) e ∙ ap (λ n. 1 + n) rec
    by_tests true true true false e rec =
        ap (λ x. cond x (1 + picks (fitting ls escape f3 w op) m)
        (picks (fitting ls escape f3 w op) m)) e ∙ rec
    by_tests true true false d e rec = rec
    by_tests true false c d e rec = rec
    by_tests false b c d e rec = rec
