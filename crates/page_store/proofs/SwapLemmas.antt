-- A list without the page at a place, into which the last page moved.
use Rattle.std.proofs.Common.{◌≡◌, ℕ, zero, suc, ◌-◌, ◌<◌, ◌≢◌, List, [], ◌∷◌, ◌++◌, length, get_or}
use Rattle.std.proofs.Common.{take, cond, true, eqb, Some, None, refl, sym, ap, subst, ◌∙◌, arith}
use Rattle.std.proofs.Common.{inl, inr, eqb-true, ne_eqb, eq-eqb}
use Rattle.std.specs.List.{swap_remove}
use Rattle.std.proofs.Math.Seq.{take-suc}
use Rattle.std.proofs.lemmas.List.{take_all}
use Rattle.std.proofs.lemmas.Bool.{cases_Bool, eqb-false}
use Rattle.std.proofs.lemmas.Bool.Decides.{nat_tests}
use Rattle.page_store.specs.declared.page_list.Page.{Page}
use Rattle.page_store.specs.Listed.{find_page, is_listed, is_fresh}
use Rattle.page_store.proofs.ListLemmas.{find_page-at, find_page-push, fresh-none, fresh-low}
use Rattle.page_store.proofs.ListLemmas.{fresh-sound, fresh-size, is_fresh-by}

swap_remove_first : (p q : Page) (ps : List Page) (d : Page)
    → swap_remove (p ∷ q ∷ ps) zero d ≡ get_or (q ∷ ps) (length ps) d ∷ take (length ps) (q ∷ ps)
swap_remove_first p q ps d = let e : length (p ∷ q ∷ ps) - 1 ≡ suc (length ps) = omega arith in
    rw e refl

swap_remove_later : (p q : Page) (ps : List Page) (i : ℕ) (d : Page)
    → swap_remove (p ∷ q ∷ ps) (suc i) d ≡ p ∷ swap_remove (q ∷ ps) i d
swap_remove_later p q ps i d =
    let e : length (p ∷ q ∷ ps) - 1 ≡ suc (length ps) = omega arith in
    let f : length (q ∷ ps) - 1 ≡ length ps = omega arith in
    rw (e, f) refl

-- a list and the page after it
pub record IsBehind (xs : List Page) (y : Page) : Type 0 where
  pub listed : is_listed xs ≡ true
  pub fresh : is_fresh y xs ≡ true

pub is_behind : (xs : List Page) (y : Page) → is_listed (xs ++ y ∷ []) ≡ true → IsBehind xs y
is_behind [] y h = record { listed = refl; fresh = grind arith }
is_behind (x ∷ xs) y h =
    let f : is_fresh x (xs ++ y ∷ []) ≡ true = grind arith in
    let r = is_behind xs y (grind arith) in
    let g : is_fresh y xs ≡ true = r.fresh in
    let none : cond (eqb x.number y.number) (Some y) (find_page xs x.number) ≡ None =
    sym (find_page-push xs y x.number (fresh-none y xs g)) ∙ fresh-none x (xs ++ y ∷ []) f in
    elim (cases_Bool (eqb x.number y.number)) [
      | inl t ↦ absurd (let k : Some y ≡ None = rw t at none in cc)
      | inr t ↦ (
          let fx : is_fresh x xs ≡ true =
          is_fresh-by x xs (rw t at none) (fresh-low x (xs ++ y ∷ []) f)
          (fresh-sound x (xs ++ y ∷ []) f) (fresh-size x (xs ++ y ∷ []) f) in
          let l : is_listed xs ≡ true = r.listed in
          let fy : is_fresh y (x ∷ xs) ≡ true =
          is_fresh-by y (x ∷ xs) (rw t (fresh-none y xs g)) (fresh-low y xs g)
          (fresh-sound y xs g) (fresh-size y xs g) in
          record { listed = rw (fx, l) refl; fresh = fy })
    ]

-- one list finds what another does
pub record FindsSame (xs ys : List Page) : Type 0 where
  pub listed : is_listed xs ≡ true
  pub finds : (x : ℕ) → find_page xs x ≡ find_page ys x

behind_moved : (xs : List Page) (y : Page) → is_listed (xs ++ y ∷ []) ≡ true
    → FindsSame (y ∷ xs) (xs ++ y ∷ [])
behind_moved xs y h =
    let r = is_behind xs y h in
    let g : is_fresh y xs ≡ true = r.fresh in
    let l : is_listed xs ≡ true = r.listed in
    record {
      listed = rw (g, l) refl;
      finds = λ x. elim (cases_Bool (eqb y.number x)) [
        | inl t ↦ (let same : y.number ≡ x = eqb-true _ _ t in
            rw (t, find_page-push xs y x (fresh-none y xs g), eq-eqb x y.number (sym same)) refl)
        | inr t ↦ rw (
          t,
          find_page-push xs y x (fresh-none y xs g),
          ne_eqb x y.number
              (λ q. eqb-false _ _ t (sym q)),
        ) refl
      ];
    }

-- the last page in front
last_moved : (p : Page) (ps : List Page) (d : Page) → is_listed (p ∷ ps) ≡ true
    → FindsSame (get_or (p ∷ ps) (length ps) d ∷ take (length ps) (p ∷ ps)) (p ∷ ps)
last_moved p ps d h =
    let whole : take (length ps) (p ∷ ps) ++ get_or (p ∷ ps) (length ps) d ∷ [] ≡ p ∷ ps =
    sym (take-suc (p ∷ ps) (length ps) d (omega arith))
    ∙ take_all (suc (length ps)) (p ∷ ps) (omega arith) in
    subst (λ ys. FindsSame (get_or (p ∷ ps) (length ps) d ∷ take (length ps) (p ∷ ps)) ys) whole
    (behind_moved (take (length ps) (p ∷ ps)) (get_or (p ∷ ps) (length ps) d) (ap is_listed whole
    ∙ h))

-- no page is found that wasn't
pub find_page_none-swap : (ps : List Page) (i : ℕ) (d : Page) (x : ℕ) → is_listed ps ≡ true
    → i < length ps → find_page ps x ≡ None → find_page (swap_remove ps i d) x ≡ None
find_page_none-swap [] i d x h l n = absurd (omega arith)
find_page_none-swap (p ∷ []) zero d x h l n = refl
find_page_none-swap (p ∷ []) (suc i) d x h l n = absurd (omega arith)
find_page_none-swap (p ∷ q ∷ ps) zero d x h l n =
    elim (cases_Bool (eqb p.number x)) [
      | inl t ↦ absurd (let k : Some p ≡ None = rw t at n in cc)
      | inr t ↦ (let m = last_moved q ps d (grind arith) in
          ap (λ ys. find_page ys x) (swap_remove_first p q ps d) ∙ m.finds x ∙ rw t at n)
    ]
find_page_none-swap (p ∷ q ∷ ps) (suc i) d x h l n =
    elim (cases_Bool (eqb p.number x)) [
      | inl t ↦ absurd (let k : Some p ≡ None = rw t at n in cc)
      | inr t ↦ ap (λ ys. find_page ys x) (swap_remove_later p q ps i d)
          ∙ rw t (find_page_none-swap (q ∷ ps) i d x (grind arith) (omega arith) (rw t at n))
    ]

-- only that page is no longer found
pub find_page-swap : (ps : List Page) (i : ℕ) (d : Page) (x : ℕ) → is_listed ps ≡ true
    → i < length ps
    → find_page (swap_remove ps i d) x ≡ cond (eqb x (get_or ps i d).number) None (find_page ps x)
find_page-swap [] i d x h l = absurd (omega arith)
find_page-swap (p ∷ []) zero d x h l = grind (arith, nat_tests)
find_page-swap (p ∷ []) (suc i) d x h l = absurd (omega arith)
find_page-swap (p ∷ q ∷ ps) zero d x h l =
    let none : find_page (q ∷ ps) p.number ≡ None = fresh-none p (q ∷ ps) (grind arith) in
    let m = last_moved q ps d (grind arith) in
    ap (λ ys. find_page ys x) (swap_remove_first p q ps d) ∙ m.finds x ∙
    elim (cases_Bool (eqb p.number x)) [
      | inl t ↦ (let same : p.number ≡ x = eqb-true _ _ t in
          rw (t, eq-eqb x p.number (sym same), ← same) none)
      | inr t ↦ rw (t, ne_eqb x p.number (λ e. eqb-false _ _ t (sym e))) refl
    ]
find_page-swap (p ∷ q ∷ ps) (suc i) d x h l =
    let rest = find_page-swap (q ∷ ps) i d x (grind arith) (omega arith) in
    let at = find_page-at (q ∷ ps) i d (grind arith) (omega arith) in
    let none : find_page (q ∷ ps) p.number ≡ None = fresh-none p (q ∷ ps) (grind arith) in
    ap (λ ys. find_page ys x) (swap_remove_later p q ps i d) ∙
    elim (cases_Bool (eqb p.number x)) [
      | inl t ↦ (let same : p.number ≡ x = eqb-true _ _ t in
          let other : x ≢ (get_or (q ∷ ps) i d).number =
          λ e. (let k : None ≡ Some (get_or (q ∷ ps) i d) = sym none
          ∙ ap (find_page (q ∷ ps)) (same ∙ e) ∙ at in cc) in
          rw (t, ne_eqb x (get_or (q ∷ ps) i d).number other) refl)
      | inr t ↦ rw t rest
    ]

pub is_listed-swap : (ps : List Page) (i : ℕ) (d : Page) → is_listed ps ≡ true → i < length ps
    → is_listed (swap_remove ps i d) ≡ true
is_listed-swap [] i d h l = absurd (omega arith)
is_listed-swap (p ∷ []) zero d h l = refl
is_listed-swap (p ∷ []) (suc i) d h l = absurd (omega arith)
is_listed-swap (p ∷ q ∷ ps) zero d h l =
    let m = last_moved q ps d (grind arith) in
    ap is_listed (swap_remove_first p q ps d) ∙ m.listed
is_listed-swap (p ∷ q ∷ ps) (suc i) d h l =
    let f : is_fresh p (q ∷ ps) ≡ true = grind arith in
    let g : is_listed (q ∷ ps) ≡ true = grind arith in
    let r : is_listed (swap_remove (q ∷ ps) i d) ≡ true =
    is_listed-swap (q ∷ ps) i d g (omega arith) in
    let fresh : is_fresh p (swap_remove (q ∷ ps) i d) ≡ true =
    is_fresh-by p _ (find_page_none-swap (q ∷ ps) i d p.number g (omega arith)
    (fresh-none p (q ∷ ps) f)) (fresh-low p (q ∷ ps) f) (fresh-sound p (q ∷ ps) f) (fresh-size p
    (q ∷ ps) f) in
    ap is_listed (swap_remove_later p q ps i d) ∙ rw (fresh, r) refl
