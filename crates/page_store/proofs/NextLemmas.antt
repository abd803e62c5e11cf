-- The least number of the pages of a list.
use Rattle.std.proofs.Common.{◌≡◌, ℕ, zero, suc, length, drop, ◌<◌, ◌≤◌, ◌⊎◌, List, [], ◌∷◌, Option}
use Rattle.std.proofs.Common.{Some, None, IsSome, true, false, ltb, ltb-true, ltb-false, eqb}
use Rattle.std.proofs.Common.{eqb-true, refl, sym, ap, ◌∙◌, arith, inl, inr}
use Rattle.std.proofs.lemmas.Bool.{cases_Bool}
use Rattle.std.proofs.lemmas.Bool.Decides.{nat_tests}
use Rattle.page_store.specs.declared.page_list.Page.{Page}
use Rattle.page_store.specs.Answers.{IsNextPage}
use Rattle.page_store.specs.Listed.{find_page, list_rights, rights_of, lesser, nearer, nearest}

lesser_le : (n : ℕ) (least : Option ℕ) → lesser n least ≤ n
lesser_le n None = omega arith
lesser_le n (Some m) = elim (cases_Bool (ltb n m)) [
  | inl t ↦ rw t (omega arith)
  | inr f ↦ (let le : m ≤ n = ltb-false _ _ f in rw f le)
]

lesser_of : (n : ℕ) (least : Option ℕ) (p : ℕ) → lesser n least ≡ p → (least ≡ Some p) ⊎ (n ≡ p)
lesser_of n None p h = inr h
lesser_of n (Some m) p h = elim (cases_Bool (ltb n m)) [
  | inl t ↦ inr (rw t at h)
  | inr f ↦ inl (ap Some (rw f at h))
]

-- what nearer gives is the least so far or the number
nearer_of : (n from : ℕ) (least : Option ℕ) (p : ℕ) → nearer n from least ≡ Some p
    → (least ≡ Some p) ⊎ ((from ≤ p) × (n ≡ p))
nearer_of n from least p h = elim (cases_Bool (ltb n from)) [
  | inl t ↦ inl (rw t at h)
  | inr f ↦ (let above : from ≤ n = ltb-false _ _ f in
      let k : Some (lesser n least) ≡ Some p = rw f at h in
      let e : lesser n least ≡ p = cc in
      elim (lesser_of n least p e) [ inl s ↦ inl s | inr s ↦ inr (omega (arith, s), s) ])
]

-- it never grows
nearer_le : (n from m : ℕ) → (p : ℕ) × (nearer n from (Some m) ≡ Some p) × (p ≤ m)
nearer_le n from m = elim (cases_Bool (ltb n from)) [
  | inl t ↦ (m, rw t refl, omega arith)
  | inr f ↦ elim (cases_Bool (ltb n m)) [
    | inl u ↦ (n, rw (f, u) refl, (let l : n < m = ltb-true _ _ u in omega arith))
    | inr u ↦ (m, rw (f, u) refl, omega arith)
  ]
]

-- what nearest gives is the least so far or the number of a page
nearest_of : (ps : List Page) (from : ℕ) (least : Option ℕ) (p : ℕ) → nearest ps from least ≡ Some p
    → (least ≡ Some p) ⊎ ((from ≤ p) × IsSome (list_rights ps p))
nearest_of [] from least p h = inl h
nearest_of (x ∷ ps) from least p h = elim (nearest_of ps from (nearer x.number from least) p h) [
  | inl e ↦ elim (nearer_of x.number from least p e) [
    | inl s ↦ inl s
    | inr s ↦ inr (
      s.0,
      (let t : eqb x.number p ≡ true = grind (arith, nat_tests, s.1) in
          rw t refl),
    )
  ]
  | inr s ↦ inr (s.0, elim (cases_Bool (eqb x.number p)) [ inl t ↦ rw t refl | inr f ↦ rw f s.1 ])
]

nearest_le : (ps : List Page) (from m : ℕ) → (p : ℕ) × (nearest ps from (Some m) ≡ Some p) × (p ≤ m)
nearest_le [] from m = (m, refl, omega arith)
nearest_le (x ∷ ps) from m =
    let n = nearer_le x.number from m in
    let rest = nearest_le ps from n.0 in (
      rest.0,
      ap (nearest ps from) n.1 ∙ rest.1,
      (let a = n.2 in let b = rest.2 in
          omega (arith, a, b)),
    )

-- no mapped page is nearer
nearest_least : (ps : List Page) (from : ℕ) (least : Option ℕ) (q : ℕ) (d : Page) → from ≤ q
    → find_page ps q ≡ Some d
    → (p : ℕ) × (nearest ps from least ≡ Some p) × (p ≤ q)
nearest_least [] from least q d l h = absurd (cc)
nearest_least (x ∷ ps) from least q d l h = elim (cases_Bool (eqb x.number q)) [
  | inl t ↦ (let same : x.number ≡ q = eqb-true _ _ t in
      let f : ltb x.number from ≡ false = grind (arith, nat_tests) in
      let rest = nearest_le ps from (lesser x.number least) in (
        rest.0,
        ap (nearest ps from) (rw f refl)
            ∙ rest.1,
        (let a = rest.2 in let b = lesser_le x.number least in
            omega (arith, a, b, same)),
      ))
  | inr f ↦ nearest_least ps from (nearer x.number from least) q d l (rw f at h)
]

none_unless : (o : Option Page) → ((d : Page) → o ≡ Some d → ⊥) → rights_of o ≡ None
none_unless None h = refl
none_unless (Some d) h = absurd (h d refl)

is_next : (ps : List Page) (from : ℕ) (r : Option ℕ) → nearest ps from None ≡ r
    → IsNextPage (list_rights ps) from r
is_next ps from None e = λ q l. none_unless (find_page ps q) (λ d h.
    let n = nearest_least ps from None q d l h in let k : Some n.0 ≡ None = sym n.1 ∙ e in cc)
is_next ps from (Some p) e = elim (nearest_of ps from None p e) [
  | inl s ↦ absurd (cc)
  | inr s ↦ (
    s.0,
    s.1,
    λ q l m. none_unless (find_page ps q) (λ d h.
        let n = nearest_least ps from None q d l h in let k : Some n.0 ≡ Some p = sym n.1 ∙ e in
        let same : n.0 ≡ p = cc in let le = n.2 in omega (arith, same, le)),
  )
]

nearest_past : (ps : List Page) (from : ℕ) (least : Option ℕ) (i : ℕ) → length ps ≤ i
    → nearest (drop i ps) from least ≡ least
nearest_past [] from least zero l = refl
nearest_past [] from least (suc i) l = refl
nearest_past (p ∷ ps) from least zero l = absurd (omega arith)
nearest_past (p ∷ ps) from least (suc i) l = nearest_past ps from least i (omega arith)

-- at the end of the list the least so far is the next page
pub next_at_end : (ps : List Page) (from : ℕ) (least : Option ℕ) (i : ℕ) → length ps ≤ i
    → nearest (drop i ps) from least ≡ nearest ps from None
    → IsNextPage (list_rights ps) from least
next_at_end ps from least i l e = is_next ps from least (sym e ∙ nearest_past ps from least i l)
