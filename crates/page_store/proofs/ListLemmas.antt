-- Pages in a list: what stands at a place, and what edits of the list find.
use Rattle.std.proofs.Common.{◌≡◌, ℕ, zero, suc, ◌<◌, ◌≢◌, ◌^◌, List, [], ◌∷◌, ◌++◌, length, get_or}
use Rattle.std.proofs.Common.{set, cond, true, false, eqb, Some, None, Option, refl, sym, ap, ◌∙◌}
use Rattle.std.proofs.Common.{arith, inl, inr, eqb-true, ne_eqb}
use Rattle.std.proofs.lemmas.Bool.{cases_Bool, eqb-false}
use Rattle.std.proofs.lemmas.Bool.Decides.{nat_tests}
use Rattle.erim_defs.specs.declared.machine.Rights.{Rights}
use Rattle.page_store.specs.declared.page_list.Page.{Page}
use Rattle.page_store.specs.Listed.{find_page, is_listed, is_fresh, is_sound, rights_of}
use Rattle.erim_defs.specs.Machine.Pages.{IsSound}

-- the page at a place is the page of its number
pub find_page-at : (ps : List Page) (i : ℕ) (d : Page) → is_listed ps ≡ true → i < length ps
    → find_page ps (get_or ps i d).number ≡ Some (get_or ps i d)
find_page-at [] i d h l = absurd (omega arith)
find_page-at (p ∷ ps) zero d h l = grind (arith, nat_tests)
find_page-at (p ∷ ps) (suc i) d h l =
    let rest = find_page-at ps i d (grind arith) (omega arith) in
    elim (cases_Bool (eqb p.number (get_or ps i d).number)) [
      | inl e ↦ let same : p.number ≡ (get_or ps i d).number = eqb-true _ _ e in
          let none : find_page ps p.number ≡ None = grind arith in
          absurd (cc)
      | inr e ↦ rw e rest
    ]

-- a number that isn't listed isn't after a page is replaced by one of the same number
pub find_page_none-set : (ps : List Page) (i : ℕ) (new d : Page) (x : ℕ) → i < length ps
    → new.number ≡ (get_or ps i d).number
    → find_page ps x ≡ None → find_page (set ps i new) x ≡ None
find_page_none-set [] i new d x l e h = refl
find_page_none-set (p ∷ ps) zero new d x l e h =
    elim (cases_Bool (eqb p.number x)) [
      | inl t ↦ absurd (let k : Some p ≡ None = rw t at h in cc)
      | inr t ↦ (let k : eqb new.number x ≡ false = rw e t in rw k (rw t at h))
    ]
find_page_none-set (p ∷ ps) (suc i) new d x l e h =
    elim (cases_Bool (eqb p.number x)) [
      | inl t ↦ absurd (let k : Some p ≡ None = rw t at h in cc)
      | inr t ↦ rw t (find_page_none-set ps i new d x (omega arith) e (rw t at h))
    ]

pub find_page-set : (ps : List Page) (i : ℕ) (new d : Page) (x : ℕ) → is_listed ps ≡ true
    → i < length ps → new.number ≡ (get_or ps i d).number
    → find_page (set ps i new) x ≡ cond (eqb x new.number) (Some new) (find_page ps x)
find_page-set [] i new d x h l e = absurd (omega arith)
find_page-set (p ∷ ps) zero new d x h l e = grind (arith, nat_tests)
find_page-set (p ∷ ps) (suc i) new d x h l e =
    let rest = find_page-set ps i new d x (grind arith) (omega arith) e in
    let at = find_page-at ps i d (grind arith) (omega arith) in
    let none : find_page ps p.number ≡ None = grind arith in
    elim (cases_Bool (eqb p.number x)) [
      | inl t ↦ let same : p.number ≡ x = eqb-true _ _ t in
          let other : x ≢ new.number =
          λ q. (let k : None ≡ Some (get_or ps i d) = sym none
          ∙ ap (find_page ps) (same ∙ q ∙ e) ∙ at in cc) in
          rw (t, ne_eqb x new.number other) refl
      | inr t ↦ rw t rest
    ]

-- what is_fresh and is_listed ask, as parts
pub fresh-none : (p : Page) (ps : List Page) → is_fresh p ps ≡ true → find_page ps p.number ≡ None
fresh-none p ps h = grind arith

pub fresh-low : (p : Page) (ps : List Page) → is_fresh p ps ≡ true → p.number < 2 ^ 35
fresh-low p ps h = grind (arith, nat_tests)

pub fresh-key : (p : Page) (ps : List Page) → is_fresh p ps ≡ true → p.rights.key < 16
fresh-key p ps h = grind (arith, nat_tests)

pub fresh-size : (p : Page) (ps : List Page) → is_fresh p ps ≡ true → length p.bytes ≡ 4096
fresh-size p ps h = grind (arith, nat_tests)

pub fresh-sound : (p : Page) (ps : List Page) → is_fresh p ps ≡ true → is_sound p.rights ≡ true
fresh-sound p ps h = grind (arith, nat_tests)

-- the same in facts
pub sound_is : (r : Rights) → IsSound r → is_sound r ≡ true
sound_is r h = grind (arith, nat_tests)

pub is_fresh-by : (p : Page) (ps : List Page) → find_page ps p.number ≡ None → p.number < 2 ^ 35
    → is_sound p.rights ≡ true → length p.bytes ≡ 4096 → is_fresh p ps ≡ true
is_fresh-by p ps n l k b = grind (arith, nat_tests)

pub listed-size : (ps : List Page) (i : ℕ) (d : Page) → is_listed ps ≡ true → i < length ps
    → length (get_or ps i d).bytes ≡ 4096
listed-size [] i d h l = absurd (omega arith)
listed-size (p ∷ ps) zero d h l = fresh-size p ps (grind arith)
listed-size (p ∷ ps) (suc i) d h l = listed-size ps i d (grind arith) (omega arith)

pub listed-key : (ps : List Page) (i : ℕ) (d : Page) → is_listed ps ≡ true → i < length ps
    → (get_or ps i d).rights.key < 16
listed-key [] i d h l = absurd (omega arith)
listed-key (p ∷ ps) zero d h l = fresh-key p ps (grind arith)
listed-key (p ∷ ps) (suc i) d h l = listed-key ps i d (grind arith) (omega arith)

pub listed-sound : (ps : List Page) (i : ℕ) (d : Page) → is_listed ps ≡ true → i < length ps
    → is_sound (get_or ps i d).rights ≡ true
listed-sound [] i d h l = absurd (omega arith)
listed-sound (p ∷ ps) zero d h l = fresh-sound p ps (grind arith)
listed-sound (p ∷ ps) (suc i) d h l = listed-sound ps i d (grind arith) (omega arith)

pub is_listed-set : (ps : List Page) (i : ℕ) (new d : Page) → is_listed ps ≡ true → i < length ps
    → new.number ≡ (get_or ps i d).number → is_sound new.rights ≡ true → length new.bytes ≡ 4096
    → is_listed (set ps i new) ≡ true
is_listed-set [] i new d h l e k b = absurd (omega arith)
is_listed-set (p ∷ ps) zero new d h l e k b =
    let f : is_fresh p ps ≡ true = grind arith in
    let r : is_listed ps ≡ true = grind arith in
    let fresh : is_fresh new ps ≡ true =
    is_fresh-by new ps (rw e (fresh-none p ps f)) (rw e (fresh-low p ps f)) k b in
    rw (fresh, r) refl
is_listed-set (p ∷ ps) (suc i) new d h l e k b =
    let f : is_fresh p ps ≡ true = grind arith in
    let r : is_listed (set ps i new) ≡ true =
    is_listed-set ps i new d (grind arith) (omega arith) e k b in
    let fresh : is_fresh p (set ps i new) ≡ true =
    is_fresh-by p (set ps i new) (find_page_none-set ps i new d p.number (omega arith) e
    (fresh-none p ps f)) (fresh-low p ps f) (fresh-sound p ps f) (fresh-size p ps f) in
    rw (fresh, r) refl

pub find_page-push : (ps : List Page) (new : Page) (x : ℕ) → find_page ps new.number ≡ None
    → find_page (ps ++ new ∷ []) x ≡ cond (eqb x new.number) (Some new) (find_page ps x)
find_page-push [] new x h = grind (arith, nat_tests)
find_page-push (p ∷ ps) new x h =
    elim (cases_Bool (eqb p.number new.number)) [
      | inl t ↦ absurd (let k : Some p ≡ None = rw t at h in cc)
      | inr t ↦ (let rest = find_page-push ps new x (rw t at h) in
          elim (cases_Bool (eqb p.number x)) [
            | inl u ↦ (let same : p.number ≡ x = eqb-true _ _ u in rw (u, ← same, t) refl)
            | inr u ↦ rw u rest
          ])
    ]

pub find_page_none-push : (ps : List Page) (new : Page) (x : ℕ) → find_page ps x ≡ None
    → x ≢ new.number → find_page (ps ++ new ∷ []) x ≡ None
find_page_none-push [] new x h n = grind (arith, nat_tests)
find_page_none-push (p ∷ ps) new x h n =
    elim (cases_Bool (eqb p.number x)) [
      | inl t ↦ absurd (let k : Some p ≡ None = rw t at h in cc)
      | inr t ↦ rw t (find_page_none-push ps new x (rw t at h) n)
    ]

pub is_listed-push : (ps : List Page) (new : Page) → is_listed ps ≡ true → is_fresh new ps ≡ true
    → is_listed (ps ++ new ∷ []) ≡ true
is_listed-push [] new h f =
    rw (is_fresh-by new [] refl (fresh-low new [] f) (fresh-sound new [] f) (fresh-size new [] f))
    refl
is_listed-push (p ∷ ps) new h f =
    let g : is_fresh p ps ≡ true = grind arith in
    let none : find_page (p ∷ ps) new.number ≡ None = fresh-none new (p ∷ ps) f in
    elim (cases_Bool (eqb p.number new.number)) [
      | inl t ↦ absurd (let k : Some p ≡ None = rw t at none in cc)
      | inr t ↦ (
          let r : is_listed (ps ++ new ∷ []) ≡ true =
          is_listed-push ps new (grind arith)
          (is_fresh-by new ps (rw t at none) (fresh-low new (p ∷ ps) f)
          (fresh-sound new (p ∷ ps) f) (fresh-size new (p ∷ ps) f)) in
          let fresh : is_fresh p (ps ++ new ∷ []) ≡ true =
          is_fresh-by p (ps ++ new
          ∷ []) (find_page_none-push ps new p.number (fresh-none p ps g)
          (eqb-false _ _ t)) (fresh-low p ps g) (fresh-sound p ps g) (fresh-size p ps g) in
          rw (fresh, r) refl)
    ]

pub none_from_rights : (x : Option Page) → rights_of x ≡ None → x ≡ None
none_from_rights None h = refl
none_from_rights (Some p) h = absurd (cc)
