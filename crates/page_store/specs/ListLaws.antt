-- What always holds of pages in a list.
use Rattle.std.proofs.Common.{◌≡◌, ◌<◌, ◌≤◌, ◌^◌, ◌/◌, ◌%◌, ℕ, Some, Option, List, [], ◌∷◌, true}
use Rattle.std.proofs.Common.{eqb, None, refl, arith, inl, inr, eqb-true}
use Rattle.std.proofs.lemmas.Bool.{cases_Bool, cases_lt}
use Rattle.std.proofs.lemmas.Bool.Decides.{nat_tests}
use Rattle.erim_defs.specs.declared.machine.Rights.{Rights}
use Rattle.page_store.specs.declared.page_list.Page.{Page}
use Rattle.page_store.specs.Listed.{is_listed, is_fresh, list_rights, list_bytes, find_page}
use Rattle.page_store.specs.Listed.{rights_of, byte_of}
use Rattle.erim_defs.specs.Machine.Pages.{IsSound}

fresh-low : (p : Page) (ps : List Page) → is_fresh p ps ≡ true → p.number < 2 ^ 35
fresh-low p ps h = grind (arith, nat_tests)

fresh-key : (p : Page) (ps : List Page) → is_fresh p ps ≡ true → p.rights.key < 16
fresh-key p ps h = grind (arith, nat_tests)

fresh-asked : (p : Page) (ps : List Page) → is_fresh p ps ≡ true → p.rights.asked < 8
fresh-asked p ps h = grind (arith, nat_tests)

-- mapped pages are below 2^35
pub list_rights_high : (ps : List Page) (q : ℕ) → is_listed ps ≡ true → 2 ^ 35 ≤ q
    → list_rights ps q ≡ None
list_rights_high [] q h l = refl
list_rights_high (p ∷ ps) q h l = elim (cases_Bool (eqb p.number q)) [
  | inl t ↦ absurd (let same : p.number ≡ q = eqb-true _ _ t in
      let low : p.number < 2 ^ 35 = fresh-low p ps (grind arith) in omega arith)
  | inr t ↦ rw t (list_rights_high ps q (grind arith) l)
]

-- a page with rights is below 2^35
pub list_low : (ps : List Page) (q : ℕ) (r : Rights) → is_listed ps ≡ true
    → list_rights ps q ≡ Some r → q < 2 ^ 35
list_low ps q r h e = elim (cases_lt q (2 ^ 35)) [
  | inl l ↦ l
  | inr l ↦ absurd (let k = list_rights_high ps q h l in cc)
]

none_zero : (o : Option Page) (i : ℕ) → rights_of o ≡ None → byte_of o i ≡ 0
none_zero None i h = refl
none_zero (Some p) i h = absurd (cc)

-- bytes are 0 where no page is mapped
pub list_zeros : (ps : List Page) (a : ℕ) → list_rights ps (a / 4096) ≡ None → list_bytes ps a ≡ 0
list_zeros ps a h = none_zero (find_page ps (a / 4096)) (a % 4096) h

-- rights are sound
pub list_sound : (ps : List Page) (q : ℕ) (r : Rights) → is_listed ps ≡ true
    → list_rights ps q ≡ Some r → IsSound r
list_sound [] q r h e = absurd (cc)
list_sound (p ∷ ps) q r h e = elim (cases_Bool (eqb p.number q)) [
  | inl t ↦ (let k : Some p.rights ≡ Some r = rw t at e in let same : p.rights ≡ r = cc in
      let f : is_fresh p ps ≡ true = grind arith in
      rw (← same) (fresh-key p ps f, fresh-asked p ps f))
  | inr t ↦ list_sound ps q r (grind arith) (rw t at e)
]
