-- What edits of the list do to rights, bytes and the count of mapped pages.
use Rattle.std.proofs.lemmas.List.{get_or-replicate, length-replicate, get_or_past}
use Rattle.std.proofs.Common.{Result, Ok, Err, IsOk, is_ok, replicate, ◌*◌, ltb, ltb-true}
use Rattle.std.proofs.Common.{ltb-false, ◌≤◌, ◌≡◌, ◌<◌, ◌+◌, ◌/◌, ◌%◌, ℕ, List, [], ◌∷◌, ◌++◌}
use Rattle.std.proofs.Common.{length, get_or, true, false, cond, eqb, Some, None, Option, refl, sym}
use Rattle.std.proofs.Common.{ap, ◌∙◌, arith, inl, inr, eqb-true, ne_eqb, eq-eqb}
use Rattle.std.specs.List.{swap_remove}
use Rattle.std.proofs.lemmas.Bool.{cases_Bool, eqb-false}
use Rattle.std.proofs.Math.Path.{fun_ext}
use Rattle.erim_defs.specs.Machine.Pages.{with_value_at, with_zero_page}
use Rattle.erim_defs.specs.Machine.Count.{mapped_pages}
use Rattle.erim_defs.proofs.CountLemmas.{mapped_put, mapped_none}
use Rattle.page_store.specs.declared.page_list.Page.{Page}
use Rattle.page_store.specs.Listed.{find_page, is_listed, is_fresh, list_rights, list_bytes}
use Rattle.page_store.specs.Listed.{rights_of, byte_of}
use Rattle.page_store.proofs.ListLemmas.{fresh-none, fresh-low, find_page-push}
use Rattle.page_store.proofs.SwapLemmas.{find_page-swap}
use Rattle.page_store.proofs.MapLemmas.{rights_of-cond}

pub list_rights-cons : (p : Page) (ps : List Page)
    → list_rights (p ∷ ps) ≡ with_value_at (list_rights ps) p.number (Some p.rights)
list_rights-cons p ps = fun_ext (λ x. elim (cases_Bool (eqb p.number x)) [
  | inl t ↦ rw (t, eq-eqb x p.number (sym (eqb-true _ _ t))) refl
  | inr t ↦ rw (t, ne_eqb x p.number (λ q. eqb-false _ _ t (sym q))) refl
])

pub list_mapped : (ps : List Page) → is_listed ps ≡ true → mapped_pages (list_rights ps) ≡ length ps
list_mapped [] h = mapped_none
list_mapped (p ∷ ps) h =
    let f : is_fresh p ps ≡ true = grind arith in
    let rest = list_mapped ps (grind arith) in
    let none : list_rights ps p.number ≡ None = ap rights_of (fresh-none p ps f) in
    let e = mapped_put (list_rights ps) p.number (Some p.rights) (fresh-low p ps f) in
    let e2 : mapped_pages (with_value_at (list_rights ps) p.number (Some p.rights)) + 0
    ≡ mapped_pages (list_rights ps) + 1 = rw none at e in
    rw list_rights-cons (omega (arith, e2, rest))

pub list_rights-push : (ps : List Page) (new : Page) → find_page ps new.number ≡ None
    → list_rights (ps ++ new ∷ []) ≡ with_value_at (list_rights ps) new.number (Some new.rights)
list_rights-push ps new h =
    fun_ext (λ x. ap rights_of (find_page-push ps new x h)
    ∙ rights_of-cond (eqb x new.number) new (find_page ps x))

pub byte_of-cond : (b : _) (new : Page) (old : Option Page) (i : ℕ) → get_or new.bytes i 0 ≡ 0
    → (b ≡ true → old ≡ None) → byte_of (cond b (Some new) old) i ≡ byte_of old i
byte_of-cond true new old i h o = h ∙ sym (ap (λ p. byte_of p i) (o refl))
byte_of-cond false new old i h o = refl

-- a page of zeros at the end
pub list_bytes-push : (ps : List Page) (new : Page) → find_page ps new.number ≡ None
    → ((i : ℕ) → get_or new.bytes i 0 ≡ 0) → list_bytes (ps ++ new ∷ []) ≡ list_bytes ps
list_bytes-push ps new h z =
    fun_ext (λ x. ap (λ p. byte_of p (x % 4096)) (find_page-push ps new (x / 4096) h)
    ∙ byte_of-cond (eqb (x / 4096) new.number) new (find_page ps (x / 4096)) (x % 4096)
    (z (x % 4096)) (λ t. ap (find_page ps) (eqb-true _ _ t) ∙ h))

pub rights_of-none : (b : _) (old : Option Page)
    → rights_of (cond b None old) ≡ cond b None (rights_of old)
rights_of-none true old = refl
rights_of-none false old = refl

pub byte_of-none : (b : _) (old : Option Page) (i : ℕ)
    → byte_of (cond b None old) i ≡ cond b 0 (byte_of old i)
byte_of-none true old i = refl
byte_of-none false old i = refl

pub list_rights-swap : (ps : List Page) (i : ℕ) (d : Page) → is_listed ps ≡ true → i < length ps
    → list_rights (swap_remove ps i d) ≡ with_value_at (list_rights ps) (get_or ps i d).number None
list_rights-swap ps i d h l =
    fun_ext (λ x. ap rights_of (find_page-swap ps i d x h l)
    ∙ rights_of-none (eqb x (get_or ps i d).number) (find_page ps x))

pub list_bytes-swap : (ps : List Page) (i : ℕ) (d : Page) → is_listed ps ≡ true → i < length ps
    → list_bytes (swap_remove ps i d) ≡ with_zero_page (list_bytes ps) (get_or ps i d).number
list_bytes-swap ps i d h l =
    fun_ext (λ x. ap (λ p. byte_of p (x % 4096)) (find_page-swap ps i d (x / 4096) h l)
    ∙ byte_of-none (eqb (x / 4096) (get_or ps i d).number) (find_page ps (x / 4096)) (x % 4096))

-- a push with room to spare
pub push_items : {T E : Type 0} (r : Result T E) (ps xs : List Page) (new : Page) → IsOk r
    → xs ≡ cond (is_ok r) (ps ++ new ∷ []) ps → xs ≡ ps ++ new ∷ []
push_items (Ok x) ps xs new h e = e
push_items (Err x) ps xs new h e = cc

pub zero_page : (i : ℕ) → get_or {A = ℕ} (replicate 4096 0) i 0 ≡ 0
zero_page i = elim (cases_Bool (ltb i 4096)) [
  | inl t ↦ get_or-replicate 4096 i 0 0 (ltb-true _ _ t)
  | inr f ↦ get_or_past (replicate 4096 0) i 0 (let l : 4096 ≤ i = ltb-false _ _ f in
      omega (arith, length-replicate {A = ℕ} 4096 0))
]

pub list_bytes-fresh : (ps : List Page) (q : ℕ) → find_page ps q ≡ None
    → with_zero_page (list_bytes ps) q ≡ list_bytes ps
list_bytes-fresh ps q h = fun_ext (λ a. elim (cases_Bool (eqb (a / 4096) q)) [
  | inl t ↦ (let same : a / 4096 ≡ q = eqb-true _ _ t in
      rw t (sym (ap (λ y. byte_of (find_page ps y) (a % 4096)) same
      ∙ ap (λ o. byte_of o (a % 4096)) h)))
  | inr f ↦ rw f refl
])

pub copied_zero : (ps : List Page) (q i : ℕ) → find_page ps q ≡ None → i < 4096
    → get_or {A = ℕ} (replicate 4096 0) i 0 ≡ list_bytes ps (4096 * q + i)
copied_zero ps q i h l =
    let at : (4096 * q + i) / 4096 ≡ q = omega arith in
    zero_page i ∙ sym (ap (λ y. byte_of (find_page ps y) ((4096 * q + i) % 4096)) at ∙ ap (λ o.
    byte_of o ((4096 * q + i) % 4096)) h)
