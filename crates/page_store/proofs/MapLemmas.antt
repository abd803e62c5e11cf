-- Rights and bytes by page and address: how changes of one page change them, and accesses byte by
-- byte.
use Rattle.std.proofs.Common.{append_assoc, append-nil, ltb-false, Result, Ok, Err, ◌⊎◌, ◌≡◌, ℕ}
use Rattle.std.proofs.Common.{zero, suc, ltb, ltb-true, ◌*◌, ◌+◌, ◌-◌, ◌<◌, ◌≢◌, ◌^◌, ◌/◌, ◌%◌}
use Rattle.std.proofs.Common.{List, [], ◌∷◌, ◌++◌, length, get_or, set, cond, Bool, true, false}
use Rattle.std.proofs.Common.{eqb, Some, None, Option, refl, sym, ap, ◌∙◌, arith, inl, inr}
use Rattle.std.proofs.Common.{eqb-true, ne_eqb, get_or-set_same, get_or-set_other, pow-add}
use Rattle.std.proofs.Common.{pow_mono, ◌≤◌}
use Rattle.std.proofs.lemmas.Bool.{cases_Bool, eqb-false}
use Rattle.std.proofs.Math.Path.{fun_ext}
use Rattle.erim_defs.specs.declared.machine.Access.{Access}
use Rattle.erim_defs.specs.declared.machine.Access.TheVariants.{Fault}
use Rattle.erim_defs.specs.declared.machine.Cause.TheVariants.{Unmapped}
use Rattle.erim_defs.specs.Machine.Pages.{is_published, RightsMap, ByteMap, with_value_at, word}
use Rattle.erim_defs.specs.Machine.Pages.{with_number, published_code}
use Rattle.erim_defs.specs.Machine.Access.{Seen, whole, stop, stop_at, stop_by}
use Rattle.erim_defs.specs.Inspection.Code.{or_else}
use Rattle.erim_defs.specs.declared.machine.Rights.{Rights}
use Rattle.page_store.specs.Answers.{IsWidth, cons_ok, code_told, fetch_of, byte_at, HasBytes}
use Rattle.page_store.specs.declared.page_list.Page.{Page}
use Rattle.page_store.specs.Listed.{find_page, is_listed, list_rights, list_bytes, rights_of}
use Rattle.page_store.specs.Listed.{byte_of}
use Rattle.page_store.proofs.ListLemmas.{fresh-low, find_page-at, find_page-set}

pub rights_of-cond : (b : Bool) (new : Page) (old : Option Page)
    → rights_of (cond b (Some new) old) ≡ cond b (Some new.rights) (rights_of old)
rights_of-cond true new old = refl
rights_of-cond false new old = refl

pub list_rights-set : (ps : List Page) (i : ℕ) (new d : Page) → is_listed ps ≡ true → i < length ps
    → new.number ≡ (get_or ps i d).number
    → list_rights (set ps i new) ≡ with_value_at (list_rights ps) new.number (Some new.rights)
list_rights-set ps i new d h l e =
    fun_ext (λ x. ap rights_of (find_page-set ps i new d x h l e)
    ∙ rights_of-cond (eqb x new.number) new (find_page ps x))

pub list_rights-kept : (ps : List Page) (i : ℕ) (new d : Page) → is_listed ps ≡ true → i < length ps
    → new.number ≡ (get_or ps i d).number → new.rights ≡ (get_or ps i d).rights
    → list_rights (set ps i new) ≡ list_rights ps
list_rights-kept ps i new d h l e r = list_rights-set ps i new d h l e ∙ fun_ext (λ x.
    elim (cases_Bool (eqb x new.number)) [
      | inl t ↦ (let same : x ≡ (get_or ps i d).number = eqb-true _ _ t ∙ e in
          rw t (ap Some r ∙ sym (ap (λ q. rights_of (find_page ps q)) same
          ∙ ap rights_of (find_page-at ps i d h l))))
      | inr t ↦ rw t refl
    ])

pub list_bytes-kept : (ps : List Page) (i : ℕ) (new d : Page) → is_listed ps ≡ true → i < length ps
    → new.number ≡ (get_or ps i d).number → new.bytes ≡ (get_or ps i d).bytes
    → list_bytes (set ps i new) ≡ list_bytes ps
list_bytes-kept ps i new d h l e r =
    fun_ext (λ x. ap (λ p. byte_of p (x % 4096)) (find_page-set ps i new d (x / 4096) h l e) ∙
    elim (cases_Bool (eqb (x / 4096) new.number)) [
      | inl t ↦ (let same : x / 4096 ≡ (get_or ps i d).number = eqb-true _ _ t ∙ e in
          rw t (ap (λ b. get_or b (x % 4096) 0) r
          ∙ sym (ap (λ q. byte_of (find_page ps q) (x % 4096)) same
          ∙ ap (λ p. byte_of p (x % 4096)) (find_page-at ps i d h l))))
      | inr t ↦ rw t refl
    ])

-- a byte written
pub list_bytes-put : (ps : List Page) (i : ℕ) (new d : Page) (a v : ℕ) → is_listed ps ≡ true
    → i < length ps → new.number ≡ (get_or ps i d).number
    → a / 4096 ≡ new.number → length (get_or ps i d).bytes ≡ 4096
    → new.bytes ≡ set (get_or ps i d).bytes (a % 4096) v
    → list_bytes (set ps i new) ≡ with_value_at (list_bytes ps) a v
list_bytes-put ps i new d a v h l e at n r =
    fun_ext (λ x. ap (λ p. byte_of p (x % 4096)) (find_page-set ps i new d (x / 4096) h l e) ∙
    elim (cases_Bool (eqb (x / 4096) new.number)) [
      | inl t ↦ (let same : x / 4096 ≡ new.number = eqb-true _ _ t in
          let here : byte_of (find_page ps (x / 4096)) (x % 4096)
          ≡ get_or (get_or ps i d).bytes (x % 4096) 0
          = ap (λ q. byte_of (find_page ps q) (x % 4096)) (same ∙ e)
          ∙ ap (λ p. byte_of p (x % 4096)) (find_page-at ps i d h l) in
          elim (cases_Bool (eqb x a)) [
            | inl u ↦ (let lt : a % 4096 < length (get_or ps i d).bytes = omega arith in
                let xa : x ≡ a = eqb-true _ _ u in
                rw (t, u, r, xa) (get_or-set_same (get_or ps i d).bytes (a % 4096) v 0 lt))
            | inr u ↦ (let ne : x % 4096 ≢ a % 4096 = (let w : x ≢ a = eqb-false _ _ u in
                omega (arith, w)) in
                rw (t, u, r, here) (get_or-set_other (get_or ps i d).bytes (a % 4096) (x % 4096) v 0
                ne))
          ])
      | inr t ↦ (let ne : x ≢ a = λ q. eqb-false _ _ t (ap (λ y. y / 4096) q ∙ at) in
          rw (t, ne_eqb x a ne) refl)
    ])

-- one byte of an access
pub stop_more : (seen : Seen) (write : Bool) (pkru a n : ℕ) → 0 < n
    → stop seen write pkru a n
    ≡ or_else (stop_at seen write pkru a) (stop seen write pkru (a + 1) (n - 1))
unfolding stop
stop_more seen write pkru a zero l = absurd (omega arith)
stop_more seen write pkru a (suc n) l = let e : suc n - 1 ≡ n = omega arith in
    let f : a + 1 ≡ suc a = omega arith in rw (e, f) refl

pub stop_none : (seen : Seen) (write : Bool) (pkru a n : ℕ) → n ≡ 0
    → stop seen write pkru a n ≡ None
unfolding stop
stop_none seen write pkru a n e = rw e refl

pub find_page_number : (ps : List Page) (q : ℕ) (p : Page) → find_page ps q ≡ Some p → p.number ≡ q
find_page_number [] q p h = cc
find_page_number (r ∷ ps) q p h =
    elim (cases_Bool (eqb r.number q)) [
      | inl t ↦ (let k : Some r ≡ Some p = rw t at h in let same : r ≡ p = cc in
          sym (ap (λ (x : Page). x.number) same) ∙ eqb-true _ _ t)
      | inr t ↦ find_page_number ps q p (rw t at h)
    ]

-- one byte of a word, from the top, and of a store
pub word_none : (b : ByteMap) (a n : ℕ) → n ≡ 0 → word b a n ≡ 0
unfolding word
word_none b a n e = rw e refl

pub word_more : (b : ByteMap) (a n : ℕ) → 0 < n → word b a n ≡ b a + 256 * word b (a + 1) (n - 1)
unfolding word
word_more b a zero l = absurd (omega arith)
word_more b a (suc n) l = let e : suc n - 1 ≡ n = omega arith in let f : a + 1 ≡ suc a =
    omega arith in rw (e, f) refl

pub stored_none : (b : ByteMap) (a n v : ℕ) → n ≡ 0 → with_number b a n v ≡ b
unfolding with_number
stored_none b a n v e = rw e refl

pub stored_more : (b : ByteMap) (a n v : ℕ) → 0 < n
    → with_number b a n v ≡ with_number (with_value_at b a (v % 256)) (a + 1) (n - 1) (v / 256)
unfolding with_number
stored_more b a zero v l = absurd (omega arith)
stored_more b a (suc n) v l = let e : suc n - 1 ≡ n = omega arith in let f : a + 1 ≡ suc a =
    omega arith in rw (e, f) refl

-- an access that doesn't stop is to mapped pages
pub stop_mapped : (ps : List Page) (write : Bool) (pkru a : ℕ)
    → stop_at (whole (list_rights ps)) write pkru a ≡ None
    → (a < 2 ^ 47) × (list_rights ps (a / 4096) ≢ None)
stop_mapped ps write pkru a h = elim (cases_Bool (ltb a (2 ^ 47))) [
  | inl t ↦ (
    ltb-true _ _ t,
    λ n. (let k : stop_by (Some (list_rights ps (a / 4096))) write pkru a ≡ None = rw t at h in
        let j : Some (Fault Unmapped a) ≡ None = rw n at k in cc),
  )
  | inr f ↦ absurd (let k : Some (Fault Unmapped a) ≡ None = rw f at h in cc)
]

pub word_step : (b : ByteMap) (a n done v x : ℕ) → done < n → v ≡ word b (a + (n - done)) done
    → x ≡ b (a + (n - (done + 1)))
    → 256 * v + x ≡ word b (a + (n - (done + 1))) (done + 1)
word_step b a n done v x l e f =
    let at : a + (n - (done + 1)) + 1 ≡ a + (n - done) = omega arith in
    let less : done + 1 - 1 ≡ done = omega arith in
    let more : word b (a + (n - (done + 1))) (done + 1)
    ≡ b (a + (n - (done + 1))) + 256 * word b (a + (n - done)) done =
    word_more b (a + (n - (done + 1))) (done + 1) (omega arith)
    ∙ ap (λ y. b (a + (n - (done + 1))) + 256 * word b y (done + 1 - 1)) at ∙ ap (λ y. b
    (a + (n - (done + 1))) + 256 * word b (a + (n - done)) y) less in
    omega (arith, more, e, f)

-- one more byte below those of a number
pub bytes_step : (b : ByteMap) (a n done v x : ℕ) → done < n → HasBytes b (a + (n - done)) done v
    → x < 256 → x ≡ b (a + (n - (done + 1)))
    → HasBytes b (a + (n - (done + 1))) (done + 1) (256 * v + x)
unfolding byte_at
bytes_step b a n done v x l h k f zero m =
    let at : a + (n - (done + 1)) + 0 ≡ a + (n - (done + 1)) = omega arith in
    let low : (256 * v + x) % 256 ≡ x = omega arith in
    ap b at ∙ sym f ∙ sym low
bytes_step b a n done v x l h k f (suc i) m =
    let at : a + (n - (done + 1)) + suc i ≡ a + (n - done) + i = omega arith in
    let high : (256 * v + x) / 256 ≡ v = omega arith in
    ap b at ∙ h i (omega arith) ∙ sym (ap (λ y. byte_at y i) high)

pub power_step : (d v x : ℕ) → v < 2 ^ (8 * d) → x < 256 → 256 * v + x < 2 ^ (8 * (d + 1))
power_step d v x h k =
    let e : 2 ^ (8 * (d + 1)) ≡ 2 ^ (8 * d) * 256 =
    (let s : 8 * (d + 1) ≡ 8 * d + 8 = omega arith in ap (λ y. 2 ^ y) s
    ∙ pow-add 2 (8 * d) 8) in
    omega (arith, e)

pub power_fits : (d n v x : ℕ) → d < n → n ≤ 8 → v < 2 ^ (8 * d) → x < 256 → 256 * v + x < 2 ^ 64
power_fits d n v x l m h k =
    let e : 2 ^ (8 * d) ≤ 2 ^ 56 = (let m : 8 * d ≤ 56 = omega arith in pow_mono m) in
    omega (arith, e)

pub stop_or_none : (x y : Option Access) → or_else x y ≡ None → (x ≡ None) × (y ≡ None)
stop_or_none None y h = (refl, h)
stop_or_none (Some a) y h = absurd (cc)

pub stop_all : (ps : List Page) (write : Bool) (pkru a n : ℕ)
    → stop (whole (list_rights ps)) write pkru a n ≡ None
    → (k : ℕ) → k < n → (a + k < 2 ^ 47) × (list_rights ps ((a + k) / 4096) ≢ None)
unfolding stop
stop_all ps write pkru a zero h k l = absurd (omega arith)
stop_all ps write pkru a (suc n) h zero l =
    let e : a + 0 ≡ a = omega arith in
    rw e (stop_mapped ps write pkru a (stop_or_none (stop_at (whole (list_rights ps)) write pkru a)
    (stop (whole (list_rights ps)) write pkru (suc a) n) h).0)
stop_all ps write pkru a (suc n) h (suc k) l =
    let e : a + suc k ≡ suc a + k = omega arith in
    rw e (stop_all ps write pkru (suc a) n
    (stop_or_none (stop_at (whole (list_rights ps)) write pkru a)
    (stop (whole (list_rights ps)) write pkru (suc a) n) h).1 k (omega arith))

pub width_bounds : (n : ℕ) → IsWidth n → (0 < n) × (n ≤ 8)
width_bounds n h = grind arith

-- fetching
abbrev pub ok_append : List ℕ → Result (List ℕ) ℕ → Result (List ℕ) ℕ
ok_append xs (Ok ys) = Ok (xs ++ ys)
ok_append xs (Err q) = Err q

pub ok_append_cons : (xs : List ℕ) (x : ℕ) (r : Result (List ℕ) ℕ)
    → ok_append xs (cons_ok x r) ≡ ok_append (xs ++ x ∷ []) r
ok_append_cons xs x (Ok ys) = ap Ok (sym (append_assoc xs (x ∷ []) ys))
ok_append_cons xs x (Err q) = refl

pub ok_append_nil : (r : Result (List ℕ) ℕ) → ok_append [] r ≡ r
ok_append_nil (Ok ys) = refl
ok_append_nil (Err q) = refl

pub code_told_published : (r : Option Rights) (q x : ℕ) (rest : Result (List ℕ) ℕ)
    → is_published r ≡ true → code_told (Some r) q x rest ≡ cons_ok x rest
code_told_published None q x rest h = cc
code_told_published (Some r) q x rest h = rw h refl

pub code_told_other : (r : Option Rights) (q x : ℕ) (rest : Result (List ℕ) ℕ)
    → is_published r ≡ false → code_told (Some r) q x rest ≡ Ok []
code_told_other None q x rest h = refl
code_told_other (Some r) q x rest h = rw h refl

pub fetch_more : (rights : RightsMap) (b : ByteMap) (a n : ℕ) → 0 < n
    → fetch_of (whole rights) b a n
    ≡ code_told (Some (rights (a / 4096))) (a / 4096) (b a)
    (fetch_of (whole rights) b (a + 1) (n - 1))
unfolding fetch_of
fetch_more rights b a zero l = absurd (omega arith)
fetch_more rights b a (suc n) l = let e : suc n - 1 ≡ n = omega arith in let f : a + 1 ≡ suc a =
    omega arith in rw (e, f) refl

pub fetch_none : (seen : Seen) (b : ByteMap) (a n : ℕ) → n ≡ 0 → fetch_of seen b a n ≡ Ok []
unfolding fetch_of
fetch_none seen b a n e = rw e refl

pub fetch_step : (rights : RightsMap) (b : ByteMap) (a i n : ℕ) (xs ys : List ℕ) (x : ℕ)
    (all : Result (List ℕ) ℕ) → i < n
    → all ≡ ok_append xs (fetch_of (whole rights) b (a + i) (n - i))
    → is_published (rights ((a + i) / 4096)) ≡ true → x ≡ b (a + i) → ys ≡ xs ++ x ∷ []
    → all ≡ ok_append ys (fetch_of (whole rights) b (a + (i + 1)) (n - (i + 1)))
fetch_step rights b a i n xs ys x all l h p e f =
    let at : a + i + 1 ≡ a + (i + 1) = omega arith in
    let less : n - i - 1 ≡ n - (i + 1) = omega arith in
    h ∙ ap (ok_append xs) (fetch_more rights b (a + i) (n - i) (omega arith)
    ∙ code_told_published (rights ((a + i) / 4096)) ((a + i) / 4096) (b (a + i)) _ p)
    ∙ ok_append_cons xs (b (a + i)) (fetch_of (whole rights) b (a + i + 1) (n - i - 1))
    ∙ rw (at, less, f, e) refl

pub fetch_end : (rights : RightsMap) (b : ByteMap) (a i n : ℕ) (xs : List ℕ)
    (all : Result (List ℕ) ℕ)
    → all ≡ ok_append xs (fetch_of (whole rights) b (a + i) (n - i))
    → (n ≤ i) ⊎ (is_published (rights ((a + i) / 4096)) ≡ false) → all ≡ Ok xs
fetch_end rights b a i n xs all h (inl l) =
    h ∙ ap (ok_append xs) (fetch_none (whole rights) b (a + i) (n - i) (omega arith))
    ∙ ap Ok (append-nil xs)
fetch_end rights b a i n xs all h (inr p) =
    elim (cases_Bool (ltb i n)) [
      | inl t ↦ (let l : i < n = ltb-true _ _ t in
          h ∙ ap (ok_append xs) (fetch_more rights b (a + i) (n - i) (omega arith)
          ∙ code_told_other (rights ((a + i) / 4096)) ((a + i) / 4096) (b (a + i)) _
          p) ∙ ap Ok (append-nil xs))
      | inr f ↦ (let l : n ≤ i = ltb-false _ _ f in
          h ∙ ap (ok_append xs) (fetch_none (whole rights) b (a + i) (n - i) (omega arith))
          ∙ ap Ok (append-nil xs))
    ]

-- what a published byte is, and what it says where there is none
pub published_some : (rights : RightsMap) (b : ByteMap) (a x : ℕ)
    → published_code rights b a ≡ Some x → (is_published (rights (a / 4096)) ≡ true) × (x ≡ b a)
published_some rights b a x h = elim (cases_Bool (is_published (rights (a / 4096)))) [
  | inl t ↦ (let e : Some (b a) ≡ Some x = rw t at h in (t, cc))
  | inr f ↦ (let e : None ≡ Some x = rw f at h in absurd cc)
]

pub published_none : (rights : RightsMap) (b : ByteMap) (a : ℕ)
    → published_code rights b a ≡ None → is_published (rights (a / 4096)) ≡ false
published_none rights b a h = elim (cases_Bool (is_published (rights (a / 4096)))) [
  | inl t ↦ (let e : Some (b a) ≡ None = rw t at h in absurd cc)
  | inr f ↦ f
]

pub find_page_low : (ps : List Page) (q : ℕ) → is_listed ps ≡ true → list_rights ps q ≢ None
    → q < 2 ^ 35
find_page_low [] q h n = absurd (n refl)
find_page_low (p ∷ ps) q h n = elim (cases_Bool (eqb p.number q)) [
  | inl t ↦ (let same : p.number ≡ q = eqb-true _ _ t in
      let low : p.number < 2 ^ 35 = fresh-low p ps (grind arith) in omega arith)
  | inr t ↦ find_page_low ps q (grind arith) (rw t at n)
]

pub not_published_high : (ps : List Page) (q : ℕ) → is_listed ps ≡ true → 2 ^ 35 ≤ q
    → is_published (list_rights ps q) ≡ false
not_published_high [] q h l = refl
not_published_high (p ∷ ps) q h l = elim (cases_Bool (eqb p.number q)) [
  | inl t ↦ absurd (let same : p.number ≡ q = eqb-true _ _ t in
      let low : p.number < 2 ^ 35 = fresh-low p ps (grind arith) in omega arith)
  | inr t ↦ rw t (not_published_high ps q (grind arith) l)
]
