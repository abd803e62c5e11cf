-- The calls on pages and keys: what an answer of each says, and that each is fine.
use Rattle.std.proofs.Common.{◌≡◌, ◌≢◌, ◌<◌, ◌≤◌, ◌+◌, ◌-◌, ◌*◌, ◌/◌, ◌%◌, ◌^◌, ◌⊎◌, ℕ}
use Rattle.std.proofs.Common.{Option, Some, None, Bool, true, false, cond, eqb, ltb, not, ◌&&◌}
use Rattle.std.proofs.Common.{◌||◌, is_some, refl, sym, ap, subst, ◌∙◌, arith, inl, inr, ne_eqb}
use Rattle.std.proofs.Common.{lit<, ltb-true, ltb-false, leb-true}
use Rattle.std.proofs.lemmas.Bool.{cases_Bool, and_parts, and_right, or_parts, or_right}
use Rattle.std.proofs.lemmas.Bool.{not-true, not-false}
use Rattle.std.proofs.Math.Bool.{and-true}
use Rattle.std.specs.Prelude.{option_map}
use Rattle.erim_defs.specs.declared.machine.Rights.{Rights}
use Rattle.erim_defs.specs.declared.machine.Thread.{Thread}
use Rattle.erim_defs.specs.Inspection.Trust.{in_text_of, is_domain, TrustValue}
use Rattle.erim_defs.specs.Machine.Domains.{is_denied, opens_domain}
use Rattle.erim_defs.specs.Machine.MapCalls.{is_denied_page}
use Rattle.erim_defs.proofs.DomainLemmas.{rights_opened}
use Rattle.std.proofs.Common.{eqb-true, eq-eqb}
use Rattle.erim_defs.specs.Machine.Pages.{asks_exec, is_published}
use Rattle.erim_defs.specs.Machine.Pages.{published_code}
use Rattle.erim_defs.specs.Machine.Count.{last_page}
use Rattle.erim_defs.specs.Machine.State.{State, code, trust_of}
use Rattle.erim_defs.specs.Machine.Start.{unpublished_rights}
use Rattle.erim_defs.specs.Machine.CallResult.{Change, Answer, no_change}
use Rattle.erim_defs.specs.Machine.MapCalls.{PageRange, range_of, is_in, any_page}
use Rattle.erim_defs.specs.Machine.MapCalls.{has_key, is_protected, is_pinned}
use Rattle.erim_defs.specs.Machine.MapCalls.{with_pages, lowest_free, new_rights, mmap_from}
use Rattle.erim_defs.specs.Machine.MapCalls.{mmap_anywhere, mmap_at, mmap_result, munmap_result}
use Rattle.erim_defs.specs.Machine.MapCalls.{asked_anew, key_or, with_prot, is_foreign, is_taken}
use Rattle.erim_defs.specs.Machine.MapCalls.{is_denied_key, protect, mprotect_result}
use Rattle.erim_defs.specs.Machine.MapCalls.{pkey_mprotect_result, with_key_rights}
use Rattle.erim_defs.specs.Machine.MapCalls.{least_free_key, alloc_key, pkey_alloc_result}
use Rattle.erim_defs.specs.Machine.MapCalls.{pkey_free_result, has_pin}
use Rattle.erim_defs.specs.Machine.Isolation.{IsKept, IsRuled}
use Rattle.erim_defs.proofs.LeastLemmas.{any_below_false, least_holds}
use Rattle.isolation.proofs.ThreadLemmas.{origins_unpinned}
use Rattle.isolation.proofs.KeptLemmas.{IsFine, some_same, fresh_ruled, published_ruled}
use Rattle.isolation.proofs.AnswerLemmas.{refuse_answer, answer_is, row_answer, none_of, text_left}
use Rattle.isolation.proofs.AnswerLemmas.{LeavesPages, left_fine}

-- ---- ranges of pages

in_bounds : (r : PageRange) (q : ℕ) → is_in r q ≡ true → (r.first ≤ q) × (q < r.first + r.count)
in_bounds r q i = (leb-true _ _ (and_parts _ _ i).0, ltb-true _ _ (and_parts _ _ i).1)

-- a test that holds of no page of a range
no_page : (r : PageRange) (test : ℕ → Bool) (q : ℕ) → any_page r test ≡ false
    → is_in r q ≡ true → test q ≡ false
no_page r test q h i =
    let b = in_bounds r q i in
    let low : r.first ≤ q = b.0 in
    let high : q < r.first + r.count = b.1 in
    let k = any_below_false r.count (q - r.first) (λ k. test (r.first + k)) h
    (omega (arith, low, high)) in
    let e : r.first + (q - r.first) ≡ q = omega (arith, low) in
    subst (λ (p : ℕ). test p ≡ false) e k

-- what a range that isn't protected has: no trusted text, and of domains only pages of those that
-- the caller opens
pub record IsApart (s : State) (t : Thread) (r : PageRange) : Type 0 where
  pub text : (q : ℕ) → is_in r q ≡ true → in_text_of (trust_of s) (4096 * q) ≡ false
  pub keyed : (q domain : ℕ) → is_in r q ≡ true → is_domain (trust_of s) domain ≡ true
      → has_key (s.rights q) domain ≡ true → opens_domain (trust_of s) t.pkru domain ≡ true

-- a key that isn't denied is one that the caller opens, where it is a domain
pub not_denied : (trust : TrustValue) (pkru key domain : ℕ) → is_denied trust pkru key ≡ false
    → eqb key domain ≡ true → is_domain trust domain ≡ true
    → opens_domain trust pkru domain ≡ true
not_denied trust pkru key domain h e is =
    let same : key ≡ domain = eqb-true _ _ e in
    not-false (opens_domain trust pkru domain)
    (by (is_domain trust domain) (not (opens_domain trust pkru domain)) is
    (ap (is_denied trust pkru) (sym same) ∙ h))
  where
    by : (b c : Bool) → b ≡ true → (b && c) ≡ false → c ≡ false
    by true c e h = h
    by false c e h = absurd cc

keyed_by : (s : State) (t : Thread) (o : Option Rights) (domain : ℕ)
    → is_denied_page (trust_of s) t.pkru o ≡ false
    → is_domain (trust_of s) domain ≡ true → has_key o domain ≡ true
    → opens_domain (trust_of s) t.pkru domain ≡ true
keyed_by s t None domain h is e = absurd cc
keyed_by s t (Some r) domain h is e = not_denied (trust_of s) t.pkru r.key domain h e is

apart_by : (s : State) (t : Thread) (r : PageRange)
    → is_protected (trust_of s) s.rights t.pkru r ≡ false → IsApart s t r
apart_by s t r p = record {
  text = λ q i. no_page r (λ q. in_text_of (trust_of s) (4096 * q)) q (or_parts _ _ p).0 i;
  keyed = λ q domain i is k. keyed_by s t (s.rights q) domain
      (no_page r (λ q. is_denied_page (trust_of s) t.pkru (s.rights q)) q
      (or_parts _ _ p).1 i) is k;
}

-- trusted text is outside such a range
outside_text : (s : State) (t : Thread) (r : PageRange) (q : ℕ) → IsApart s t r
    → in_text_of (trust_of s) (4096 * q) ≡ true → is_in r q ≡ false
outside_text s t r q a y = elim (cases_Bool (is_in r q)) [
  | inr o ↦ o
  | inl i ↦ absurd (let z : false ≡ true = sym (a.text q i) ∙ y in cc)
]

-- ---- mmap and munmap

-- the protection bits that are asked
few_bits : (prot : ℕ) → ltb 7 prot ≡ false → prot < 8
few_bits prot h = let l : prot ≤ 7 = ltb-false 7 prot h in omega (arith, l)

-- a page that isn't published and has the plain key
pub record IsNewPage (r : Rights) : Type 0 where
  pub ruled : IsRuled r
  pub hidden : r.exec ≡ false
  pub plain : r.key ≡ 0

-- no page, or a new one
abbrev pub IsNew : Option Rights → Type 0
IsNew o = (r : Rights) → o ≡ Some r → IsNewPage r

-- the pages of a range are mapped anew, or unmapped
pub record Remaps (s : State) (t : Thread) (c : Change) : Type 0 where
  pub range : PageRange
  pub rights : Option Rights
  pub is : with_pages s t range rights ≡ c
  pub new : IsNew rights
  pub low : range.first + range.count ≤ 2 ^ 35
  pub apart : IsApart s t range
  pub pins : (q : ℕ) → is_in range q ≡ true
      → (is_pinned s.threads q ≡ false) ⊎ (s.rights q ≡ None)

new_hidden : (o : Option Rights) → IsNew o → is_published o ≡ false
new_hidden None h = refl
new_hidden (Some r) h = (h r refl).hidden

none_new : IsNew None
none_new r e = absurd cc

some_new : (prot : ℕ) → prot < 8 → IsNew (new_rights prot)
some_new prot few r e =
    subst IsNewPage (some_same (unpublished_rights prot 0) r e)
    (record { ruled = fresh_ruled prot 0 few (lit< tt); hidden = refl; plain = refl })

pages_fine : (N : ℕ → Type 0) (s : State) (t : Thread) (r : PageRange) (rights : Option Rights)
    → IsKept s → IsNew rights → r.first + r.count ≤ 2 ^ 35 → IsApart s t r
    → ((q : ℕ) → is_in r q ≡ true → (is_pinned s.threads q ≡ false) ⊎ (s.rights q ≡ None))
    → IsFine N s t (with_pages s t r rights)
pages_fine N s t r rights h new low apart pins = record {
  ruled = λ q x e. elim (cases_Bool (is_in r q)) [
    | inl i ↦ (new x (rw i at e)).ruled
    | inr o ↦ h.ruled q x (rw o at e)
  ];
  loses = λ x. elim (cases_Bool (is_in r (x / 4096))) [
    | inl i ↦ inr (rw (i, new_hidden rights new) refl)
    | inr o ↦ inl (rw o refl)
  ];
  text = λ q y. text_left s c.rights c.bytes q (h.text q y) (rw (outside_text s t r q apart y) refl)
      (λ a e. (let o : is_in r (a / 4096) ≡ false = rw e (outside_text s t r q apart y) in
      rw o refl));
  keys = h.keys;
  origins = origins_unpinned (published_code c.rights c.bytes) (code s) s.threads
      (λ x. elim (cases_Bool (is_in r (x / 4096))) [
        | inr o ↦ inl (rw o refl)
        | inl i ↦ elim (pins (x / 4096) i) [
          | inl n ↦ inr n
          | inr n ↦ inl (rw (i, new_hidden rights new, n) refl)
        ]
      ]);
  low = λ q high. elim (cases_Bool (is_in r q)) [
    | inr o ↦ rw o (h.low q high)
    | inl i ↦ absurd (let b : q < r.first + r.count = (in_bounds r q i).1 in
        omega (arith, b, low, high))
  ];
  zeros = λ a n. elim (cases_Bool (is_in r (a / 4096))) [
    | inl i ↦ rw i refl
    | inr o ↦ rw o (h.zeros a (rw o at n))
  ];
  pkru = refl;
  made = λ u e. absurd cc;
  kind = λ bytes of a. elim (cases_Bool (is_in r (a / 4096))) [
    | inl i ↦ rw i (bytes 0 (lit< tt))
    | inr o ↦ rw o (of a)
  ];
}
  where
    c : Change
    c = with_pages s t r rights

remaps_fine : (N : ℕ → Type 0) (s : State) (t : Thread) (c : Change) → IsKept s → Remaps s t c
    → IsFine N s t c
remaps_fine N s t c h m = subst (IsFine N s t) m.is
    (pages_fine N s t m.range m.rights h m.new m.low m.apart m.pins)

-- where mmap finds room nothing is mapped
record IsFree (s : State) (r : PageRange) : Type 0 where
  low : r.first + r.count ≤ 2 ^ 35
  unmapped : (q : ℕ) → is_in r q ≡ true → s.rights q ≡ None

free_found : (s : State) (count first : ℕ) → lowest_free s.rights count ≡ Some first
    → IsFree s (record { first = first; count = count })
free_found s count first e =
    let free = and_parts _ _ (and_parts _ _ (least_holds last_page first _ e)).1 in
    record {
      low = ltb-false _ _ (not-true _ free.0);
      unmapped = λ q i. none_of (s.rights q)
          (no_page (record { first = first; count = count }) (λ p. is_some (s.rights p)) q
          (not-true _ free.1) i);
    }

-- so there is neither trusted text nor trusted memory
free_apart : (s : State) (t : Thread) (r : PageRange) → IsKept s → IsFree s r → IsApart s t r
free_apart s t r h free = record {
  text = λ q i. elim (cases_Bool (in_text_of (trust_of s) (4096 * q))) [
    | inr n ↦ n
    | inl y ↦ absurd (let w = h.text q y in
        let z : None ≡ Some w.held = sym (free.unmapped q i) ∙ w.mapped in cc)
  ];
  keyed = λ q domain i is y. absurd (let z : false ≡ true = rw (free.unmapped q i) at y in cc);
}

mmap_from_remaps : (s : State) (t : Thread) (count prot v : ℕ) (o : Option ℕ) (c : Change)
    → IsKept s → prot < 8 → lowest_free s.rights count ≡ o
    → mmap_from s t count prot o ≡ Answer v c → Remaps s t c
mmap_from_remaps s t count prot v None c h few e k = absurd cc
mmap_from_remaps s t count prot v (Some first) c h few e k =
    let r : PageRange = record { first = first; count = count } in
    let free = free_found s count first e in
    record {
      range = r;
      rights = new_rights prot;
      is = answer_is (4096 * first) v (with_pages s t r (new_rights prot)) c k;
      new = some_new prot few;
      low = free.low;
      apart = free_apart s t r h free;
      pins = λ q i. inr (free.unmapped q i);
    }

mmap_anywhere_remaps : (s : State) (t : Thread) (count prot v : ℕ) (c : Change) → IsKept s
    → prot < 8 → mmap_anywhere s t count prot ≡ Answer v c → Remaps s t c
mmap_anywhere_remaps s t count prot v c h few e =
    mmap_from_remaps s t count prot v (lowest_free s.rights count) c h few refl
    (refuse_answer _ _ v _ c e).1

mmap_at_remaps : (s : State) (t : Thread) (addr : ℕ) (r : PageRange) (prot v : ℕ) (c : Change)
    → prot < 8 → mmap_at s t addr r prot ≡ Answer v c → Remaps s t c
mmap_at_remaps s t addr r prot v c few e =
    let valid = refuse_answer _ _ v _ c e in
    let free = refuse_answer _ _ v _ c valid.1 in
    let room = refuse_answer _ _ v _ c free.1 in
    let pin = refuse_answer _ _ v _ c room.1 in
    record {
      range = r;
      rights = new_rights prot;
      is = answer_is addr v (with_pages s t r (new_rights prot)) c pin.1;
      new = some_new prot few;
      low = ltb-false _ _ (or_parts _ _ (or_parts _ _ valid.0).1).1;
      apart = apart_by s t r free.0;
      pins = λ q i. inl (no_page r (is_pinned s.threads) q pin.0 i);
    }

pub mmap_remaps : (s : State) (t : Thread) (addr len prot flags v : ℕ) (c : Change) → IsKept s
    → mmap_result s t addr len prot flags ≡ Answer v c → Remaps s t c
unfolding mmap_result
mmap_remaps s t addr len prot flags v c h e =
    let valid = refuse_answer _ _ v _ c e in
    let few = few_bits prot (or_parts _ _ (or_parts _ _ valid.0).1).0 in
    row_answer (Remaps s t c) (eqb flags 0x32) _ _ v c
    (mmap_at_remaps s t addr (range_of addr len) prot v c few)
    (mmap_anywhere_remaps s t (range_of addr len).count prot v c h few) valid.1

pub munmap_remaps : (s : State) (t : Thread) (addr len v : ℕ) (c : Change)
    → munmap_result s t addr len ≡ Answer v c → Remaps s t c
unfolding munmap_result
munmap_remaps s t addr len v c e =
    let r : PageRange = range_of addr len in
    let valid = refuse_answer _ _ v _ c e in
    let free = refuse_answer _ _ v _ c valid.1 in
    let pin = refuse_answer _ _ v _ c free.1 in
    record {
      range = r;
      rights = None;
      is = answer_is 0 v (with_pages s t r None) c pin.1;
      new = none_new;
      low = ltb-false _ _ (or_parts _ _ (or_parts _ _ valid.0).1).1;
      apart = apart_by s t r free.0;
      pins = λ q i. inl (no_page r (is_pinned s.threads) q pin.0 i);
    }

-- ---- mprotect and pkey_mprotect

-- the pages of a range are asked anew
pub record Protects (s : State) (t : Thread) (c : Change) : Type 0 where
  pub range : PageRange
  pub prot : ℕ
  pub key : Option ℕ
  pub is : with_prot s t range prot key ≡ c
  pub bits : prot < 8
  pub few : (old : ℕ) → old < 16 → key_or old key < 16
  pub apart : IsApart s t range
  pub pins : asks_exec prot ≡ false → (q : ℕ) → is_in range q ≡ true
      → is_pinned s.threads q ≡ false
  pub plain : is_denied_key (trust_of s) t.pkru key ≡ false

anew_exec : (prot key : ℕ) (r : Rights)
    → (asked_anew prot key r).exec ≡ (r.exec && asks_exec prot)
anew_exec prot key r = elim (cases_Bool (r.exec && asks_exec prot)) [
  | inl y ↦ rw y refl
  | inr n ↦ rw n refl
]

pub anew_key : (prot key : ℕ) (r : Rights) → (asked_anew prot key r).key ≡ key
anew_key prot key r = elim (cases_Bool (r.exec && asks_exec prot)) [
  | inl y ↦ rw y refl
  | inr n ↦ rw n refl
]

anew_ruled : (prot key : ℕ) (r : Rights) → prot < 8 → key < 16 → IsRuled (asked_anew prot key r)
anew_ruled prot key r bits few = elim (cases_Bool (r.exec && asks_exec prot)) [
  | inl y ↦ rw y (published_ruled (unpublished_rights prot key) (fresh_ruled prot key bits few)
      (and_parts _ _ y).1)
  | inr n ↦ rw n (fresh_ruled prot key bits few)
]

-- the rights of a page of the range afterwards
abbrev pub anew_of : ℕ → Option ℕ → Option Rights → Option Rights
anew_of prot key o = option_map (λ rights. asked_anew prot (key_or rights.key key) rights) o

some_ruled : (prot : ℕ) (key : Option ℕ) (o : Option Rights) (x : Rights) → prot < 8
    → ((old : ℕ) → old < 16 → key_or old key < 16) → ((r : Rights) → o ≡ Some r → IsRuled r)
    → anew_of prot key o ≡ Some x → IsRuled x
some_ruled prot key None x bits few old e = absurd cc
some_ruled prot key (Some r) x bits few old e =
    subst IsRuled (some_same (asked_anew prot (key_or r.key key) r) x e)
    (anew_ruled prot (key_or r.key key) r bits (few r.key (old r refl).sound.0))

-- a page stays published exactly where PROT_EXEC is asked
some_published : (prot : ℕ) (key : Option ℕ) (o : Option Rights)
    → is_published (anew_of prot key o) ≡ (is_published o && asks_exec prot)
some_published prot key None = refl
some_published prot key (Some r) = anew_exec prot (key_or r.key key) r

some_mapped : (prot : ℕ) (key : Option ℕ) (o : Option Rights) → anew_of prot key o ≡ None
    → o ≡ None
some_mapped prot key None e = refl
some_mapped prot key (Some r) e = absurd cc

stays : (prot : ℕ) (key : Option ℕ) (o : Option Rights) → asks_exec prot ≡ true
    → is_published (anew_of prot key o) ≡ is_published o
stays prot key o y = some_published prot key o ∙ ap (λ b. is_published o && b) y
    ∙ and-true (is_published o)

goes : (prot : ℕ) (key : Option ℕ) (o : Option Rights) → asks_exec prot ≡ false
    → is_published (anew_of prot key o) ≡ false
goes prot key o n = some_published prot key o ∙ and_right (is_published o) (asks_exec prot) n

prot_fine : (N : ℕ → Type 0) (s : State) (t : Thread) (r : PageRange) (prot : ℕ)
    (key : Option ℕ) → IsKept s → prot < 8 → ((old : ℕ) → old < 16 → key_or old key < 16)
    → IsApart s t r
    → (asks_exec prot ≡ false → (q : ℕ) → is_in r q ≡ true → is_pinned s.threads q ≡ false)
    → IsFine N s t (with_prot s t r prot key)
prot_fine N s t r prot key h bits few apart pins = record {
  ruled = λ q x e. elim (cases_Bool (is_in r q)) [
    | inl i ↦ some_ruled prot key (s.rights q) x bits few (h.ruled q) (rw i at e)
    | inr o ↦ h.ruled q x (rw o at e)
  ];
  loses = λ x. elim (cases_Bool (is_in r (x / 4096))) [
    | inr o ↦ inl (rw o refl)
    | inl i ↦ elim (cases_Bool (asks_exec prot)) [
      | inl y ↦ inl (rw (i, stays prot key (s.rights (x / 4096)) y) refl)
      | inr n ↦ inr (rw (i, goes prot key (s.rights (x / 4096)) n) refl)
    ]
  ];
  text = λ q y. text_left s c.rights c.bytes q (h.text q y) (rw (outside_text s t r q apart y) refl)
      (λ a e. refl);
  keys = h.keys;
  origins = origins_unpinned (published_code c.rights c.bytes) (code s) s.threads
      (λ x. elim (cases_Bool (is_in r (x / 4096))) [
        | inr o ↦ inl (rw o refl)
        | inl i ↦ elim (cases_Bool (asks_exec prot)) [
          | inl y ↦ inl (rw (i, stays prot key (s.rights (x / 4096)) y) refl)
          | inr n ↦ inr (pins n (x / 4096) i)
        ]
      ]);
  low = λ q high. elim (cases_Bool (is_in r q)) [
    | inr o ↦ rw o (h.low q high)
    | inl i ↦ rw (i, h.low q high) refl
  ];
  zeros = λ a n. elim (cases_Bool (is_in r (a / 4096))) [
    | inr o ↦ h.zeros a (rw o at n)
    | inl i ↦ h.zeros a (some_mapped prot key (s.rights (a / 4096)) (rw i at n))
  ];
  pkru = refl;
  made = λ u e. absurd cc;
  kind = λ bytes of. of;
}
  where
    c : Change
    c = with_prot s t r prot key

protects_fine : (N : ℕ → Type 0) (s : State) (t : Thread) (c : Change) → IsKept s
    → Protects s t c → IsFine N s t c
protects_fine N s t c h p = subst (IsFine N s t) p.is
    (prot_fine N s t p.range p.prot p.key h p.bits p.few p.apart p.pins)

key_few : (s : State) (key : Option ℕ) → is_foreign s key ≡ false → (old : ℕ) → old < 16
    → key_or old key < 16
key_few s None f old l = l
key_few s (Some k) f old l = ltb-true _ _ (and_parts _ _ (not-false (is_taken s k) f)).0

protect_protects : (s : State) (t : Thread) (addr : ℕ) (r : PageRange) (prot : ℕ)
    (key : Option ℕ) (v : ℕ) (c : Change) → protect s t addr r prot key ≡ Answer v c
    → Protects s t c
protect_protects s t addr r prot key v c e =
    let valid = refuse_answer _ _ v _ c e in
    let free = refuse_answer _ _ v _ c valid.1 in
    let there = refuse_answer _ _ v _ c free.1 in
    let pin = refuse_answer _ _ v _ c there.1 in
    let asked = or_parts _ _ (or_parts _ _ valid.0).1 in
    record {
      range = r;
      prot = prot;
      key = key;
      is = answer_is 0 v (with_prot s t r prot key) c pin.1;
      bits = few_bits prot asked.0;
      few = key_few s key (or_parts _ _ asked.1).1;
      apart = apart_by s t r (or_parts _ _ free.0).0;
      pins = λ n q i. (let pinned : (not (asks_exec prot) && has_pin s r) ≡ false = pin.0 in
          let z : has_pin s r ≡ false = rw n at pinned in
          no_page r (is_pinned s.threads) q z i);
      plain = (or_parts _ _ free.0).1;
    }

pub mprotect_protects : (s : State) (t : Thread) (addr len prot v : ℕ) (c : Change)
    → mprotect_result s t addr len prot ≡ Answer v c → Protects s t c
unfolding mprotect_result
mprotect_protects s t addr len prot v c e =
    protect_protects s t addr (range_of addr len) prot None v c e

pub pkey_mprotect_protects : (s : State) (t : Thread) (addr len prot key v : ℕ) (c : Change)
    → pkey_mprotect_result s t addr len prot key ≡ Answer v c → Protects s t c
unfolding pkey_mprotect_result
pkey_mprotect_protects s t addr len prot key v c e =
    protect_protects s t addr (range_of addr len) prot
    (cond (eqb (key % 2 ^ 32) 0xFFFFFFFF) None (Some (key % 2 ^ 32))) v c e

-- ---- pkey_alloc and pkey_free

alloc_leaves : (s : State) (t : Thread) (bits v : ℕ) (o : Option ℕ) (c : Change) → IsKept s
    → bits < 4 → least_free_key s ≡ o → alloc_key s t bits o ≡ Answer v c → LeavesPages s t c
alloc_leaves s t bits v None c h few e k = absurd cc
alloc_leaves s t bits v (Some key) c h few e k =
    let made : Change = (let x = no_change s t in record x {
      keys = λ j. eqb j key || s.keys j;
      pkru = with_key_rights t.pkru key bits;
    }) in
    let found = and_parts _ _ (least_holds 16 key _ e) in
    let two : 1 < key = ltb-true _ _ found.0 in
    let free : s.keys key ≡ false = not-true _ found.1 in
    subst (LeavesPages s t) (answer_is key v made c k) (record {
      rights = refl;
      bytes = refl;
      keys = (or_right _ _ h.keys.0, λ d is. or_right _ _ (h.keys.1 d is));
      pkru = rights_opened s.setup.image t.pkru key bits (omega (arith, two)) few
          (λ d is e. let z : false ≡ true = sym free ∙ ap s.keys (sym e)
          ∙ h.keys.1 d is in absurd cc);
      made = λ u n. absurd cc;
    })

pub pkey_alloc_leaves : (s : State) (t : Thread) (flags bits v : ℕ) (c : Change) → IsKept s
    → pkey_alloc_result s t flags bits ≡ Answer v c → LeavesPages s t c
unfolding pkey_alloc_result
pkey_alloc_leaves s t flags bits v c h e =
    let valid = refuse_answer _ _ v _ c e in
    let few : bits ≤ 3 = ltb-false 3 bits (or_parts _ _ valid.0).1 in
    alloc_leaves s t bits v (least_free_key s) c h (omega (arith, few)) refl valid.1

other_key : (j key : ℕ) (b : Bool) → j ≢ key → b ≡ true → (not (eqb j key) && b) ≡ true
other_key j key b n h = rw (ne_eqb j key n, h) refl

pub pkey_free_leaves : (s : State) (t : Thread) (key v : ℕ) (c : Change) → IsKept s
    → pkey_free_result s t key ≡ Answer v c → LeavesPages s t c
unfolding pkey_free_result
pkey_free_leaves s t key v c h e =
    let k : ℕ = key % 2 ^ 32 in
    let made : Change = (let x = no_change s t in
    record x { keys = λ j. not (eqb j k) && s.keys j }) in
    let valid = refuse_answer _ _ v _ c e in
    let plain = or_parts _ _ valid.0 in
    let other = or_parts _ _ plain.1 in
    subst (LeavesPages s t) (answer_is 0 v made c valid.1) (record {
      rights = refl;
      bytes = refl;
      keys = (
        other_key 0 k (s.keys 0) (λ e. let z : false ≡ true = sym plain.0 ∙ eq-eqb k 0
            (sym e) in absurd cc)
            h.keys.0,
        λ d is. other_key d k (s.keys d)
            (λ e. let z : false ≡ true = sym other.0 ∙ ap (is_domain (trust_of s)) (sym e)
            ∙ is in absurd cc)
            (h.keys.1 d is),
      );
      pkru = refl;
      made = λ u n. absurd cc;
    })

-- ---- each is fine: one lemma a call

pub mmap_fine : (N : ℕ → Type 0) (s : State) (t : Thread) (addr len prot flags v : ℕ)
    (c : Change) → IsKept s → mmap_result s t addr len prot flags ≡ Answer v c → IsFine N s t c
mmap_fine N s t addr len prot flags v c h e =
    remaps_fine N s t c h (mmap_remaps s t addr len prot flags v c h e)

pub munmap_fine : (N : ℕ → Type 0) (s : State) (t : Thread) (addr len v : ℕ) (c : Change)
    → IsKept s → munmap_result s t addr len ≡ Answer v c → IsFine N s t c
munmap_fine N s t addr len v c h e = remaps_fine N s t c h (munmap_remaps s t addr len v c e)

pub mprotect_fine : (N : ℕ → Type 0) (s : State) (t : Thread) (addr len prot v : ℕ) (c : Change)
    → IsKept s → mprotect_result s t addr len prot ≡ Answer v c → IsFine N s t c
mprotect_fine N s t addr len prot v c h e =
    protects_fine N s t c h (mprotect_protects s t addr len prot v c e)

pub pkey_mprotect_fine : (N : ℕ → Type 0) (s : State) (t : Thread) (addr len prot key v : ℕ)
    (c : Change) → IsKept s → pkey_mprotect_result s t addr len prot key ≡ Answer v c
    → IsFine N s t c
pkey_mprotect_fine N s t addr len prot key v c h e =
    protects_fine N s t c h (pkey_mprotect_protects s t addr len prot key v c e)

pub pkey_alloc_fine : (N : ℕ → Type 0) (s : State) (t : Thread) (flags bits v : ℕ) (c : Change)
    → IsKept s → pkey_alloc_result s t flags bits ≡ Answer v c → IsFine N s t c
pkey_alloc_fine N s t flags bits v c h e =
    left_fine N s t c h (pkey_alloc_leaves s t flags bits v c h e)

pub pkey_free_fine : (N : ℕ → Type 0) (s : State) (t : Thread) (key v : ℕ) (c : Change)
    → IsKept s → pkey_free_result s t key ≡ Answer v c → IsFine N s t c
pkey_free_fine N s t key v c h e = left_fine N s t c h (pkey_free_leaves s t key v c h e)
