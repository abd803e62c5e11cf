use Rattle.std.proofs.Common.{◌≡◌, ◌<◌, ◌≤◌, ◌^◌, ◌+◌, ◌/◌, ℕ, zero, suc, List, length, take}
use Rattle.std.proofs.Common.{length-take, Option, Some, None, Result, Ok, Err, cond, refl, sym, ap}
use Rattle.std.proofs.Common.{◌∙◌, arith, inl, inr, ltb, ltb-true, ltb-false}
use Rattle.std.proofs.lemmas.Bool.{cases_Bool}
use Rattle.erim_defs.specs.declared.machine.Rights.{Rights}
use Rattle.erim_defs.specs.declared.insn.Decoded.{Decoded}
use Rattle.erim_defs.specs.Encoding.Decoding.{decode}
use Rattle.erim_defs.specs.Machine.Pages.{RightsMap, ByteMap, published_code, code_bytes}
use Rattle.erim_defs.specs.Machine.Pages.{code_bytes_on, is_published}
use Rattle.erim_defs.specs.Machine.Access.{Seen, whole}
use Rattle.erim_defs.specs.Machine.Step.{fetch, fetch_as}
use Rattle.erim_defs.specs.Machine.Access.{rights_in}
use Rattle.page_store.specs.Answers.{fetch_of, code_told}

told_is : (r : Option Rights) (q x : ℕ) (xs : List ℕ)
    → code_told (Some r) q x (Ok xs) ≡ Ok (code_bytes_on (cond (is_published r) (Some x) None) xs)
told_is None q x xs = refl
told_is (Some r) q x xs = elim (cases_Bool r.exec) [ inl t ↦ rw t refl | inr f ↦ rw f refl ]

-- a memory that holds every page answers the bytes of Code
pub fetch_whole : (rights : RightsMap) (b : ByteMap) (a n : ℕ)
    → fetch_of (whole rights) b a n ≡ Ok (code_bytes (published_code rights b) a n)
unfolding fetch_of code_bytes
fetch_whole rights b a zero = refl
fetch_whole rights b a (suc n) =
    ap (code_told (Some (rights (a / 4096))) (a / 4096) (b a)) (fetch_whole rights b (suc a) n)
    ∙ told_is (rights (a / 4096)) (a / 4096) (b a) (code_bytes (published_code rights b) (suc a) n)

pub present_low : (rights : RightsMap) (b : ByteMap) (a n : ℕ)
    → ((q : ℕ) → 2 ^ 35 ≤ q → rights q ≡ None)
    → 0 < length (code_bytes (published_code rights b) a n) → a < 2 ^ 47
unfolding code_bytes
present_low rights b a zero h l = absurd (omega arith)
present_low rights b a (suc n) h l = elim (cases_Bool (ltb a (2 ^ 47))) [
  | inl t ↦ ltb-true _ _ t
  | inr f ↦ (let high : 2 ^ 47 ≤ a = ltb-false _ _ f in
      let none : rights (a / 4096) ≡ None = h (a / 4096) (omega arith) in
      let k : 0 < length (code_bytes_on (cond (is_published (rights (a / 4096))) (Some (b a)) None)
      (code_bytes (published_code rights b) (suc a) n)) = l in
      absurd (let j : 0 < 0 = rw none at k in omega arith))
]

pub ok_same : (x y : List ℕ) → (let r : Result (List ℕ) ℕ = Ok x in r ≡ Ok y) → x ≡ y
ok_same x y h = cc

pub ok_err : (x : List ℕ) (q : ℕ) → (let r : Result (List ℕ) ℕ = Ok x in r ≡ Err q) → ⊥
ok_err x q h = cc

-- the bytes that a fetch wrote
pub fetch_present : (seen : Seen) (b : ByteMap) (rip n : ℕ) (into : List ℕ)
    → seen ≡ whole (rights_in seen) → fetch_of seen b rip 15 ≡ Ok (take n into)
    → take n into ≡ code_bytes (published_code (rights_in seen) b) rip 15
fetch_present seen b rip n into w h =
    ok_same _ _ (sym h ∙ ap (λ s. fetch_of s b rip 15) w ∙ fetch_whole (rights_in seen) b rip 15)

pub fetch_fetched : (seen : Seen) (b : ByteMap) (rip n : ℕ) (into : List ℕ) (d : Decoded)
    → seen ≡ whole (rights_in seen) → fetch_of seen b rip 15 ≡ Ok (take n into)
    → length (take n into) ≡ n → d ≡ decode (take n into)
    → fetch_as d (rip + n) ≡ fetch (published_code (rights_in seen) b) rip
unfolding fetch
fetch_fetched seen b rip n into d w h l e =
    let same = fetch_present seen b rip n into w h in
    ap (λ x. fetch_as x (rip + n)) e ∙ ap (λ x. fetch_as (decode (take n into)) (rip + x)) (sym l)
    ∙ ap (λ xs. fetch_as (decode xs) (rip + length xs)) same

-- a fetch from all pages finds them
pub fetch_held : (seen : Seen) (b : ByteMap) (rip q : ℕ) → seen ≡ whole (rights_in seen)
    → fetch_of seen b rip 15 ≡ Err q → ⊥
fetch_held seen b rip q w h =
    ok_err _ q (sym (ap (λ s. fetch_of s b rip 15) w ∙ fetch_whole (rights_in seen) b rip 15) ∙ h)

-- where bytes were found the place is low
pub fetch_low : (seen : Seen) (b : ByteMap) (rip n : ℕ) (into : List ℕ)
    → seen ≡ whole (rights_in seen) → ((q : ℕ) → 2 ^ 35 ≤ q → rights_in seen q ≡ None)
    → fetch_of seen b rip 15 ≡ Ok (take n into) → 0 < length (take n into) → rip < 2 ^ 47
fetch_low seen b rip n into w low h l =
    present_low (rights_in seen) b rip 15 low
    (let e = ap length (fetch_present seen b rip n into w h) in omega (arith, e))

pub length_taken : (n : ℕ) (xs : List ℕ) → n ≤ 15 → length xs ≡ 15 → length (take n xs) ≡ n
length_taken n xs h l = length-take n xs ∙ (let e : n ≤ length xs = omega arith in omega (arith, e))
