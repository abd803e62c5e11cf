-- Bits of PKRU and of the taken keys.
use Rattle.std.proofs.Common.{◌≡◌, ◌≢◌, ◌<◌, ◌≤◌, ◌+◌, ◌-◌, ◌*◌, ◌/◌, ◌%◌, ◌^◌, ◌∙◌, ℕ, zero, suc}
use Rattle.std.proofs.Common.{Bool, true, false, not, ◌&&◌, ◌||◌, eqb, eqb-true, sym, refl, inl}
use Rattle.std.proofs.Common.{Option, Some, None, pow-add, bit_xor, nat_lt, ◌==◌, ◌⊎◌, ne_eqb, inr}
use Rattle.std.proofs.Common.{ltb-true, arith, ap, subst}
use Rattle.std.proofs.Math.Path.{fun_ext}
use Rattle.std.specs.Int.{bit_at}
use Rattle.std.proofs.lemmas.Bool.{cases_Bool, cases_lt, eqb-false, le-ltb, lt-ltb}
use Rattle.std.proofs.lemmas.Bool.{agree_below_at, and_parts}
use Rattle.std.proofs.lemmas.Nat.Bits.{bit_at_xor, bit_at-lt, bit_at-pow_same, bit_at-pow_other}
use Rattle.erim_defs.specs.Bits.{has_bit}
use Rattle.erim_defs.specs.declared.machine.Keys.{Keys}
use Rattle.erim_defs.specs.declared.machine.Thread.{Thread}
use Rattle.erim_defs.specs.Machine.State.{State, trust_of}
use Rattle.erim_defs.specs.Inspection.Trust.{TrustValue, is_domain}
use Rattle.erim_defs.specs.Machine.CallResult.{CallResult, Refusal, Answer, no_change}
use Rattle.erim_defs.specs.Machine.MapCalls.{with_key_rights, alloc_key}
use Rattle.erim_defs.specs.Machine.Least.{least_below}
use Rattle.erim_defs.specs.Machine.MapCalls.{least_free_key, is_taken}
use Rattle.erim_defs.specs.Machine.MapCalls.{pkey_alloc_result, pkey_free_result}
use Rattle.map_calls.specs.KeyAnswers.{HasKeys, key_map, least_free, is_freeable}

-- PKRU with other rights of a key is below 2^32, key by key
low_keys : (key p b : ℕ) → key < 8 → p < 2 ^ 32 → b < 4 → with_key_rights p key b < 2 ^ 32
unfolding with_key_rights
low_keys zero p b h l m = omega (arith, l, m)
low_keys (suc zero) p b h l m = omega (arith, l, m)
low_keys (suc (suc zero)) p b h l m = omega (arith, l, m)
low_keys (suc (suc (suc zero))) p b h l m = omega (arith, l, m)
low_keys (suc (suc (suc (suc zero)))) p b h l m = omega (arith, l, m)
low_keys (suc (suc (suc (suc (suc zero))))) p b h l m = omega (arith, l, m)
low_keys (suc (suc (suc (suc (suc (suc zero)))))) p b h l m = omega (arith, l, m)
low_keys (suc (suc (suc (suc (suc (suc (suc zero))))))) p b h l m = omega (arith, l, m)
low_keys (suc (suc (suc (suc (suc (suc (suc (suc k)))))))) p b h l m = absurd (omega (arith, h))

high_keys : (key p b : ℕ) → key < 8 → p < 2 ^ 32 → b < 4
    → with_key_rights p (8 + key) b < 2 ^ 32
unfolding with_key_rights
high_keys zero p b h l m = omega (arith, l, m)
high_keys (suc zero) p b h l m = omega (arith, l, m)
high_keys (suc (suc zero)) p b h l m = omega (arith, l, m)
high_keys (suc (suc (suc zero))) p b h l m = omega (arith, l, m)
high_keys (suc (suc (suc (suc zero)))) p b h l m = omega (arith, l, m)
high_keys (suc (suc (suc (suc (suc zero))))) p b h l m = omega (arith, l, m)
high_keys (suc (suc (suc (suc (suc (suc zero)))))) p b h l m = omega (arith, l, m)
high_keys (suc (suc (suc (suc (suc (suc (suc zero))))))) p b h l m = omega (arith, l, m)
high_keys (suc (suc (suc (suc (suc (suc (suc (suc k)))))))) p b h l m = absurd (omega (arith, h))

pub rights_low : (key p b : ℕ) → key < 16 → p < 2 ^ 32 → b < 4 → with_key_rights p key b < 2 ^ 32
rights_low key p b h l m = elim (cases_lt key 8) [
  | inl low ↦ low_keys key p b low l m
  | inr high ↦ (let same : 8 + (key - 8) ≡ key = omega arith in
      subst (λ k. with_key_rights p k b < 2 ^ 32) same
      (high_keys (key - 8) p b (omega arith) l m))
]

-- written by the place of the key
pub rights_written : (p key b old place bits : ℕ) → old ≡ p → place ≡ 2 ^ (2 * key) → bits ≡ b
    → old % place + place * (bits + 4 * (old / (4 * place))) ≡ with_key_rights p key b
unfolding with_key_rights
rights_written p key b old place bits e f g =
    let four : 2 ^ (2 * key + 2) ≡ 4 * 2 ^ (2 * key) = pow-add 2 (2 * key) 2 ∙ omega arith in
    rw (e, f, g, four) refl

-- ---- one bit

pub one_shifted : (key : ℕ) → key < 16 → 1 * 2 ^ key % 65536 ≡ 2 ^ key
one_shifted key l =
    eqb-true _ _ (agree_below_at (λ k. 1 * 2 ^ k % 65536 == 2 ^ k) (λ k. true) 16 key refl l)

-- a bit that is exchanged
flipped : (n key k : ℕ) → k ≡ key → has_bit (bit_xor n (2 ^ key)) k ≡ not (has_bit n k)
flipped n key k e =
    let x = bit_at-lt n k in
    let one : bit_at (2 ^ key) k ≡ 1 = rw e (bit_at-pow_same key) in
    let sum = bit_at_xor n (2 ^ key) k in
    elim (cases_lt (bit_at n k) 1) [
      | inl l ↦ (let z : bit_at n k ≡ 0 = omega (arith, l) in
          let s : bit_at (bit_xor n (2 ^ key)) k ≡ 1 = rw (one, z) at sum in rw (s, z) refl)
      | inr l ↦ (let z : bit_at n k ≡ 1 = omega (arith, l, x) in
          let s : bit_at (bit_xor n (2 ^ key)) k ≡ 0 = rw (one, z) at sum in rw (s, z) refl)
    ]

-- and another one, which stays
left_bit : (n key k : ℕ) → k ≢ key → has_bit (bit_xor n (2 ^ key)) k ≡ has_bit n k
left_bit n key k e =
    let x = bit_at-lt n k in
    let sum = bit_at_xor n (2 ^ key) k in
    let none = bit_at-pow_other key k e in
    let s : bit_at (bit_xor n (2 ^ key)) k ≡ bit_at n k = rw none at sum ∙ omega (arith, x) in
    ap (λ m. eqb m 1) s

-- a key that wasn't taken is, and one that was isn't
pub taken_with : (n key : ℕ) → has_bit n key ≡ false
    → ◌≡◌ {A = ℕ → Bool} (λ k. (k == key) || has_bit n k) (λ k. has_bit (bit_xor n (2 ^ key)) k)
taken_with n key h = fun_ext (λ k. elim (cases_Bool (eqb k key)) [
  | inl t ↦ (let e : k ≡ key = eqb-true _ _ t in
      let off : has_bit n k ≡ false = rw e h in
      rw (t, flipped n key k e, off) refl)
  | inr t ↦ rw (t, left_bit n key k (eqb-false _ _ t)) refl
])

pub taken_without : (n key : ℕ) → has_bit n key ≡ true
    → ◌≡◌ {A = ℕ → Bool} (λ k. not (k == key) && has_bit n k)
    (λ k. has_bit (bit_xor n (2 ^ key)) k)
taken_without n key h = fun_ext (λ k. elim (cases_Bool (eqb k key)) [
  | inl t ↦ (let e : k ≡ key = eqb-true _ _ t in
      let on : has_bit n k ≡ true = rw e h in
      rw (t, flipped n key k e, on) refl)
  | inr t ↦ rw (t, left_bit n key k (eqb-false _ _ t)) refl
])

-- ---- the calls

free_in : (s : State) (t : Thread) (keys : Keys) (pkru : ℕ) → HasKeys s t keys pkru
    → least_free_key s ≡ least_free keys
free_in s t keys pkru h =
    ap (λ (f : ℕ → Bool). least_below 16 (λ k. nat_lt 1 k && not (f k))) h.taken

pub alloc_invalid : (s : State) (t : Thread) (flags rights : ℕ) → (flags ≢ 0) ⊎ (3 < rights)
    → pkey_alloc_result s t flags rights ≡ Refusal 22
unfolding pkey_alloc_result
alloc_invalid s t flags rights (inl n) = rw (ne_eqb flags 0 n) refl
alloc_invalid s t flags rights (inr l) = elim (cases_Bool (eqb flags 0)) [
  | inl e ↦ rw (e, lt-ltb 3 rights l) refl
  | inr e ↦ rw e refl
]

alloc_valid : (s : State) (t : Thread) (keys : Keys) (pkru flags rights : ℕ) (o : Option ℕ)
    → HasKeys s t keys pkru → flags ≡ 0 → rights ≤ 3 → o ≡ least_free keys
    → pkey_alloc_result s t flags rights ≡ alloc_key s t rights o
unfolding pkey_alloc_result
alloc_valid s t keys pkru flags rights o h z l e =
    rw (z, le-ltb 3 rights l, free_in s t keys pkru h ∙ sym e) refl

pub alloc_none : (s : State) (t : Thread) (keys : Keys) (pkru flags rights : ℕ)
    → HasKeys s t keys pkru → flags ≡ 0 → rights ≤ 3 → None ≡ least_free keys
    → pkey_alloc_result s t flags rights ≡ Refusal 28
alloc_none s t keys pkru flags rights h z l e =
    alloc_valid s t keys pkru flags rights None h z l e

pub alloc_some : (s : State) (t : Thread) (keys : Keys) (pkru flags rights key new : ℕ)
    → HasKeys s t keys pkru → flags ≡ 0 → rights ≤ 3 → Some key ≡ least_free keys
    → has_bit keys.taken key ≡ false → new ≡ bit_xor keys.taken (2 ^ key)
    → pkey_alloc_result s t flags rights
    ≡ Answer key (let c = no_change s t in record c {
      keys = key_map (record { taken = new });
      pkru = with_key_rights pkru key rights;
    })
alloc_some s t keys pkru flags rights key new h z l e off n =
    let given : (ℕ → Bool) → ℕ → CallResult = λ f p.
    Answer key (let c = no_change s t in record c {
      keys = f;
      pkru = with_key_rights p key rights;
    }) in
    alloc_valid s t keys pkru flags rights (Some key) h z l e
    ∙ ap (λ (f : ℕ → Bool). given (λ k. (k == key) || f k) t.pkru) h.taken
    ∙ ap (λ (f : ℕ → Bool). given f t.pkru) (taken_with keys.taken key off)
    ∙ ap (λ (m : ℕ). given (λ k. has_bit m k) t.pkru) (sym n)
    ∙ ap (λ (p : ℕ). given (λ k. has_bit new k) p) h.rights

freeable_in : (s : State) (t : Thread) (trust : TrustValue) (keys : Keys) (pkru k : ℕ)
    → HasKeys s t keys pkru → trust_of s ≡ trust
    → (k == 0 || (is_domain (trust_of s) k || not (is_taken s k))) ≡ not (is_freeable trust keys k)
freeable_in s t trust keys pkru k h e =
    by (k == 0) (is_domain (trust_of s) k) (is_taken s k)
    ∙ ap (λ (x : TrustValue). not ((not (k == 0) && not (is_domain x k)) && is_taken s k)) e
    ∙ ap (λ (f : ℕ → Bool). not ((not (k == 0) && not (is_domain trust k)) && (nat_lt k 16 && f k)))
    h.taken
  where
    by : (a b c : Bool) → (a || (b || not c)) ≡ not ((not a && not b) && c)
    by true b c = refl
    by false true c = refl
    by false false c = refl

pub free_invalid : (s : State) (t : Thread) (trust : TrustValue) (keys : Keys) (pkru key : ℕ)
    → HasKeys s t keys pkru → trust_of s ≡ trust
    → is_freeable trust keys (key % 2 ^ 32) ≡ false → pkey_free_result s t key ≡ Refusal 22
unfolding pkey_free_result
free_invalid s t trust keys pkru key h e b =
    rw (freeable_in s t trust keys pkru (key % 2 ^ 32) h e ∙ ap not b) refl

free_valid : (s : State) (t : Thread) (trust : TrustValue) (keys : Keys) (pkru key : ℕ)
    → HasKeys s t keys pkru → trust_of s ≡ trust
    → is_freeable trust keys (key % 2 ^ 32) ≡ true
    → pkey_free_result s t key ≡ Answer 0 (let c = no_change s t in record c {
      keys = λ j. not (j == key % 2 ^ 32) && s.keys j;
    })
unfolding pkey_free_result
free_valid s t trust keys pkru key h e b =
    rw (freeable_in s t trust keys pkru (key % 2 ^ 32) h e ∙ ap not b) refl

pub free_some : (s : State) (t : Thread) (trust : TrustValue) (keys : Keys) (pkru key new : ℕ)
    → HasKeys s t keys pkru → trust_of s ≡ trust
    → is_freeable trust keys (key % 2 ^ 32) ≡ true
    → new ≡ bit_xor keys.taken (2 ^ (key % 2 ^ 32))
    → pkey_free_result s t key
    ≡ Answer 0 (let c = no_change s t in record c { keys = key_map (record { taken = new }) })
free_some s t trust keys pkru key new h e b n =
    let given : (ℕ → Bool) → CallResult = λ f.
    Answer 0 (let c = no_change s t in record c { keys = f }) in
    let on = (and_parts _ _ (and_parts _ _ b).1).1 in
    free_valid s t trust keys pkru key h e b
    ∙ ap (λ (f : ℕ → Bool). given (λ j. not (j == key % 2 ^ 32) && f j)) h.taken
    ∙ ap given (taken_without keys.taken (key % 2 ^ 32) on)
    ∙ ap (λ (m : ℕ). given (λ k. has_bit m k)) (sym n)

pub freeable_low : (trust : TrustValue) (keys : Keys) (key : ℕ)
    → is_freeable trust keys key ≡ true → key < 16
freeable_low trust keys key b = ltb-true _ _ (and_parts _ _ (and_parts _ _ b).1).0
