-- Which domains a PKRU opens: flags, the values of gates, and calls that change other keys.
use Rattle.std.proofs.Common.{◌≡◌, ◌≢◌, ◌<◌, ◌≤◌, ◌+◌, ◌*◌, ◌/◌, ◌%◌, ◌^◌, ◌&&◌, ◌||◌, ℕ, zero, suc}
use Rattle.std.proofs.Common.{List, [], ◌∷◌, Bool, true, false, cond, eqb, refl, sym, ap, ◌∙◌}
use Rattle.std.proofs.Common.{arith}
use Rattle.std.proofs.Common.{length, drop, get_or}
use Rattle.erim_defs.specs.Inspection.Trust.{key_beside}
use Rattle.std.proofs.Common.{◌-◌, not, inl, inr, ne_eqb, lit≤, eqb-true, eq-eqb}
use Rattle.std.specs.List.{list_any}
use Rattle.std.proofs.lemmas.Bool.{cases_Bool, cases_lt, or_parts}
use Rattle.erim_defs.specs.Inspection.Trust.{TrustValue, flag_at, is_domain, is_integrity, key_bits}
use Rattle.erim_defs.specs.Inspection.Trust.{pkru_of}
use Rattle.erim_defs.specs.Inspection.Image.{image_trust}
use Rattle.erim_defs.specs.Machine.Access.{opens, opens_write}
use Rattle.erim_defs.specs.Machine.Domains.{opens_domain, opened_domains, is_set_but}
use Rattle.erim_defs.specs.Machine.MapCalls.{with_key_rights}
use Rattle.std.proofs.lemmas.Nat.{pow-add}
use Rattle.std.proofs.Math.Nat.{mod-add-div, mul_assoc}

-- ---- flags

none_any : (bs : List Bool) (d : ℕ) → list_any (λ c. c) bs ≡ false → flag_at bs d ≡ false
none_any [] d h = refl
none_any (b ∷ bs) zero h = (or_parts b _ h).0
none_any (b ∷ bs) (suc d) h = none_any bs d (or_parts b _ h).1

any_none : (bs : List Bool) → ((d : ℕ) → flag_at bs d ≡ false) → list_any (λ c. c) bs ≡ false
any_none [] h = refl
any_none (b ∷ bs) h = rw (h 0) (any_none bs (λ d. h (suc d)))

-- no flag but one is set: another isn't
pub set_but_none : (k d : ℕ) (bs : List Bool) → is_set_but k bs ≡ false → d ≢ k
    → flag_at bs d ≡ false
unfolding is_set_but
set_but_none k d [] h n = refl
set_but_none zero zero (b ∷ bs) h n = absurd (n refl)
set_but_none zero (suc d) (b ∷ bs) h n = none_any bs d h
set_but_none (suc k) zero (b ∷ bs) h n = (or_parts b _ h).0
set_but_none (suc k) (suc d) (b ∷ bs) h n =
    set_but_none k d bs (or_parts b _ h).1 (λ e. n (ap suc e))

pub set_but_from : (k : ℕ) (bs : List Bool) → ((d : ℕ) → d ≢ k → flag_at bs d ≡ false)
    → is_set_but k bs ≡ false
unfolding is_set_but
set_but_from k [] h = refl
set_but_from zero (b ∷ bs) h = any_none bs (λ d. h (suc d) (λ e. absurd (omega (arith, e))))
set_but_from (suc k) (b ∷ bs) h =
    rw (h 0 (λ e. absurd (omega (arith, e))))
    (set_but_from k bs (λ d n. h (suc d) (λ e. n (omega (arith, e)))))

-- a domain of an image is one of the keys 1 to 4
pub domain_flag : (image : List ℕ) (p d : ℕ) → is_domain (image_trust image) d ≡ true
    → flag_at (opened_domains (image_trust image) p) d ≡ opens_domain (image_trust image) p d
unfolding image_trust opened_domains
domain_flag image p zero h = absurd cc
domain_flag image p (suc zero) h = refl
domain_flag image p (suc (suc zero)) h = refl
domain_flag image p (suc (suc (suc zero))) h = refl
domain_flag image p (suc (suc (suc (suc zero)))) h = refl
domain_flag image p (suc (suc (suc (suc (suc d))))) h = absurd cc

-- who opens a domain and isn't outside stands in its text
pub set_but_key : (image : List ℕ) (k p d : ℕ)
    → is_set_but k (opened_domains (image_trust image) p) ≡ false
    → is_domain (image_trust image) d ≡ true → opens_domain (image_trust image) p d ≡ true → k ≡ d
set_but_key image k p d out is opens = elim (cases_Bool (eqb d k)) [
  | inl same ↦ sym (eqb-true _ _ same)
  | inr other ↦ absurd (let z = set_but_none k d (opened_domains (image_trust image) p) out
      (λ e. let y : false ≡ true = sym other ∙ eq-eqb d k e in absurd cc) in
      let y : true ≡ false = sym opens ∙ sym (domain_flag image p d is) ∙ z in cc)
]

-- key 0 is none
none_first : (trust : TrustValue) (p : ℕ) → flag_at (opened_domains trust p) 0 ≡ false
unfolding opened_domains
none_first trust p = refl

-- ---- the values of gates

key_bits_few : (trust : TrustValue) (o key : ℕ) → key_bits trust o key ≤ 2
key_bits_few trust o key = by (eqb key o) (is_integrity trust key)
  where
    by : (b i : Bool) → cond b 0 (cond i 2 1) ≤ 2
    by true i = lit≤ tt
    by false true = lit≤ tt
    by false false = lit≤ tt

key_bits_other : (trust : TrustValue) (o key : ℕ) → key ≢ o
    → key_bits trust o key ≡ cond (is_integrity trust key) 2 1
key_bits_other trust o key n = rw (ne_eqb _ _ n) refl

pub pkru_few : (trust : TrustValue) (o : ℕ) → pkru_of trust o < 2 ^ 31
unfolding pkru_of
pkru_few trust o =
    let a = key_bits_few trust o 1 in
    let b = key_bits_few trust o 2 in
    let c = key_bits_few trust o 3 in
    let d = key_bits_few trust o 4 in
    omega (arith, a, b, c, d)

-- bits that are set shut
bits_shut : (i : Bool) (p d : ℕ) → (p / 2 ^ (2 * d)) % 4 ≡ cond i 2 1
    → cond i (opens_write p d) (opens p d) ≡ false
unfolding opens opens_write
bits_shut true p d e = rw e refl
bits_shut false p d e =
    let odd : (p / 2 ^ (2 * d)) % 2 ≡ 1 = omega (arith, e) in rw odd refl

digit_1 : (a b c d : ℕ) → a ≤ 2 → b ≤ 2 → c ≤ 2 → d ≤ 2
    → ((0x55555400 + 4 * a + 16 * b + 64 * c + 256 * d) / 2 ^ (2 * 1)) % 4 ≡ a
digit_1 a b c d p q r s = omega (arith, p, q, r, s)

digit_2 : (a b c d : ℕ) → a ≤ 2 → b ≤ 2 → c ≤ 2 → d ≤ 2
    → ((0x55555400 + 4 * a + 16 * b + 64 * c + 256 * d) / 2 ^ (2 * 2)) % 4 ≡ b
digit_2 a b c d p q r s = omega (arith, p, q, r, s)

digit_3 : (a b c d : ℕ) → a ≤ 2 → b ≤ 2 → c ≤ 2 → d ≤ 2
    → ((0x55555400 + 4 * a + 16 * b + 64 * c + 256 * d) / 2 ^ (2 * 3)) % 4 ≡ c
digit_3 a b c d p q r s = omega (arith, p, q, r, s)

digit_4 : (a b c d : ℕ) → a ≤ 2 → b ≤ 2 → c ≤ 2 → d ≤ 2
    → ((0x55555400 + 4 * a + 16 * b + 64 * c + 256 * d) / 2 ^ (2 * 4)) % 4 ≡ d
digit_4 a b c d p q r s = omega (arith, p, q, r, s)

shut : (trust : TrustValue) (o p key : ℕ) → key ≢ o
    → (p / 2 ^ (2 * key)) % 4 ≡ key_bits trust o key → opens_domain trust p key ≡ false
shut trust o p key n e =
    let k = bits_shut (is_integrity trust key) p key (e ∙ key_bits_other trust o key n) in
    by (is_domain trust key) _ k
  where
    by : (b c : Bool) → c ≡ false → (b && c) ≡ false
    by true c k = k
    by false c k = refl

-- the value that opens one domain opens no other
pub pkru_opens : (trust : TrustValue) (o d : ℕ) → d ≢ o
    → flag_at (opened_domains trust (pkru_of trust o)) d ≡ false
unfolding opened_domains pkru_of
pkru_opens trust o zero n = refl
pkru_opens trust o (suc zero) n =
    shut trust o _ 1 n (digit_1 _ _ _ _ (key_bits_few trust o 1) (key_bits_few trust o 2)
    (key_bits_few trust o 3) (key_bits_few trust o 4))
pkru_opens trust o (suc (suc zero)) n =
    shut trust o _ 2 n (digit_2 _ _ _ _ (key_bits_few trust o 1) (key_bits_few trust o 2)
    (key_bits_few trust o 3) (key_bits_few trust o 4))
pkru_opens trust o (suc (suc (suc zero))) n =
    shut trust o _ 3 n (digit_3 _ _ _ _ (key_bits_few trust o 1) (key_bits_few trust o 2)
    (key_bits_few trust o 3) (key_bits_few trust o 4))
pkru_opens trust o (suc (suc (suc (suc zero)))) n =
    shut trust o _ 4 n (digit_4 _ _ _ _ (key_bits_few trust o 1) (key_bits_few trust o 2)
    (key_bits_few trust o 3) (key_bits_few trust o 4))
pkru_opens trust o (suc (suc (suc (suc (suc d))))) n = refl

pub pkru_at_home : (trust : TrustValue) (o : ℕ)
    → is_set_but o (opened_domains trust (pkru_of trust o)) ≡ false
pkru_at_home trust o = set_but_from o (opened_domains trust (pkru_of trust o)) (pkru_opens trust o)

-- ---- other keys

same_bits : (i : Bool) (p q d : ℕ) → (p / 2 ^ (2 * d)) % 4 ≡ (q / 2 ^ (2 * d)) % 4
    → cond i (opens_write p d) (opens p d) ≡ cond i (opens_write q d) (opens q d)
unfolding opens opens_write
same_bits true p q d e = rw e refl
same_bits false p q d e =
    let low : (p / 2 ^ (2 * d)) % 2 ≡ (q / 2 ^ (2 * d)) % 2 = omega (arith, e) in rw low refl

-- what opens is a matter of the two bits of each domain
pub opened_by : (trust : TrustValue) (p q : ℕ)
    → ((d : ℕ) → is_domain trust d ≡ true → (p / 2 ^ (2 * d)) % 4 ≡ (q / 2 ^ (2 * d)) % 4)
    → opened_domains trust p ≡ opened_domains trust q
unfolding opened_domains
opened_by trust p q same = rw (one 1, one 2, one 3, one 4) refl
  where
    one : (d : ℕ) → opens_domain trust p d ≡ opens_domain trust q d
    one d = elim (cases_Bool (is_domain trust d)) [
      | inr n ↦ rw n refl
      | inl y ↦ rw y (same_bits (is_integrity trust d) p q d (same d y))
    ]

-- a value that opens none closes everywhere
pub pkru_closed : (trust : TrustValue) (k : ℕ)
    → is_set_but k (opened_domains trust (pkru_of trust 0)) ≡ false
pkru_closed trust k = set_but_from k (opened_domains trust (pkru_of trust 0)) by
  where
    by : (d : ℕ) → d ≢ k → flag_at (opened_domains trust (pkru_of trust 0)) d ≡ false
    by zero n = none_first trust (pkru_of trust 0)
    by (suc d) n = pkru_opens trust 0 (suc d) (λ e. absurd (omega (arith, e)))

-- who opens another domain is open
pub outside_open : (trust : TrustValue) (p k : ℕ) → is_set_but k (opened_domains trust p) ≡ true
    → is_set_but 0 (opened_domains trust p) ≡ true
outside_open trust p k out = elim (cases_Bool (is_set_but 0 (opened_domains trust p))) [
  | inl y ↦ y
  | inr n ↦ absurd (let z = set_but_from k (opened_domains trust p) (by n) in
      let y : false ≡ true = sym z ∙ out in cc)
]
  where
    by : is_set_but 0 (opened_domains trust p) ≡ false → (d : ℕ) → d ≢ k
        → flag_at (opened_domains trust p) d ≡ false
    by n zero m = none_first trust p
    by n (suc d) m = set_but_none 0 (suc d) (opened_domains trust p) n (λ e. absurd (omega
        (arith, e)))

-- ---- bits of another key

below : (K m key p bits : ℕ) (f : ℕ → ℕ) → 2 ^ (2 * key) ≡ K * m
    → ((r u v : ℕ) → f (r + K * u) ≡ f (r + K * v)) → f (with_key_rights p key bits) ≡ f p
unfolding with_key_rights
below K m key p bits f e same =
    let x : ℕ = bits + 4 * (p / 2 ^ (2 * key + 2)) in
    let low : ℕ = p % 2 ^ (2 * key) in
    let high : ℕ = p / 2 ^ (2 * key) in
    let old : p ≡ low + K * (m * high) = sym (mod-add-div p (2 ^ (2 * key)))
    ∙ ap (λ n. low + n) (ap (λ n. n * high) e ∙ mul_assoc K m high) in
    let new : low + 2 ^ (2 * key) * x ≡ low + K * (m * x) =
    ap (λ n. low + n) (ap (λ n. n * x) e ∙ mul_assoc K m x) in
    ap f new ∙ same low (m * x) (m * high) ∙ ap f (sym old)

split : (n key : ℕ) → n ≤ 2 * key → 2 ^ (2 * key) ≡ 2 ^ n * 2 ^ (2 * key - n)
split n key l = let e : 2 * key ≡ n + (2 * key - n) = omega (arith, l) in
    ap (λ k. 2 ^ k) e ∙ pow-add 2 n (2 * key - n)

two_three : (p bits : ℕ) → bits < 4
    → (with_key_rights p 2 bits / 2 ^ (2 * 3)) % 4 ≡ (p / 2 ^ (2 * 3)) % 4
unfolding with_key_rights
two_three p bits l = omega (arith, l)

two_four : (p bits : ℕ) → bits < 4
    → (with_key_rights p 2 bits / 2 ^ (2 * 4)) % 4 ≡ (p / 2 ^ (2 * 4)) % 4
unfolding with_key_rights
two_four p bits l = omega (arith, l)

three_four : (p bits : ℕ) → bits < 4
    → (with_key_rights p 3 bits / 2 ^ (2 * 4)) % 4 ≡ (p / 2 ^ (2 * 4)) % 4
unfolding with_key_rights
three_four p bits l = omega (arith, l)

-- rights of a key from 2 on leave the bits of other keys up to 4
other_bits : (p key bits d : ℕ) → 2 ≤ key → bits < 4 → d ≢ key → 1 ≤ d → d ≤ 4
    → (with_key_rights p key bits / 2 ^ (2 * d)) % 4 ≡ (p / 2 ^ (2 * d)) % 4
other_bits p key bits zero l b n low high = absurd (omega (arith, low))
other_bits p key bits (suc zero) l b n low high =
    below 16 (2 ^ (2 * key - 4)) key p bits (λ x. (x / 2 ^ (2 * 1)) % 4)
    (split 4 key (omega (arith, l))) (λ r u v. omega arith)
other_bits p key bits (suc (suc zero)) l b n low high =
    let m : 3 ≤ key = omega (arith, l, n) in
    below 64 (2 ^ (2 * key - 6)) key p bits (λ x. (x / 2 ^ (2 * 2)) % 4)
    (split 6 key (omega (arith, m))) (λ r u v. omega arith)
other_bits p key bits (suc (suc (suc zero))) l b n low high = elim (cases_lt key 3) [
  | inl less ↦ (let e : key ≡ 2 = omega (arith, l, less) in rw e (two_three p bits b))
  | inr more ↦ (let m : 4 ≤ key = omega (arith, more, n) in
      below 256 (2 ^ (2 * key - 8)) key p bits (λ x. (x / 2 ^ (2 * 3)) % 4)
      (split 8 key (omega (arith, m))) (λ r u v. omega arith))
]
other_bits p key bits (suc (suc (suc (suc zero)))) l b n low high = elim (cases_lt key 4) [
  | inl less ↦ elim (cases_lt key 3) [
    | inl few ↦ (let e : key ≡ 2 = omega (arith, l, few) in rw e (two_four p bits b))
    | inr more ↦ (let e : key ≡ 3 = omega (arith, less, more) in rw e (three_four p bits b))
  ]
  | inr more ↦ (let m : 5 ≤ key = omega (arith, more, n) in
      below 1024 (2 ^ (2 * key - 10)) key p bits (λ x. (x / 2 ^ (2 * 4)) % 4)
      (split 10 key (omega (arith, m))) (λ r u v. omega arith))
]
other_bits p key bits (suc (suc (suc (suc (suc d))))) l b n low high = absurd (omega (arith, high))

-- the keys that are domains
pub domain_range : (image : List ℕ) (d : ℕ) → is_domain (image_trust image) d ≡ true
    → (1 ≤ d) × (d ≤ 4)
unfolding image_trust
domain_range image zero h = absurd cc
domain_range image (suc zero) h = (omega arith, omega arith)
domain_range image (suc (suc zero)) h = (omega arith, omega arith)
domain_range image (suc (suc (suc zero))) h = (omega arith, omega arith)
domain_range image (suc (suc (suc (suc zero)))) h = (omega arith, omega arith)
domain_range image (suc (suc (suc (suc (suc d))))) h = absurd cc

-- rights of a key that is no domain open and close none
pub rights_opened : (image : List ℕ) (p key bits : ℕ) → 2 ≤ key → bits < 4
    → ((d : ℕ) → is_domain (image_trust image) d ≡ true → d ≢ key)
    → opened_domains (image_trust image) (with_key_rights p key bits)
    ≡ opened_domains (image_trust image) p
rights_opened image p key bits l b n =
    opened_by (image_trust image) (with_key_rights p key bits) p
    (λ d is. let r = domain_range image d is in other_bits p key bits d l b (n d is) r.0 r.1)

-- ---- as the code asks it

-- each flag but one
pub set_but_flags : (trust : TrustValue) (p k : ℕ)
    → is_set_but k (opened_domains trust p) ≡ ((not (eqb k 1) && opens_domain trust p 1)
    || ((not (eqb k 2) && opens_domain trust p 2)
    || ((not (eqb k 3) && opens_domain trust p 3) || (not (eqb k 4) && opens_domain trust p 4))))
unfolding is_set_but opened_domains
set_but_flags trust p k = by k (opens_domain trust p 1) (opens_domain trust p 2)
    (opens_domain trust p 3) (opens_domain trust p 4)
  where
    last : (d : Bool) → (d || false) ≡ d
    last true = refl
    last false = refl

    by : (k : ℕ) (a b c d : Bool) → is_set_but k (false ∷ a ∷ b ∷ c ∷ d ∷ [])
        ≡ ((not (eqb k 1) && a) || ((not (eqb k 2) && b)
        || ((not (eqb k 3) && c) || (not (eqb k 4) && d))))
    by zero a b c d = ap (λ x. a || (b || (c || x))) (last d)
    by (suc zero) a b c d = ap (λ x. b || (c || x)) (last d)
    by (suc (suc zero)) a b c d = ap (λ x. a || (c || x)) (last d)
    by (suc (suc (suc zero))) a b c d = ap (λ x. a || (b || x)) (last d)
    by (suc (suc (suc (suc zero)))) a b c d = refl
    by (suc (suc (suc (suc (suc k))))) a b c d =
        rw (
          ne_eqb (suc (suc (suc (suc (suc k))))) 1 (omega arith),
          ne_eqb (suc (suc (suc (suc (suc k))))) 2 (omega arith),
          ne_eqb (suc (suc (suc (suc (suc k))))) 3 (omega arith),
          ne_eqb (suc (suc (suc (suc (suc k))))) 4 (omega arith),
        )
        (ap (λ x. a || (b || (c || x))) (last d))

-- ---- the key beside an element, by places

keys_out : {X : Type 0} (test : X → Bool) (xs : List X) → key_beside test xs [] ≡ 0
keys_out test [] = refl
keys_out test (x ∷ xs) = refl

pub beside_here : {X : Type 0} (test : X → Bool) (d : X) (xs : List X) (keys : List ℕ) (i : ℕ)
    → i < length xs → test (get_or xs i d) ≡ true
    → key_beside test (drop i xs) (drop i keys) ≡ get_or keys i 0
beside_here test d [] keys i low h = absurd (omega (arith, low))
beside_here test d (x ∷ xs) [] zero low h = refl
beside_here test d (x ∷ xs) (k ∷ keys) zero low h = rw h refl
beside_here test d (x ∷ xs) [] (suc i) low h = keys_out test (drop i xs)
beside_here test d (x ∷ xs) (k ∷ keys) (suc i) low h =
    beside_here test d xs keys i (omega (arith, low)) h

pub beside_later : {X : Type 0} (test : X → Bool) (d : X) (xs : List X) (keys : List ℕ) (i : ℕ)
    → i < length xs → test (get_or xs i d) ≡ false
    → key_beside test (drop i xs) (drop i keys) ≡ key_beside test (drop (suc i) xs) (drop
    (suc i) keys)
beside_later test d [] keys i low h = absurd (omega (arith, low))
beside_later test d (x ∷ xs) [] zero low h = sym (keys_out test xs)
beside_later test d (x ∷ xs) (k ∷ keys) zero low h = rw h refl
beside_later test d (x ∷ xs) [] (suc i) low h =
    keys_out test (drop i xs) ∙ sym (keys_out test (drop (suc i) xs))
beside_later test d (x ∷ xs) (k ∷ keys) (suc i) low h =
    beside_later test d xs keys i (omega (arith, low)) h

pub beside_next : {X : Type 0} (test : X → Bool) (d : X) (xs : List X) (keys : List ℕ) (i : ℕ)
    → i < length xs → test (get_or xs i d) ≡ false
    → key_beside test (drop i xs) (drop i keys) ≡ key_beside test (drop (i + 1) xs) (drop
    (i + 1) keys)
beside_next test d xs keys i low h =
    let e : i + 1 ≡ suc i = omega arith in rw e (beside_later test d xs keys i low h)

pub beside_none : {X : Type 0} (test : X → Bool) (xs : List X) (keys : List ℕ) (i : ℕ)
    → length xs ≤ i → key_beside test (drop i xs) (drop i keys) ≡ 0
beside_none test [] keys zero low = refl
beside_none test [] keys (suc i) low = refl
beside_none test (x ∷ xs) keys zero low = absurd (omega (arith, low))
beside_none test (x ∷ xs) [] (suc i) low = keys_out test (drop i xs)
beside_none test (x ∷ xs) (k ∷ keys) (suc i) low = beside_none test xs keys i (omega (arith, low))
