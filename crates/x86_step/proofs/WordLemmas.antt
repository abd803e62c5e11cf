-- Numbers that are loaded fit their bytes.
use Rattle.std.proofs.Common.{◌≡◌, ◌<◌, ◌+◌, ◌*◌, ◌/◌, ◌%◌, ◌^◌, ℕ, zero, suc, Option, Some, None}
use Rattle.std.proofs.Common.{Result}
use Rattle.std.proofs.Common.{Ok, Err, IfOk, arith, ap, ◌∙◌, ◌≤◌, ◌-◌}
use Rattle.std.proofs.lemmas.Nat.{pow-add}
use Rattle.erim_defs.specs.declared.machine.Access.{Access}
use Rattle.erim_defs.specs.Machine.Pages.{ByteMap, word}
use Rattle.page_store.specs.Answers.{or_stop, byte_at, HasBytes}

byte_at_below : (v i : ℕ) → byte_at v i < 256
unfolding byte_at
byte_at_below v zero = omega arith
byte_at_below v (suc i) = byte_at_below (v / 256) i

word_below : (bytes : ByteMap) (a n : ℕ) → ((i : ℕ) → i < n → bytes (a + i) < 256)
    → word bytes a n < 2 ^ (8 * n)
unfolding word
word_below bytes a zero h = omega arith
word_below bytes a (suc n) h =
    let first : bytes a < 256 = (let k : bytes (a + 0) < 256 = h 0 (omega arith) in
    let z : a + 0 ≡ a = omega arith in rw z at k) in
    let rest : word bytes (suc a) n < 2 ^ (8 * n) = word_below bytes (suc a) n (λ i l.
    let e : suc a + i ≡ a + suc i = omega arith in rw e (h (suc i) (omega arith))) in
    let e : 2 ^ (8 * suc n) ≡ 256 * 2 ^ (8 * n) =
    ap (λ i. 2 ^ i) (let j : 8 * suc n ≡ 8 + 8 * n = omega arith in j) ∙ pow-add 2 8 (8 * n) in
    omega arith

pub load_fits : (o : Option Access) (bytes : ByteMap) (a n : ℕ) (r : Result ℕ Access)
    → r ≡ or_stop o (word bytes a n) → IfOk r (HasBytes bytes a n) → IfOk r (λ v. v < 2 ^ (8 * n))
load_fits (Some s) bytes a n (Ok v) e h = absurd (cc)
load_fits None bytes a n (Ok v) e h =
    let same : v ≡ word bytes a n = cc in
    rw same (word_below bytes a n (λ i l. rw (h i l) (byte_at_below v i)))
load_fits o bytes a n (Err s) e h = tt

-- a number times a power of two from 2^64 on is 0 modulo 2^64
pub scaled_out : (x s : ℕ) → 64 ≤ s → 0 ≡ (x * 2 ^ s) % 2 ^ 64
scaled_out x s h =
    let e : s ≡ (s - 64) + 64 = omega arith in
    let f : x * 2 ^ s ≡ (x * 2 ^ (s - 64)) * 2 ^ 64 =
    ap (λ i. x * 2 ^ i) e ∙ ap (λ y. x * y) (pow-add 2 (s - 64) 64) ∙ omega arith in
    omega (arith, f)
