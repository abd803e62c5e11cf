-- Tests of some address of a range.
use Rattle.std.proofs.Common.{◌≡◌, ℕ, zero, suc, ◌+◌, ◌-◌, ◌<◌, ◌≤◌}
use Rattle.std.proofs.Common.{Bool, true, false, refl, ap, arith}
use Rattle.std.specs.List.{list_any}
use Rattle.erim_defs.specs.Rewriting.Sites.{addresses}

-- ---- the addresses of a range from the i-th on

pub here : (t : ℕ → Bool) (a n i : ℕ) → i < n → t (a + i) ≡ true
    → list_any t (addresses (a + i) (n - i)) ≡ true
unfolding addresses
here t a n i lt h = by (n - i) (omega (arith, lt))
  where
    by : (k : ℕ) → 0 < k → list_any t (addresses (a + i) k) ≡ true
    by zero p = absurd (omega (arith, p))
    by (suc k) p = rw h refl

pub not_here : (t : ℕ → Bool) (a n i : ℕ) → i < n → t (a + i) ≡ false
    → list_any t (addresses (a + i) (n - i)) ≡ list_any t (addresses (a + (i + 1)) (n - (i + 1)))
unfolding addresses
not_here t a n i lt h = by (n - i) (n - (i + 1)) (omega (arith, lt))
  where
    by : (k j : ℕ) → k ≡ suc j
        → list_any t (addresses (a + i) k) ≡ list_any t (addresses (a + (i + 1)) j)
    by k j e =
        let next : suc (a + i) ≡ a + (i + 1) = omega arith in
        rw (e, h) (ap (λ b. list_any t (addresses b j)) next)

pub at_end : (t : ℕ → Bool) (a n i : ℕ) → n ≤ i → list_any t (addresses (a + i) (n - i)) ≡ false
unfolding addresses
at_end t a n i le = (let none : n - i ≡ 0 = omega (arith, le) in rw none refl)
