-- An access that is asked byte by byte.
use Rattle.std.proofs.Common.{◌≡◌, ℕ, suc, ◌+◌, ◌-◌, ◌<◌, ◌≤◌, ◌^◌, ◌∙◌, Option, Some, None, Result}
use Rattle.std.proofs.Common.{Bool, true, false, sym, ap, refl, arith, inl, inr}
use Rattle.std.specs.Prelude.{is_none, is_err}
use Rattle.std.proofs.lemmas.Bool.{le-ltb, cases_lt}
use Rattle.erim_defs.specs.declared.machine.Access.{Access}
use Rattle.erim_defs.specs.Machine.Pages.{ByteMap, word}
use Rattle.erim_defs.specs.Machine.Access.{Seen, stop, stop_at}
use Rattle.erim_defs.specs.Inspection.Code.{or_else}
use Rattle.page_store.specs.Answers.{load_of, or_stop}

-- the byte at i, and then the rest
pub stop_next : (seen : Seen) (w : Bool) (pkru a n i : ℕ) → i < n
    → stop seen w pkru (a + i) (n - i)
    ≡ or_else (stop_at seen w pkru (a + i)) (stop seen w pkru (a + (i + 1)) (n - (i + 1)))
unfolding stop
stop_next seen w pkru a n i lt =
    let left : n - i ≡ suc (n - (i + 1)) = omega arith in
    let next : suc (a + i) ≡ a + (i + 1) = omega arith in
    rw (left, next) refl

pub stop_nothing : (seen : Seen) (w : Bool) (pkru a n i : ℕ) → n ≤ i
    → stop seen w pkru a (n - i) ≡ None
unfolding stop
stop_nothing seen w pkru a n i le =
    let left : n - i ≡ 0 = omega arith in
    rw left refl

-- what one byte's load says
pub load_one : (seen : Seen) (bytes : ByteMap) (pkru a : ℕ) (r : Result ℕ Access)
    → r ≡ load_of seen bytes pkru a 1 → is_err r ≡ false → stop_at seen false pkru a ≡ None
unfolding stop
load_one seen bytes pkru a r e ok = by (stop_at seen false pkru a) (sym (ap (λ x. is_err x) e) ∙ ok)
  where
    by : (o : Option Access) → is_err (or_stop {X = ℕ} (or_else o None) (word bytes a 1)) ≡ false
        → o ≡ None
    by None h = refl
    by (Some s) h = absurd cc

pub load_none : (seen : Seen) (bytes : ByteMap) (pkru a : ℕ) (r : Result ℕ Access)
    (rest : Option Access) → r ≡ load_of seen bytes pkru a 1 → is_err r ≡ true
    → is_none (or_else (stop_at seen false pkru a) rest) ≡ false
unfolding stop
load_none seen bytes pkru a r rest e ok =
    by (stop_at seen false pkru a) (sym (ap (λ x. is_err x) e) ∙ ok)
  where
    by : (o : Option Access) → is_err (or_stop {X = ℕ} (or_else o None) (word bytes a 1)) ≡ true
        → is_none (or_else o rest) ≡ false
    by None h = absurd cc
    by (Some s) h = refl

-- no user address
pub stop_high : (seen : Seen) (w : Bool) (pkru a : ℕ) (rest : Option Access) → 2 ^ 47 ≤ a
    → is_none (or_else (stop_at seen w pkru a) rest) ≡ false
stop_high seen w pkru a rest high = rw (le-ltb a (2 ^ 47) high) refl

pub not_below : (a b : ℕ) → (a < b → ⊥) → b ≤ a
not_below a b never = elim (cases_lt a b) [ inl lt ↦ absurd (never lt) | inr le ↦ le ]
