-- How the numbers of a header are got, one after the other.
use Rattle.std.proofs.Common.{◌≡◌, ℕ, ◌+◌, ◌-◌, ◌*◌, ◌%◌, ◌^◌, ◌<◌, List, [], ◌∷◌, ◌++◌, Result, Ok}
use Rattle.std.proofs.Common.{Err, suc, length, take, set, refl, ◌∙◌, append_assoc, arith}
use Rattle.std.proofs.lemmas.List.{append-nil, take_more_set, take_all}
use Rattle.erim_defs.specs.declared.machine.Thread.{Thread}
use Rattle.erim_defs.specs.declared.machine.Access.{Access}
use Rattle.erim_defs.specs.Machine.Plan.{Plan, Ask}
use Rattle.erim_defs.specs.Machine.Meaning.{on_numbers}
use Rattle.page_store.specs.declared.memory.Memory.{Ghosts}
use Rattle.x86_step.specs.Executes.{Executes, Gets, GetsNumbers}

-- the first i of the 8 numbers from an address on were got
abbrev pub GotSome : {M : Type 0} → Ghosts M → ℕ → ℕ → List ℕ → Thread → M → M → Type 0
GotSome {M} g i a xs t memory after =
    (k : List ℕ → Plan) (to : Thread) (last : M) (r : Result (Unit {0}) Access)
    → Executes g (on_numbers (8 - i) (a + 8 * i) (λ ys. k (take i xs ++ ys))) t to after last r
    → Executes g (on_numbers 8 a k) t to memory last r

pub got_none : {M : Type 0} (g : Ghosts M) (a : ℕ) (xs : List ℕ) (t : Thread) (memory : M)
    → GotSome g 0 a xs t memory memory
got_none g a xs t memory = λ k to last r e.
    let h : a + 8 * 0 ≡ a = omega arith in rw h at e

-- what comes next of them
next_of : (i a : ℕ) (k : List ℕ → Plan) → i < 8
    → on_numbers (8 - i) a k
    ≡ Ask (a % 2 ^ 64) 8 (λ x. on_numbers (8 - (i + 1)) (a + 8) (λ xs. k (x ∷ xs)))
unfolding on_numbers
next_of i a k h = let e : 8 - i ≡ suc (8 - (i + 1)) = omega arith in rw e refl

-- one more
pub got_more : {M : Type 0} (g : Ghosts M) (i a b x : ℕ) (xs : List ℕ) (t : Thread)
    (memory mid after : M) → i < 8 → i < length xs → b ≡ (a + 8 * i) % 2 ^ 64
    → GotSome g i a xs t memory mid → Gets g (λ k. Ask b 8 k) t mid after (Ok x)
    → GotSome g (i + 1) a (set xs i x) t memory after
got_more g i a b x xs t memory mid after n m o h q = λ k to last r e. h k to last r (
    rw (next_of i (a + 8 * i) (λ ys. k (take i xs ++ ys)) n, ← o) (q _ _ _ _ (
    let at : a + 8 * (i + 1) ≡ a + 8 * i + 8 = omega arith in
    simp (take_more_set xs i x m, append_assoc, at) at e)))

-- one that isn't
pub not_got : {M : Type 0} (g : Ghosts M) (i a b : ℕ) (xs : List ℕ) (s : Access) (t : Thread)
    (memory mid after : M) → i < 8 → b ≡ (a + 8 * i) % 2 ^ 64
    → GotSome g i a xs t memory mid → Gets g (λ k. Ask b 8 k) t mid after (Err s)
    → GetsNumbers g (λ k. on_numbers 8 a k) t memory after (Err s)
not_got g i a b xs s t memory mid after n o h q = λ k. h k t after (Err s) (
    rw (next_of i (a + 8 * i) (λ ys. k (take i xs ++ ys)) n, ← o) (q _))

-- all of them
pub got_all : {M : Type 0} (g : Ghosts M) (a : ℕ) (xs : List ℕ) (t : Thread) (memory after : M)
    → length xs ≡ 8 → GotSome g 8 a xs t memory after
    → GetsNumbers g (λ k. on_numbers 8 a k) t memory after (Ok xs)
unfolding on_numbers
got_all g a xs t memory after n h = λ k to last r e. h k to last r (
    let all : take 8 xs ++ [] ≡ xs = append-nil (take 8 xs) ∙ take_all 8 xs (omega arith) in
    rw all e)
