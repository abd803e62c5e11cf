-- Whether a process can go on, and by which threads.
use Rattle.std.proofs.Common.{◌≡◌, ℕ, ◌<◌, ◌≤◌, suc, Bool, true, false, Option, Some, None, List}
use Rattle.std.proofs.Common.{[], ◌∷◌, length, refl, sym, ◌∙◌, arith, inl, inr, eqb-true}
use Rattle.std.proofs.lemmas.Bool.{cases_Bool, cases_lt, le-leb, lt-leb, or_cases}
use Rattle.std.proofs.lemmas.Bool.{eqb-false, or_parts}
use Rattle.std.specs.Prelude.{◌&&◌, nat_le, slice_get, is_some}
use Rattle.erim_defs.specs.declared.machine.Thread.{Thread}
use Rattle.erim_defs.specs.declared.stepped.Stepped.TheVariants.{Made}
use Rattle.erim_defs.specs.Machine.Replay.{IsOver}
use Rattle.erim_defs.specs.Machine.ReplayFaults.{is_over}
use Rattle.erim_defs.specs.Machine.State.{State, any_live}
use Rattle.erim_defs.specs.Machine.Step.{if_live}
use Rattle.erim_defs.specs.Machine.StepAnswers.{step_answer, live_answer}
use Rattle.erim_defs.specs.Machine.TimeSlices.{is_live_at, live_from}
use Rattle.erim_defs.proofs.LeastLemmas.{least_found, least_none}

-- ---- over

pub over_is : (s : State) → is_over s ≡ true → IsOver s
over_is s h = elim (or_cases _ _ h) [
  | inl end ↦ inl end
  | inr spent ↦ inr (eqb-true s.steps s.setup.budget spent)
]

-- ---- the least live thread from a number on

-- a thread that isn't live, or has a number below the first
passed : (threads : List Thread) (first k : ℕ)
    → (first ≤ k → is_live_at threads k ≡ false)
    → (nat_le first k && is_live_at threads k) ≡ false
passed threads first k f = elim (cases_lt k first) [
  | inl low ↦ rw (lt-leb first k low) refl
  | inr in_range ↦ rw (le-leb first k in_range, f in_range) refl
]

-- the first one that is live
pub live_here : (threads : List Thread) (first t : ℕ) → first ≤ t → t < length threads
    → is_live_at threads t ≡ true
    → ((k : ℕ) → first ≤ k → k < t → is_live_at threads k ≡ false)
    → live_from threads first ≡ Some t
live_here threads first t from low live before =
    least_found (length threads) t (λ k. nat_le first k && is_live_at threads k) low
    (rw (le-leb first t from, live) refl)
    (λ k below. passed threads first k (λ in_range. before k in_range below))

-- no thread from there on is live
pub live_nowhere : (threads : List Thread) (first : ℕ)
    → ((k : ℕ) → first ≤ k → k < length threads → is_live_at threads k ≡ false)
    → live_from threads first ≡ None
live_nowhere threads first none =
    least_none (length threads) (λ k. nat_le first k && is_live_at threads k)
    (λ k below. passed threads first k (λ in_range. none k in_range below))

-- a list of threads of which none is live
pub none_live : (threads : List Thread) → any_live threads ≡ true
    → ((t : ℕ) → t < length threads → is_live_at threads t ≡ false) → ⊥
unfolding any_live
none_live [] any none = cc
none_live (thread ∷ threads) any none =
    elim (cases_Bool thread.live) [
      | inl live ↦ (let k : true ≡ false = rw live at none 0 (omega arith) in cc)
      | inr ended ↦ none_live threads (rw ended at any) (λ t low. none (suc t) (omega arith))
    ]

-- ---- the step of a live thread

live_made : (o : Option Thread) → is_some o ≡ true → live_answer o ≡ Made
live_made None h = absurd cc
live_made (Some t) h = refl

-- steps are left where the process isn't over
pub steps_left : (s : State) → is_over s ≡ false → s.steps ≤ s.setup.budget
    → s.steps < s.setup.budget
steps_left s runs within = elim (cases_lt s.steps s.setup.budget) [
  | inl low ↦ low
  | inr spent ↦ absurd (eqb-false s.steps s.setup.budget (or_parts _ _ runs).1 (omega arith))
]

-- is made, where the process isn't over and no more steps were made than its budget
pub made_now : (s : State) (t : ℕ) → is_over s ≡ false → s.steps ≤ s.setup.budget
    → is_live_at s.threads t ≡ true → step_answer s t ≡ Made
made_now s t runs within live =
    let no_end : is_some s.end ≡ false = (or_parts (is_some s.end) _ runs).0 in
    rw (no_end, lt-leb s.setup.budget s.steps (steps_left s runs within))
    (live_made (if_live (slice_get s.threads t)) live)
