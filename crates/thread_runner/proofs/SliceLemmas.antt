-- Which thread comes next: the live thread with the least number from one on, and the next time
-- slice.
use Rattle.std.proofs.Common.{◌≡◌, ℕ, ◌+◌, ◌-◌, ◌<◌, suc, true, false, Option}
use Rattle.std.proofs.Common.{Some, None, List, [], ◌∷◌, length, refl, sym, subst, arith, inl}
use Rattle.std.proofs.Common.{inr}
use Rattle.std.proofs.lemmas.Bool.{cases_Bool, le-leb, and_parts}
use Rattle.std.specs.Prelude.{◌&&◌, IfNone, IfSome, nat_le, nat_lt, option_map}
use Rattle.erim_defs.specs.declared.machine.Thread.{Thread}
use Rattle.erim_defs.specs.Inspection.Code.{or_else}
use Rattle.erim_defs.specs.Machine.State.{any_live}
use Rattle.erim_defs.proofs.LeastLemmas.{least_holds, least_never}
use Rattle.erim_defs.specs.declared.time_slice.TimeSlice.{TimeSlice}
use Rattle.erim_defs.specs.Machine.TimeSlices.{is_live_at, live_from, live_after, new_slice}
use Rattle.erim_defs.specs.Machine.TimeSlices.{slice_after}

-- ---- the least live thread from a number on

-- what is found is live
from_live : (threads : List Thread) (first t : ℕ) → live_from threads first ≡ Some t
    → is_live_at threads t ≡ true
from_live threads first t found =
    (and_parts _ _ (least_holds (length threads) t
    (λ k. nat_le first k && is_live_at threads k) found)).1

behind_live : (threads : List Thread) (first second t : ℕ)
    → or_else (live_from threads first) (live_from threads second) ≡ Some t
    → is_live_at threads t ≡ true
behind_live threads first second t found =
    by (live_from threads first) (λ e. from_live threads first t e) found
  where
    by : (o : Option ℕ) → (o ≡ Some t → is_live_at threads t ≡ true)
        → or_else o (live_from threads second) ≡ Some t → is_live_at threads t ≡ true
    by None e h = from_live threads second t h
    by (Some a) e h = e h

-- a list of threads of which none is live
none_live : (threads : List Thread) → any_live threads ≡ true
    → ((t : ℕ) → t < length threads → is_live_at threads t ≡ false) → ⊥
unfolding any_live
none_live [] any none = cc
none_live (thread ∷ threads) any none =
    elim (cases_Bool thread.live) [
      | inl live ↦ (let k : true ≡ false = rw live at none 0 (omega arith) in cc)
      | inr ended ↦ none_live threads (rw ended at any) (λ t low. none (suc t) (omega arith))
    ]

-- ---- the next time slice

new_live : (quantum : ℕ) (threads : List Thread) (o : Option ℕ) (next : TimeSlice)
    → ((t : ℕ) → o ≡ Some t → is_live_at threads t ≡ true)
    → option_map (new_slice quantum) o ≡ Some next → is_live_at threads next.thread ≡ true
new_live quantum threads None next f h = absurd cc
new_live quantum threads (Some t) next f h =
    let same : t ≡ next.thread = cc in
    subst (λ (x : ℕ). is_live_at threads x ≡ true) same (f t refl)

-- the thread whose time slice comes next is live
slice_live : (quantum : ℕ) (threads : List Thread) (slice next : TimeSlice)
    → slice_after quantum threads slice ≡ Some next → is_live_at threads next.thread ≡ true
slice_live quantum threads slice next h =
    elim (cases_Bool (is_live_at threads slice.thread && nat_lt 0 slice.left)) [
      | inl same ↦
          (let again : TimeSlice = record { thread = slice.thread; left = slice.left - 1 } in
          let e : Some again ≡ Some next = rw same at h in
          let P : TimeSlice → Type 0 = λ x. is_live_at threads x.thread ≡ true in
          subst P (slice_same again next e) (and_parts _ _ same).0)
      | inr other ↦ new_live quantum threads (live_after threads slice.thread) next
          (behind_live threads (slice.thread + 1) 0) (rw other at h)
    ]
  where
    slice_same : (a b : TimeSlice) → Some a ≡ Some b → a ≡ b
    slice_same a b e = cc

new_there : (quantum : ℕ) (o : Option ℕ) → option_map (new_slice quantum) o ≡ None → o ≡ None
new_there quantum None h = refl
new_there quantum (Some t) h = absurd cc

second_none : (first second : Option ℕ) → or_else first second ≡ None → second ≡ None
second_none None second h = h
second_none (Some t) second h = absurd cc

-- where a thread is live one of them comes next
slice_there : (quantum : ℕ) (threads : List Thread) (slice : TimeSlice) → any_live threads ≡ true
    → slice_after quantum threads slice ≡ None → ⊥
slice_there quantum threads slice any h =
    elim (cases_Bool (is_live_at threads slice.thread && nat_lt 0 slice.left)) [
      | inl same ↦
          (let again : TimeSlice = record { thread = slice.thread; left = slice.left - 1 } in
          let e : Some again ≡ None = rw same at h in cc)
      | inr other ↦
          (let behind = new_there quantum (live_after threads slice.thread) (rw other at h) in
          let after = live_from threads (slice.thread + 1) in
          let none = second_none after (live_from threads 0) behind in
          none_live threads any (λ t low. rw (le-leb 0 t (omega arith)) at
          (least_never (length threads) t (λ k. nat_le 0 k && is_live_at threads k) none low)))
    ]

-- ... so where none comes next anything follows
pub slice_or_none : (quantum : ℕ) (threads : List Thread) (slice : TimeSlice) (o : Option TimeSlice)
    (P : Type 0) → any_live threads ≡ true → o ≡ slice_after quantum threads slice → IfNone o P
slice_or_none quantum threads slice None P any e =
    absurd (slice_there quantum threads slice any (sym e))
slice_or_none quantum threads slice (Some next) P any e = tt

-- the thread of the time slice that comes next, if one does, is live
pub slice_or_live : (quantum : ℕ) (threads : List Thread) (slice : TimeSlice) (o : Option TimeSlice)
    → o ≡ slice_after quantum threads slice
    → IfSome o (λ next. is_live_at threads next.thread ≡ true)
slice_or_live quantum threads slice None e = tt
slice_or_live quantum threads slice (Some next) e = slice_live quantum threads slice next (sym e)
