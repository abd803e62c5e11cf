-- One more entry, and the steps of all workers together.
use Rattle.std.proofs.Common.{◌≡◌, ◌≢◌, ◌<◌, ◌≤◌, ◌+◌, ◌++◌, ◌∷◌, ◌∙◌, ◌==◌, ℕ, zero, suc}
use Rattle.std.proofs.Common.{List, [], Bool, true, false, cond, eqb, refl, ap, arith, inl, inr}
use Rattle.std.proofs.Common.{eq-eqb, ne_eqb}
use Rattle.std.proofs.lemmas.Bool.{cases_Bool, eqb-true, and_parts, leb-true}
use Rattle.std.proofs.lemmas.Bool.Decides.{nat_tests}
use Rattle.std.proofs.lemmas.List.Sums.{sum_by-cons}
use Rattle.std.specs.Prelude.{filter, map, sum}
use Rattle.erim_defs.specs.declared.machine.Entry.{Entry}
use Rattle.erim_defs.specs.Machine.State.{State}
use Rattle.erim_defs.specs.Output.Report.{steps_of_worker}
use Rattle.erim_defs.specs.Output.Journal.{AreEntries}
use Rattle.erim_defs.specs.Machine.Replay.{replay}
use Rattle.erim_defs.specs.Machine.Start.{first_state}
use Rattle.erim_process.specs.ProcessValue.{ProcessValue, state_of}
use Rattle.publish_lock.specs.Rules.{are_of_workers, counts_of, is_summed}

sum_more : (x : ℕ) (xs : List ℕ) → sum (x ∷ xs) ≡ x + sum xs
sum_more x xs = sum_by-cons (λ (y : ℕ). y) x xs

-- the steps of a worker: those of the first entry and of the others
worker_steps : (w : ℕ) (e : Entry) (es : List Entry)
    → steps_of_worker (e ∷ es) w ≡ cond (eqb e.worker w) e.count 0 + steps_of_worker es w
worker_steps w e es = elim (cases_Bool (eqb e.worker w)) [
  | inl its ↦ rw its (sum_more e.count (map (λ (x : Entry). x.count)
      (filter (λ (x : Entry). x.worker == w) es)))
  | inr other ↦ rw other (omega arith)
]

worker_more : (w : ℕ) (es : List Entry) (e : Entry)
    → steps_of_worker (es ++ e ∷ []) w ≡ steps_of_worker es w + cond (eqb e.worker w) e.count 0
worker_more w [] e = (let a = worker_steps w e [] in omega (arith, a))
worker_more w (x ∷ es) e =
    let a = worker_steps w x (es ++ e ∷ []) in
    let b = worker_steps w x es in
    let c = worker_more w es e in
    omega (arith, a, b, c)

pub under_own : (w : ℕ) (old new : List Entry) (e : Entry) → new ≡ old ++ e ∷ []
    → e.worker ≡ w → steps_of_worker new w ≡ steps_of_worker old w + e.count
under_own w old new e is own = ap (λ (es : List Entry). steps_of_worker es w) is
    ∙ worker_more w old e ∙ rw (eq-eqb e.worker w own) refl

pub under_other : (w : ℕ) (old new : List Entry) (e : Entry) → new ≡ old ++ e ∷ []
    → e.worker ≢ w → steps_of_worker new w ≡ steps_of_worker old w
under_other w old new e is other = ap (λ (es : List Entry). steps_of_worker es w) is
    ∙ worker_more w old e ∙ rw (ne_eqb e.worker w other) (omega arith)

workers_and : (most : ℕ) (es : List Entry) (e : Entry) → 0 < e.worker → e.worker ≤ most
    → are_of_workers most es ≡ true → are_of_workers most (es ++ e ∷ []) ≡ true
workers_and most [] e some few h = grind (arith, nat_tests)
workers_and most (x ∷ es) e some few h =
    let k : are_of_workers most (es ++ e ∷ []) ≡ true =
    workers_and most es e some few (grind (arith, nat_tests)) in
    grind (arith, nat_tests, k)

pub workers_more : (most : ℕ) (old new : List Entry) (e : Entry) → new ≡ old ++ e ∷ []
    → 0 < e.worker → e.worker ≤ most → are_of_workers most old ≡ true
    → are_of_workers most new ≡ true
workers_more most old new e is some few h =
    ap (are_of_workers most) is ∙ workers_and most old e some few h

-- ---- all steps

abbrev pub all_steps : List Entry → ℕ
all_steps es = sum (map (λ (e : Entry). e.count) es)

all_more : (es : List Entry) (e : Entry) → all_steps (es ++ e ∷ []) ≡ all_steps es + e.count
all_more [] e = (let a = sum_more e.count [] in omega (arith, a))
all_more (x ∷ es) e =
    let a = sum_more x.count (map (λ (e : Entry). e.count) (es ++ e ∷ [])) in
    let b = sum_more x.count (map (λ (e : Entry). e.count) es) in
    let c = all_more es e in
    omega (arith, a, b, c)

pub summed_more : (old new : List Entry) (e : Entry) (s t : State) → new ≡ old ++ e ∷ []
    → e.count ≡ 1 → t.steps ≡ s.steps + 1 → is_summed old s ≡ true → is_summed new t ≡ true
summed_more old new e s t is one counted h =
    let a = ap all_steps is ∙ all_more old e in
    let b = eqb-true (all_steps old) s.steps h in
    eq-eqb (all_steps new) t.steps (omega (arith, a, b, one, counted))

part_or_none : (b : Bool) (n : ℕ) → cond b n 0 ≤ n
part_or_none true n = omega arith
part_or_none false n = omega arith

-- a worker made no more steps than all
pub under_all : (w : ℕ) (es : List Entry) → steps_of_worker es w ≤ all_steps es
under_all w [] = omega arith
under_all w (e ∷ es) =
    let h = under_all w es in
    let a = worker_steps w e es in
    let b = sum_more e.count (map (λ (e : Entry). e.count) es) in
    let c = part_or_none (eqb e.worker w) e.count in
    omega (arith, a, b, c, h)

pub few_steps : (w : ℕ) (es : List Entry) (s : State) → is_summed es s ≡ true
    → steps_of_worker es w ≤ s.steps
few_steps w es s h =
    let a = under_all w es in
    let b = eqb-true (all_steps es) s.steps h in
    omega (arith, a, b)

-- a process that was just started has made no step
pub started_summed : (p : ProcessValue) → p.journal ≡ [] → is_summed p.journal (state_of p) ≡ true
unfolding state_of replay first_state
started_summed p none = rw none refl

-- ---- the steps of all workers together

-- a number that stands in the place of a worker's
abbrev in_place : ℕ → ℕ → ℕ → ℕ
in_place worker n w = cond (eqb worker w) n 0

nine_places : (worker n : ℕ) → worker ≤ 8
    → in_place worker n 0 + (in_place worker n 1 + (in_place worker n 2 + (in_place worker n 3
    + (in_place worker n 4 + (in_place worker n 5 + (in_place worker n 6 + (in_place worker n 7
    + in_place worker n 8))))))) ≡ n
nine_places zero n low = omega arith
nine_places (suc zero) n low = omega arith
nine_places (suc (suc zero)) n low = omega arith
nine_places (suc (suc (suc zero))) n low = omega arith
nine_places (suc (suc (suc (suc zero)))) n low = omega arith
nine_places (suc (suc (suc (suc (suc zero))))) n low = omega arith
nine_places (suc (suc (suc (suc (suc (suc zero)))))) n low = omega arith
nine_places (suc (suc (suc (suc (suc (suc (suc zero))))))) n low = omega arith
nine_places (suc (suc (suc (suc (suc (suc (suc (suc zero)))))))) n low = omega arith
nine_places (suc (suc (suc (suc (suc (suc (suc (suc (suc k))))))))) n low =
    absurd (omega (arith, low))

-- the sum of nine numbers, as additions
nine_sum : (a b c d e f g h i : ℕ)
    → sum (a ∷ b ∷ c ∷ d ∷ e ∷ f ∷ g ∷ h ∷ i ∷ []) ≡ a + b + c + d + e + f + g + h + i
nine_sum a b c d e f g h i = omega arith

-- the steps of all workers are all steps
pub all_counted : (es : List Entry) → AreEntries es → sum (counts_of es) ≡ all_steps es
all_counted [] form = refl
all_counted (e ∷ es) form =
    let few : e.worker ≤ 8 = leb-true e.worker 8 (and_parts _ _ form.0).0 in
    let places = nine_places e.worker e.count few in
    let whole = nine_sum (steps_of_worker (e ∷ es) 0) (steps_of_worker (e ∷ es) 1) (steps_of_worker (e ∷ es) 2)
    (steps_of_worker (e ∷ es) 3) (steps_of_worker (e ∷ es) 4) (steps_of_worker (e ∷ es) 5)
    (steps_of_worker (e ∷ es) 6) (steps_of_worker (e ∷ es) 7) (steps_of_worker (e ∷ es) 8) in
    let part = nine_sum (steps_of_worker es 0) (steps_of_worker es 1) (steps_of_worker es 2)
    (steps_of_worker es 3) (steps_of_worker es 4) (steps_of_worker es 5)
    (steps_of_worker es 6) (steps_of_worker es 7) (steps_of_worker es 8) in
    let more = sum_more e.count (map (λ (x : Entry). x.count) es) in
    let rest = all_counted es form.1 in
    omega (
      arith,
      whole,
      part,
      more,
      rest,
      places,
      worker_steps 0 e es,
      worker_steps 1 e es,
      worker_steps 2 e es,
      worker_steps 3 e es,
      worker_steps 4 e es,
      worker_steps 5 e es,
      worker_steps 6 e es,
      worker_steps 7 e es,
      worker_steps 8 e es,
    )

pub counts_summed : (es : List Entry) (s : State) → AreEntries es → is_summed es s ≡ true
    → sum (counts_of es) ≡ s.steps
counts_summed es s form h = all_counted es form ∙ eqb-true (all_steps es) s.steps h
