use Rattle.std.proofs.Common.{◌≡◌, ℕ, List, Some, refl, map, arith, lit<}
use Rattle.std.specs.String.{string_bytes}
use Rattle.clap.specs.declared.parser.matches.ArgMatches.{ArgMatches}
use Rattle.erim_defs.specs.Output.WordForms.{Text, Given, given_by}
use Rattle.erim_defs.specs.Output.Words.{run_usage, workers, steps, frames, value}
use Rattle.command_words.specs.Clap.{HasGiven, IsRead}
use Rattle.command_words.proofs.FitLemmas.{HasSlot, IsWithin, value_within}
use Rattle.command_words.proofs.GetterLemmas.{read_none, read_some}
use Rattle.command_words.proofs.words.run_of.Goals as goal

-- ---- the numbers lie in their ranges

has_workers : HasSlot run_usage.form workers
has_workers = record {
  operands = (λ e. absurd cc, (λ e. absurd cc, tt));
  options = (λ _. refl, (λ e. absurd cc, (λ e. absurd cc, tt)));
}

has_steps : HasSlot run_usage.form steps
has_steps = record {
  operands = (λ e. absurd cc, (λ e. absurd cc, tt));
  options = (λ e. absurd cc, (λ _. refl, (λ e. absurd cc, tt)));
}

has_frames : HasSlot run_usage.form frames
has_frames = record {
  operands = (λ e. absurd cc, (λ e. absurd cc, tt));
  options = (λ e. absurd cc, (λ e. absurd cc, (λ _. refl, tt)));
}

workers_within : (words : List Text) (m : ArgMatches) (n : ℕ)
    → IsRead (given_by run_usage.form words) (Some m)
    → ((given : Given) → HasGiven given m → n ≡ value given workers 4) → IsWithin 1 8 n
workers_within words m n read is =
    value_within _ 1 8 4 run_usage.form words m n has_workers (lit< tt)
    (record { above = omega arith; below = omega arith }) read is

steps_within : (words : List Text) (m : ArgMatches) (n : ℕ)
    → IsRead (given_by run_usage.form words) (Some m)
    → ((given : Given) → HasGiven given m → n ≡ value given steps 1000000) → IsWithin 1 4194304 n
steps_within words m n read is =
    value_within _ 1 4194304 1000000 run_usage.form words m n has_steps (lit< tt)
    (record { above = omega arith; below = omega arith }) read is

frames_within : (words : List Text) (m : ArgMatches) (n : ℕ)
    → IsRead (given_by run_usage.form words) (Some m)
    → ((given : Given) → HasGiven given m → n ≡ value given frames 1024) → IsWithin 64 4096 n
frames_within words m n read is =
    value_within _ 64 4096 1024 run_usage.form words m n has_frames (lit< tt)
    (record { above = omega arith; below = omega arith }) read is

pub overflow_cast-result : goal.overflow_cast-result
overflow_cast-result c =
    let w : IsWithin 1 8 c.value.result =
    workers_within (map string_bytes c.args.words.now) c.in-Some.found c.value.result
    (rw c.in-Some.is at c.in_ok-found.ensures) c.value.ensures in
    omega (arith, w.below)

pub overflow_cast-result-in-Some : goal.overflow_cast-result-in-Some
overflow_cast-result-in-Some c =
    let w : IsWithin 1 4194304 c.value-in-Some.result =
    steps_within (map string_bytes c.args.words.now) c.in-Some.found c.value-in-Some.result
    (rw c.in-Some.is at c.in_ok-found.ensures) c.value-in-Some.ensures in
    omega (arith, w.below)

pub overflow_cast-result-in-Some-2 : goal.overflow_cast-result-in-Some-2
overflow_cast-result-in-Some-2 c =
    let w : IsWithin 64 4096 c.value-in-Some-2.result =
    frames_within (map string_bytes c.args.words.now) c.in-Some.found c.value-in-Some-2.result
    (rw c.in-Some.is at c.in_ok-found.ensures) c.value-in-Some-2.ensures in
    omega (arith, w.below)

pub returns-in-Some-clause-numbers : goal.returns-in-Some-clause-numbers
returns-in-Some-clause-numbers c =
    let words = map string_bytes c.args.words.now in
    let read = rw c.in-Some.is at c.in_ok-found.ensures in
    let w = workers_within words c.in-Some.found c.value.result read c.value.ensures in
    let s =
    steps_within words c.in-Some.found c.value-in-Some.result read c.value-in-Some.ensures in
    let f =
    frames_within words c.in-Some.found c.value-in-Some-2.result read c.value-in-Some-2.ensures in
    record {
      workers_least = w.above;
      workers_most = w.below;
      steps_least = s.above;
      steps_most = s.below;
      frames_least = f.above;
      frames_most = f.below;
    }

-- ---- what is meant

pub returns-in-Some-clause-meant : goal.returns-in-Some-clause-meant
returns-in-Some-clause-meant c =
    read_some run_usage (map string_bytes c.args.words.now) c.in-Some.found _
    (rw c.in-Some.is at c.in_ok-found.ensures)
    (λ (g : Given) (has : HasGiven g c.in-Some.found).
    rw (
      c.text.ensures g has,
      c.text-in-Some.ensures g has,
      c.value.ensures g has,
      c.value-in-Some.ensures g has,
      c.value-in-Some-2.ensures g has,
    ) refl)

pub returns-in-None-clause-meant : goal.returns-in-None-clause-meant
returns-in-None-clause-meant c =
    read_none run_usage (map string_bytes c.args.words.now)
    (rw c.in-None.is at c.in_ok-found.ensures)
