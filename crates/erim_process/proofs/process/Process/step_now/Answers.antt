use Rattle.std.proofs.Common.{◌+◌, sym, ap, subst, ◌∙◌, refl, arith, Some}
use Rattle.erim_defs.specs.Machine.State.{State}
use Rattle.erim_defs.specs.Machine.Step.{step}
use Rattle.erim_defs.specs.Machine.Isolation.{IsStartable}
use Rattle.erim_process.specs.ProcessValue.{ProcessValue, state_of}
use Rattle.erim_process.specs.ProcessInvariant.{setup_of}
use Rattle.erim_defs.specs.Machine.StepAnswers.{step_answer}
use Rattle.erim_process.proofs.ProcessLemmas.{state_seen, state_is, fields_run, safe_held, seen_run}
use Rattle.erim_process.proofs.ProcessLemmas.{replay_goes, entries_pushed}
use Rattle.erim_process.proofs.LiveLemmas.{step_live}
use Rattle.erim_process.proofs.RefusedLemmas.{refused_step}
use Rattle.erim_process.proofs.process.Process.step_now.Goals as goal

pub step-requires : goal.step-requires
step-requires c = record {
  safe = safe_held c.always_kept.ensures _ c.self.inside _ c.self.invariant c.trust.ensures;
}

pub invariant_of-self : goal.invariant_of-self
invariant_of-self c =
    let p = c.self.inside in
    let held = c.self.invariant in
    let made = c.in-Made.ensures.made (setup_of p.setup) refl (sym c.trust.ensures) held.frames
    held.heaps refl in
    let steps = c.in-Made.ensures.steps refl in
    let pushed = rw c.from.ensures at c.push.ensures.items in
    record {
      replayed = replay_goes _ p c.step.new.self c.args.thread c.args.worker c.push.result
          c.push.new.self.items held steps.0 made c.push.ensures.succeeds pushed;
      entries = entries_pushed _ p c.args.thread c.args.worker c.push.result c.push.new.self.items
          held steps.0 c.requires
          (let there = c.in-Made.ensures.there refl in omega (arith, there))
          c.push.ensures.succeeds pushed;
      counted = (let counted = held.counted in
          omega (arith, c.push.ensures.upper_bound, counted, steps.1));
      room = (let room = held.room in omega (arith, room, c.push.ensures.capacity));
      within = omega (arith, steps.0, steps.1);
      startable = held.startable;
      frames = held.frames ∙ sym c.in-Made.ensures.frames;
      heaps = held.heaps ∙ sym c.in-Made.ensures.heaps;
      alive = λ none. step_live c.args.thread _ _ made none;
      refused = refused_step c.args.thread _ _ held.refused made;
    }

pub returns-in-Made-clause-answer : goal.returns-in-Made-clause-answer
returns-in-Made-clause-answer c = c.in-Made.ensures.answer (setup_of c.self.inside.setup) refl
    ∙ sym (ap (λ (s : State). step_answer s c.args.thread)
    (state_seen _ c.self.inside _ c.self.view_is c.self.invariant))

pub returns-in-Made-clause-state : goal.returns-in-Made-clause-state
returns-in-Made-clause-state c = λ _.
    let p = c.self.inside in
    let held = c.self.invariant in
    let made = c.in-Made.ensures.made (setup_of p.setup) refl (sym c.trust.ensures) held.frames
    held.heaps refl in
    let steps = c.in-Made.ensures.steps refl in
    let pushed = rw c.from.ensures at c.push.ensures.items in
    let replayed = replay_goes _ p c.step.new.self c.args.thread c.args.worker c.push.result
    c.push.new.self.items held steps.0 made c.push.ensures.succeeds pushed in
    ap (λ (s : State). step c.args.thread s) (state_seen _ p _ c.self.view_is held)
    ∙ made ∙ ap Some (sym (state_is
    (record { setup = setup_of p.setup; journal = c.push.new.self.items }) _ replayed))

pub returns-in-Made-clause-counted : goal.returns-in-Made-clause-counted
returns-in-Made-clause-counted c = λ _.
    let p = c.self.inside in
    let held = c.self.invariant in
    let made = c.in-Made.ensures.made (setup_of p.setup) refl (sym c.trust.ensures) held.frames
    held.heaps refl in
    let steps = c.in-Made.ensures.steps refl in
    let pushed = rw c.from.ensures at c.push.ensures.items in
    let replayed = replay_goes _ p c.step.new.self c.args.thread c.args.worker c.push.result
    c.push.new.self.items held steps.0 made c.push.ensures.succeeds pushed in
    ap (λ (s : State). s.steps)
    (state_is (record { setup = setup_of p.setup; journal = c.push.new.self.items }) _ replayed)
    ∙ steps.1 ∙ sym (ap (λ (s : State). s.steps + 1) (state_seen _ p _ c.self.view_is held))

pub returns-in-Made-clause-setup : goal.returns-in-Made-clause-setup
returns-in-Made-clause-setup c = ap (λ (v : ProcessValue). v.setup) c.self.view_is

pub returns-in-Made-clause-run : goal.returns-in-Made-clause-run
returns-in-Made-clause-run c =
    let p = c.self.inside in
    let held = c.self.invariant in
    let made = c.in-Made.ensures.made (setup_of p.setup) refl (sym c.trust.ensures) held.frames
    held.heaps refl in
    let steps = c.in-Made.ensures.steps refl in
    let pushed = rw c.from.ensures at c.push.ensures.items in
    let replayed = replay_goes _ p c.step.new.self c.args.thread c.args.worker c.push.result
    c.push.new.self.items held steps.0 made c.push.ensures.succeeds pushed in
    fields_run (setup_of p.setup) c.push.new.self.items _ replayed

pub returns-in-Ended-clause-answer : goal.returns-in-Ended-clause-answer
returns-in-Ended-clause-answer c = c.in-Ended.ensures.answer (setup_of c.self.inside.setup) refl
    ∙ sym (ap (λ (s : State). step_answer s c.args.thread)
    (state_seen _ c.self.inside _ c.self.view_is c.self.invariant))

pub returns-in-Ended-clause-run : goal.returns-in-Ended-clause-run
returns-in-Ended-clause-run c =
    fields_run (setup_of c.self.inside.setup) c.self.inside.journal.items _
    c.self.invariant.replayed

pub returns-in-Spent-clause-answer : goal.returns-in-Spent-clause-answer
returns-in-Spent-clause-answer c = c.in-Spent.ensures.answer (setup_of c.self.inside.setup) refl
    ∙ sym (ap (λ (s : State). step_answer s c.args.thread)
    (state_seen _ c.self.inside _ c.self.view_is c.self.invariant))

pub returns-in-Spent-clause-run : goal.returns-in-Spent-clause-run
returns-in-Spent-clause-run c =
    fields_run (setup_of c.self.inside.setup) c.self.inside.journal.items _
    c.self.invariant.replayed

pub returns-in-NotLive-clause-answer : goal.returns-in-NotLive-clause-answer
returns-in-NotLive-clause-answer c = c.in-NotLive.ensures.answer (setup_of c.self.inside.setup) refl
    ∙ sym (ap (λ (s : State). step_answer s c.args.thread)
    (state_seen _ c.self.inside _ c.self.view_is c.self.invariant))

pub returns-in-NotLive-clause-run : goal.returns-in-NotLive-clause-run
returns-in-NotLive-clause-run c =
    fields_run (setup_of c.self.inside.setup) c.self.inside.journal.items _
    c.self.invariant.replayed

pub returns-in-Made-clause-kept : goal.returns-in-Made-clause-kept
returns-in-Made-clause-kept c =
    c.always_kept.ensures (setup_of c.self.inside.setup) c.push.new.self.items _
    c.self.invariant.startable (returns-in-Made-clause-run c)

pub returns-in-Made-clause-lawful : goal.returns-in-Made-clause-lawful
returns-in-Made-clause-lawful c = λ made.
    let v = c.args.self.now in
    let startable : IsStartable v.setup =
    subst (λ (w : ProcessValue). IsStartable w.setup) c.self.view_is c.self.invariant.startable in
    c.steps_are_lawful.ensures v.setup startable v.journal (state_of v) _ c.args.thread
    (seen_run _ c.self.inside _ c.self.view_is c.self.invariant)
    (returns-in-Made-clause-state c made)

pub returns-in-Ended-clause-kept : goal.returns-in-Ended-clause-kept
returns-in-Ended-clause-kept c =
    c.always_kept.ensures (setup_of c.self.inside.setup) c.self.inside.journal.items _
    c.self.invariant.startable (returns-in-Ended-clause-run c)

pub returns-in-Spent-clause-kept : goal.returns-in-Spent-clause-kept
returns-in-Spent-clause-kept c =
    c.always_kept.ensures (setup_of c.self.inside.setup) c.self.inside.journal.items _
    c.self.invariant.startable (returns-in-Spent-clause-run c)

pub returns-in-NotLive-clause-kept : goal.returns-in-NotLive-clause-kept
returns-in-NotLive-clause-kept c =
    c.always_kept.ensures (setup_of c.self.inside.setup) c.self.inside.journal.items _
    c.self.invariant.startable (returns-in-NotLive-clause-run c)
