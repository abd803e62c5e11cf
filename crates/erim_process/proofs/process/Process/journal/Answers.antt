use Rattle.std.proofs.Common.{◌≡◌, length, ap, arith, ◌∙◌}
use Rattle.erim_defs.specs.Machine.State.{State}
use Rattle.erim_process.specs.ProcessValue.{ProcessValue, state_of}
use Rattle.erim_defs.specs.Output.Journal.{IsJournal}
use Rattle.erim_process.specs.ProcessInvariant.{process_value}
use Rattle.erim_process.proofs.ProcessLemmas.{state_seen, seen_run, journal_form}
use Rattle.erim_process.proofs.process.Process.journal.Goals as goal

pub returns-clause-entries : goal.returns-clause-entries
returns-clause-entries c = c.as_slice.ensures.value
    ∙ ap (λ (v : ProcessValue). v.journal) c.self.view_is

pub returns-clause-run : goal.returns-clause-run
returns-clause-run c = seen_run _ c.self.inside _ c.self.view_is c.self.invariant

pub returns-clause-form : goal.returns-clause-form
returns-clause-form c =
    let p = c.self.inside in
    let h = c.self.invariant in
    let counted = h.counted in
    let within = h.within in
    let len = p.journal.ok.0 in
    let form : IsJournal (record {
      budget = p.setup.budget;
      frames = p.setup.frames;
      entries = p.journal.items;
    }) = record {
      some = p.setup.some_steps;
      budget = p.setup.steps;
      least = p.setup.some_pages;
      frames = p.setup.pages;
      count = omega (arith, len, counted, within);
      entries = h.entries;
    } in
    journal_form (process_value p) _ c.as_slice.result.now form c.self.view_is
    c.as_slice.ensures.value

pub returns-clause-counted : goal.returns-clause-counted
returns-clause-counted c =
    let p = c.self.inside in
    let same : length c.as_slice.result.now ≡ length p.journal.items =
    ap length c.as_slice.ensures.value in
    let steps : (state_of c.args.self.now).steps ≡ p.machine.steps =
    ap (λ (s : State). s.steps) (state_seen _ p _ c.self.view_is c.self.invariant) in
    let len = p.journal.ok.0 in
    let counted = c.self.invariant.counted in
    omega (arith, same, steps, len, counted)
