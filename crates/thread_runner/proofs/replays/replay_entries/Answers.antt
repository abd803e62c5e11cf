use Rattle.std.proofs.Common.{◌≡◌, Some, None, Err, inr, rules}
use Rattle.erim_process.specs.ProcessInvariant.{setup_of}
use Rattle.erim_defs.specs.declared.replay_fault.ReplayFault.TheVariants.{Start}
use Rattle.thread_runner.proofs.ReplayLemmas.{start_breaks, start_goes, start_replays}
use Rattle.thread_runner.proofs.replays.replay_entries.Goals as goal

pub returns-in_err-process-clause-exact : goal.returns-in_err-process-clause-exact
returns-in_err-process-clause-exact c =
    let e : c.from_residual.result ≡ Err (Start c.in_err-process.field-0.0) = search rules in
    rw e (start_breaks (setup_of c.args.setup) c.args.entries.now c.in_err-process.field-0.0
    c.in_err-process.ensures.refused)

pub returns-in_err-make_entries-clause-exact : goal.returns-in_err-make_entries-clause-exact
returns-in_err-make_entries-clause-exact c =
    let e : c.from_residual-in_err-make_entries.result ≡ Err c.in_err-make_entries.field-0.0 =
    search rules in
    rw e (inr (start_goes (setup_of c.args.setup) c.args.entries.now c.in_ok-process.process
    (Some c.in_err-make_entries.field-0.0) c.in_ok-process.ensures.started
    c.in_err-make_entries.ensures.exact))

pub returns-clause-exact : goal.returns-clause-exact
returns-clause-exact c =
    start_goes (setup_of c.args.setup) c.args.entries.now c.in_ok-process.process None
    c.in_ok-process.ensures.started c.in_ok-make_entries.ensures.exact

pub returns-clause-run : goal.returns-clause-run
returns-clause-run c =
    start_replays (setup_of c.args.setup) c.args.entries.now c.in_ok-process.process _
    c.in_ok-process.ensures.started c.in_ok-make_entries.ensures.run

pub returns-clause-complete : goal.returns-clause-complete
returns-clause-complete c =
    let runs = start_replays (setup_of c.args.setup) c.args.entries.now c.in_ok-process.process _
    c.in_ok-process.ensures.started c.in_ok-make_entries.ensures.run in
    (_, runs, c.in_ok-make_entries.ensures.over)
