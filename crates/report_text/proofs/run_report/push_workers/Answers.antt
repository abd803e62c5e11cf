use Rattle.std.proofs.Common.{append_assoc, sym, add-one}
use Rattle.std.proofs.lemmas.List.{append-nil}
use Rattle.std.specs.String.{string_bytes}
use Rattle.erim_defs.specs.Output.Report.{worker_line, worker_lines, steps_of_worker}
use Rattle.report_text.proofs.run_report.push_workers.Goals as goal

pub loop-worker-init : goal.loop-worker-init
unfolding worker_lines
loop-worker-init c = sym (append-nil (string_bytes c.args.text.now))

pub loop-worker-preserved : goal.loop-worker-preserved
unfolding worker_lines
loop-worker-preserved c =
    rw (add-one, c.in_ok-push_worker.ensures, c.steps_of_worker.ensures, c.loop-worker.invariant)
    (append_assoc (string_bytes c.args.text.now)
    (worker_lines c.args.entries.now c.loop-worker.worker)
    (worker_line c.loop-worker.worker (steps_of_worker c.args.entries.now c.loop-worker.worker)))
