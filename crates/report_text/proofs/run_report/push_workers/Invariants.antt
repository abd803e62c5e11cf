use Rattle.std.proofs.Common.{◌≡◌, ◌++◌}
use Rattle.std.specs.String.{string_bytes}
use Rattle.erim_defs.specs.Output.Report.{worker_lines}
use Rattle.report_text.proofs.run_report.push_workers.Given as goal

abbrev pub invariant-loop-worker : goal.invariant-loop-worker
invariant-loop-worker l =
    string_bytes l.text ≡ string_bytes l.initial.text ++ worker_lines l.entries l.worker
