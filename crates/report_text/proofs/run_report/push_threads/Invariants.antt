use Rattle.std.proofs.Common.{◌≡◌, ◌++◌}
use Rattle.std.specs.String.{string_bytes}
use Rattle.erim_defs.specs.Output.Report.{thread_lines}
use Rattle.erim_process.specs.ProcessValue.{state_of}
use Rattle.report_text.proofs.run_report.push_threads.Given as goal

abbrev pub invariant-loop-thread : goal.invariant-loop-thread
invariant-loop-thread l =
    string_bytes l.text ≡ string_bytes l.initial.text
    ++ thread_lines l.entries (state_of l.process).threads l.thread
