use Rattle.std.proofs.Common.{append_assoc, sym, add-one, arith}
use Rattle.std.proofs.lemmas.List.{append-nil}
use Rattle.std.specs.String.{string_bytes}
use Rattle.erim_defs.specs.Output.Report.{thread_lines, thread_text}
use Rattle.erim_process.specs.ProcessValue.{state_of}
use Rattle.report_text.proofs.ReportLemmas.{thread_of}
use Rattle.report_text.proofs.run_report.push_threads.Goals as goal

pub loop-thread-init : goal.loop-thread-init
unfolding thread_lines
loop-thread-init c = sym (append-nil (string_bytes c.args.text.now))

pub loop-thread-preserved : goal.loop-thread-preserved
unfolding thread_lines
loop-thread-preserved c =
    let threads = (state_of c.args.process.now).threads in
    let entries = c.args.entries.now in
    let t = c.loop-thread.thread in
    let count = c.thread_count-thread-end.ensures.count in
    let here = thread_of threads t c.thread-pkru.result
    (omega (arith, count, c.loop-thread-test.true)) c.thread-pkru.ensures in
    rw (
      add-one,
      here,
      c.in_ok-push_thread.ensures,
      c.loop-thread.invariant,
    )
    (append_assoc (string_bytes c.args.text.now) (thread_lines entries threads t)
    (thread_text entries t c.thread-pkru.result.pkru))
