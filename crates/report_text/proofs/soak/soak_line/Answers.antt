use Rattle.std.proofs.Common.{append_assoc}
use Rattle.erim_defs.specs.Output.GeneratedTexts.{soak_line}
use Rattle.report_text.proofs.soak.soak_line.Goals as goal

pub returns : goal.returns
unfolding soak_line
returns c =
    rw (
      c.into_bytes.ensures.value,
      c.in_ok-writeln.ensures.bytes,
      c.in_ok-push_bytes.ensures,
      c.in_ok-line.ensures.ok,
    ) (simp (
      append_assoc,
      c.seed_threads-threads.ensures.threads,
      c.seed_rounds-rounds.ensures.rounds,
      c.output.ensures,
      c.in_ok-end.ensures,
      c.end.ensures.value,
      c.in_ok-escape.ensures,
      c.escape.ensures,
    ))
