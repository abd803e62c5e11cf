-- A command of the code: which command it means, and the ranges of its numbers. Own.
use Rattle.std.specs.Prelude.{◌≤◌, ⊤, ℕ}
use Rattle.erim_defs.specs.declared.limits.TheConstants.{LEAST_FRAMES, MOST_FRAMES, MOST_STEPS}
use Rattle.erim_defs.specs.declared.limits.TheConstants.{MOST_WORKERS}
use Rattle.erim_defs.specs.Output.Words.{Command as Meant, Inspect, Disasm, Run, Replay, Rewrite}
use Rattle.erim_defs.specs.Output.Words.{Gen, Soak}
use Rattle.command_words.specs.declared.command.Command.{Command}
use Rattle.command_words.specs.declared.command.Command.TheVariants as code

abbrev pub meaning : Command → Meant
meaning (code.Inspect image) = Inspect image.now
meaning (code.Disasm image) = Disasm image.now
meaning (code.Run image journal workers steps frames) =
    Run image.now journal.now workers steps frames
meaning (code.Replay image journal) = Replay image.now journal.now
meaning (code.Rewrite image out) = Rewrite image.now out.now
meaning (code.Gen seed out) = Gen seed out.now
meaning (code.Soak seed journal) = Soak seed journal.now

-- a run has 1 to 8 workers, 1 to 4,194,304 steps, and 64 to 4,096 frames
pub record AreRunNumbers (workers steps frames : ℕ) : Type 0 where
  pub workers_least : 1 ≤ workers
  pub workers_most : workers ≤ MOST_WORKERS
  pub steps_least : 1 ≤ steps
  pub steps_most : steps ≤ MOST_STEPS
  pub frames_least : LEAST_FRAMES ≤ frames
  pub frames_most : frames ≤ MOST_FRAMES

abbrev pub HasNumbers : Command → Type 0
HasNumbers (code.Inspect image) = ⊤
HasNumbers (code.Disasm image) = ⊤
HasNumbers (code.Run image journal workers steps frames) = AreRunNumbers workers steps frames
HasNumbers (code.Replay image journal) = ⊤
HasNumbers (code.Rewrite image out) = ⊤
HasNumbers (code.Gen seed out) = ⊤
HasNumbers (code.Soak seed journal) = ⊤
