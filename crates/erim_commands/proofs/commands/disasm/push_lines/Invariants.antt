use Rattle.std.proofs.Common.{length, ◌-◌}
use Rattle.erim_commands.proofs.DisasmLemmas.{HasLines}
use Rattle.erim_commands.proofs.commands.disasm.push_lines.Given as goal

abbrev pub invariant-code : goal.invariant-code
invariant-code l = HasLines l.initial.text.items l.text.items l.base l.done l.code

abbrev pub decreases-code : goal.decreases-code
decreases-code l = length l.code - l.done
