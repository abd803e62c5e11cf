-- The numbers of the statuses that a reply can have. 4, of what failed, and 5, of out of memory,
-- are no reply's. Own.
use Rattle.std.specs.Prelude.{ℕ}
use Rattle.erim_commands.specs.declared.reply.Status.{Status}
use Rattle.erim_commands.specs.declared.reply.Status.TheVariants.{Done, AtFault, NotUnderstood}
use Rattle.erim_commands.specs.declared.reply.Status.TheVariants.{ImageRefused, JournalRefused}
use Rattle.erim_commands.specs.declared.reply.Status.TheVariants.{Spent}
use Rattle.erim_commands.specs.declared.reply.Status.TheVariants.{RewriteRefused}

abbrev pub code_of : Status → ℕ
code_of Done = 0
code_of AtFault = 1
code_of NotUnderstood = 2
code_of ImageRefused = 3
code_of JournalRefused = 6
code_of Spent = 7
code_of RewriteRefused = 8
