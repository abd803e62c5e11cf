use Rattle.std.proofs.Common.{subst}
use Rattle.erim_defs.specs.Output.Journal.{AreEntries}
use Rattle.erim_process.specs.ProcessValue.{state_of}
use Rattle.publish_lock.proofs.RuleLemmas.{counts_summed}
use Rattle.publish_lock.proofs.counting.note_summed.Goals as goal

pub returns : goal.returns
returns c =
    let p = c.args.process.now in
    counts_summed p.journal (state_of p)
    (subst AreEntries c.journal-entries.ensures.entries c.journal-entries.ensures.form.entries)
    c.requires
