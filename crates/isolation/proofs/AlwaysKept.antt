-- The invariant in every state of every run.
use Rattle.erim_defs.specs.Machine.Isolation.{AlwaysKept}
use Rattle.isolation.proofs.GrammarFacts.{decoder, image_known}
use Rattle.isolation.proofs.AlwaysLemmas.{good_always}

pub always_kept : AlwaysKept
always_kept setup entries s h e =
    (good_always decoder setup entries s h (image_known setup h) e).kept
