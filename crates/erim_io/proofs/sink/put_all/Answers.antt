-- What the next piece appends joins what stood before.
use Rattle.std.proofs.Common.{◌∙◌, rules}
use Rattle.erim_io.proofs.Known.{Appends-more}
use Rattle.erim_io.proofs.sink.put_all.Goals as goal

pub loop-at-preserved : goal.loop-at-preserved
loop-at-preserved g c = record {
  within = search rules;
  put = Appends-more _ _ _ _ c.loop-at.at _ c.loop-at.invariant.put c.in_ok-at.ensures.appended;
  counted = search rules;
  stays = c.in_ok-at.ensures.stays ∙ c.loop-at.invariant.stays;
}
