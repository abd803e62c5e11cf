use Rattle.std.proofs.Common.{length}
use Rattle.x86_decode.proofs.front.+front_at.Given as goal

abbrev pub decreases-front_at : goal.decreases-front_at
decreases-front_at l = length l.bytes.now
