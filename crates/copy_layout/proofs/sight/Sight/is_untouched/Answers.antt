use Rattle.std.proofs.Common.{refl}
use Rattle.erim_defs.specs.Rewriting.Layout.{is_untouched}
use Rattle.copy_layout.proofs.sight.Sight.is_untouched.Goals as goal

pub loop-a-init : goal.loop-a-init
unfolding is_untouched
loop-a-init c = rw c.saturating_sub-a.ensures refl
