use Rattle.std.proofs.Common.{◌≡◌, ◌-◌}
use Rattle.erim_defs.specs.Rewriting.Layout.{is_untouched, none_from, reaches}
use Rattle.copy_layout.specs.Trials.{sight_code}
use Rattle.copy_layout.proofs.sight.Sight.is_untouched.Given as goal

abbrev pub invariant-loop-a : goal.invariant-loop-a
invariant-loop-a l = none_from l.a (l.high - l.a) (reaches (sight_code l.self) l.low)
    ≡ is_untouched (sight_code l.self) l.low l.high
