use Rattle.std.proofs.Common.{◌≡◌, ◌+◌, ◌-◌, not}
use Rattle.std.specs.List.{list_any}
use Rattle.erim_defs.specs.Rewriting.Sites.{addresses, in_function}
use Rattle.rewrite_sites.proofs.program.Program.is_outside.Given as goal

abbrev pub invariant-loop-i : goal.invariant-loop-i
invariant-loop-i l =
    list_any (λ a. not (list_any (in_function a) l.self.functions))
    (addresses (l.element.at + l.i) (l.element.len - l.i))
    ≡ list_any (λ a. not (list_any (in_function a) l.self.functions))
    (addresses l.element.at l.element.len)
