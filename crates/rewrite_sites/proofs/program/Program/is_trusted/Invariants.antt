use Rattle.std.proofs.Common.{◌≡◌, ◌+◌, ◌-◌}
use Rattle.std.specs.List.{list_any}
use Rattle.erim_defs.specs.Inspection.Trust.{in_text_of}
use Rattle.erim_defs.specs.Rewriting.Sites.{addresses}
use Rattle.rewrite_sites.proofs.program.Program.is_trusted.Given as goal

abbrev pub invariant-loop-i : goal.invariant-loop-i
invariant-loop-i l =
    list_any (in_text_of l.self.trust) (addresses (l.element.at + l.i) (l.element.len - l.i))
    ≡ list_any (in_text_of l.self.trust) (addresses l.element.at l.element.len)
