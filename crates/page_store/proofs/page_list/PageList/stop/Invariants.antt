use Rattle.std.proofs.Common.{◌≡◌}
use Rattle.erim_defs.specs.Machine.Access.{whole, stop}
use Rattle.page_store.specs.Listed.{list_rights}
use Rattle.page_store.proofs.page_list.PageList.stop.Given as goal

abbrev pub invariant-loop-left : goal.invariant-loop-left
invariant-loop-left l = stop (whole (list_rights l.self.pages.items)) l.write l.pkru l.at l.left
    ≡ stop (whole (list_rights l.self.pages.items)) l.write l.pkru l.addr l.n

abbrev pub decreases-loop-left : goal.decreases-loop-left
decreases-loop-left l = l.left
