use Rattle.std.proofs.Common.{◌≡◌, ◌+◌, ◌≤◌}
use Rattle.erim_defs.specs.Machine.Pages.{with_number}
use Rattle.page_store.specs.Listed.{list_bytes, list_rights}
use Rattle.page_store.proofs.page_list.PageList.set_number.Given as goal

abbrev pub invariant-loop-left : goal.invariant-loop-left
invariant-loop-left l = record {
  within : l.left ≤ l.n;
  place : l.at + l.left ≡ l.addr + l.n;
  bytes : with_number (list_bytes l.self.pages.items) l.at l.left l.rest
      ≡ with_number (list_bytes l.fn.self.pages.items) l.addr l.n l.value;
  rights : list_rights l.self.pages.items ≡ list_rights l.fn.self.pages.items;
  frames : l.self.frames ≡ l.fn.self.frames;
}

abbrev pub decreases-loop-left : goal.decreases-loop-left
decreases-loop-left l = l.left
