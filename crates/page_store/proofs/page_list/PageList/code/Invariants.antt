use Rattle.std.proofs.Common.{◌-◌, ◌≡◌, ◌+◌, ◌≤◌, length, take}
use Rattle.erim_defs.specs.Machine.Access.{whole}
use Rattle.page_store.specs.Answers.{fetch_of}
use Rattle.page_store.specs.Listed.{list_rights, list_bytes}
use Rattle.page_store.proofs.MapLemmas.{ok_append}
use Rattle.page_store.proofs.page_list.PageList.code.Given as goal

abbrev pub invariant-loop-count : goal.invariant-loop-count
invariant-loop-count l = record {
  within : l.count ≤ 15;
  size : length l.into ≡ 15;
  so_far : fetch_of (whole (list_rights l.self.pages.items)) (list_bytes l.self.pages.items) l.addr
      15
      ≡ ok_append (take l.count l.into)
      (fetch_of (whole (list_rights l.self.pages.items)) (list_bytes l.self.pages.items)
      (l.addr + l.count) (15 - l.count));
}

abbrev pub decreases-loop-count : goal.decreases-loop-count
decreases-loop-count l = 15 - l.count
