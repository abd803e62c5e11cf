use Rattle.std.proofs.Common.{◌≡◌, drop}
use Rattle.page_store.specs.Listed.{find_page}
use Rattle.page_store.proofs.page_list.PageList.scan.Given as goal

abbrev pub invariant-loop-i : goal.invariant-loop-i
invariant-loop-i l = find_page (drop l.i l.held-items) l.page ≡ find_page l.held-items l.page
