use Rattle.std.proofs.Common.{◌≡◌, ◌-◌, ◌+◌, ◌≤◌, ◌<◌, ◌^◌, ◌*◌}
use Rattle.erim_defs.specs.Machine.Pages.{word}
use Rattle.page_store.specs.Answers.{HasBytes}
use Rattle.page_store.specs.Listed.{list_bytes}
use Rattle.page_store.proofs.page_list.PageList.number.Given as goal

abbrev pub invariant-loop-done : goal.invariant-loop-done
invariant-loop-done l = record {
  within : l.done ≤ l.n;
  so_far : l.value ≡ word (list_bytes l.self.pages.items) (l.addr + (l.n - l.done)) l.done;
  bytes : HasBytes (list_bytes l.self.pages.items) (l.addr + (l.n - l.done)) l.done l.value;
  fits : l.value < 2 ^ (8 * l.done);
}

abbrev pub decreases-loop-done : goal.decreases-loop-done
decreases-loop-done l = l.n - l.done
