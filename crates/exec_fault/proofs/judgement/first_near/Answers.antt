use Rattle.erim_defs.specs.Machine.Access.{rights_in}
use Rattle.exec_fault.proofs.VerdictLemmas.{scan_decides}
use Rattle.exec_fault.proofs.WindowLemmas.{Beside, window_scan}
use Rattle.exec_fault.proofs.judgement.first_near.Goals as goal

pub returns : goal.returns
returns g c =
    let rights = rights_in (g.P.Memory.seen c.args.pages.now) in
    let before = c.is_published_before-before.result in
    let behind = c.is_published-behind.result in
    let xs = c.lay_window.new.into in
    let beside : Beside rights c.args.page before behind = record {
      first = c.is_published_before-before.ensures;
      last = c.is_published-behind.ensures;
    } in
    let first = rw (
      c.window_from.ensures,
      c.window_base.ensures,
      c.window_start.ensures.start,
      c.window_end.ensures.end,
    ) at c.next_unsafe.ensures in
    scan_decides c.args.trust.now rights (g.P.Memory.bytes c.args.pages.now) _ c.args.page _ _
    c.next_unsafe.result c.requires.low c.requires.safe
    (window_scan c.args.trust.now xs rights (g.P.Memory.bytes c.args.pages.now) c.args.page before
    behind c.next_unsafe.result c.lay_window.array_long c.lay_window.ensures beside first)
