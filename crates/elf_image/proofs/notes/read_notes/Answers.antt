use Rattle.std.proofs.Common.{◌<◌, ◌≤◌, arith}
use Rattle.std.proofs.lemmas.Result.{err_from_is_err_and}
use Rattle.erim_defs.specs.Inspection.Image.{header_count}
use Rattle.elf_image.proofs.NoteLemmas.{all_begins, all_end, all_go_on, all_stop}
use Rattle.elf_image.proofs.notes.read_notes.Goals as goal

pub loop-index-init : goal.loop-index-init
loop-index-init c = all_begins _

pub returns-in_err-seen : goal.returns-in_err-seen
returns-in_err-seen c =
    let lt : c.loop-index.index < header_count c.args.bytes.now = omega arith in
    let p = err_from_is_err_and c.from_residual.result c.from_residual.ensures.1 in
    rw (p.1, p.2) (all_stop _ _ _ _ c.loop-index.invariant lt
    (rw c.read.ensures at c.in_err-seen.ensures))

pub loop-index-preserved : goal.loop-index-preserved
loop-index-preserved c =
    let lt : c.loop-index.index < header_count c.args.bytes.now = omega arith in
    let read = rw c.read.ensures at c.in_ok-seen.ensures in
    all_go_on _ _ _ _ c.loop-index.invariant lt read.0 read.1 read.2

pub returns : goal.returns
returns c =
    let past : header_count c.args.bytes.now ≤ c.loop-index.index = omega arith in
    all_end _ _ _ c.loop-index.invariant past
