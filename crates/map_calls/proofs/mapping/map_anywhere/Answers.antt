use Rattle.std.proofs.Common.{◌≡◌, ◌*◌, ◌∙◌, ℕ, ap, arith}
use Rattle.erim_defs.specs.Machine.CallResult.{Answer, Change}
use Rattle.erim_defs.specs.Machine.MapCalls.{PageRange, new_rights}
use Rattle.map_calls.specs.Ranges.{page_range}
use Rattle.map_calls.proofs.CallLemmas.{change_seen}
use Rattle.map_calls.proofs.MmapLemmas.{mmap_anywhere_is}
use Rattle.erim_defs.specs.Machine.Access.{rights_in}
use Rattle.map_calls.proofs.mapping.map_anywhere.Goals as goal

pub returns-clause-answer : goal.returns-clause-answer
returns-clause-answer g c = λ s t is_rights is_bytes is_frames.
    let old = rights_in (g.P.Memory.seen c.args.pages.now) in
    let new = c.map_range.new.pages in
    let span = c.in_ok-range.range in
    let is = c.in_ok-range.ensures in
    let fits = c.if-from-count.false in
    let from = c.from.ensures in
    let r : PageRange = record { first = span.first; count = c.args.count } in
    let same : page_range span ≡ r =
    ap (λ (n : ℕ). let x : PageRange = record { first = span.first; count = n } in x) is.0 in
    mmap_anywhere_is s t c.args.count c.args.asked span.first
    (g.P.Memory.frames c.args.pages.now) c.free_frames.result old is_rights is_frames
    c.free_frames.ensures (omega (arith, fits, from)) is.1
    ∙ ap (λ (x : Change). Answer (4096 * span.first) x) (change_seen s t r (page_range span)
    (new_rights c.args.asked) old (rights_in (g.P.Memory.seen new))
    (g.P.Memory.bytes c.args.pages.now) (g.P.Memory.bytes new) is_rights is_bytes same
    c.map_range.ensures.rights c.map_range.ensures.bytes)
