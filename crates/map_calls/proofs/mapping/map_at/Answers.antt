use Rattle.std.proofs.Common.{◌≡◌, ◌+◌, ◌∙◌, ℕ, nat_lt, None, refl, ap, arith}
use Rattle.std.proofs.Common.{true, false}
use Rattle.erim_defs.specs.Machine.CallResult.{Answer, Change}
use Rattle.erim_defs.specs.Machine.Count.{mapped_pages}
use Rattle.erim_defs.specs.Machine.MapCalls.{has_pin, mapped_in, new_rights, range_of}
use Rattle.erim_defs.specs.Machine.Pages.{RightsMap, ByteMap}
use Rattle.map_calls.specs.Ranges.{page_range, rights_within, zeros_within}
use Rattle.map_calls.proofs.CallLemmas.{change_seen, pinned_seen, protected_seen}
use Rattle.map_calls.proofs.CountedLemmas.{mapped_without}
use Rattle.map_calls.proofs.MmapLemmas.{is_placed, mmap_at_is, room_seen}
use Rattle.map_calls.proofs.WalkLemmas.{within_inside, within_twice, zeros_twice}
use Rattle.erim_defs.specs.Machine.Access.{rights_in}
use Rattle.map_calls.proofs.mapping.map_at.Goals as goal

pub returns-then-is_protected-clause-answer : goal.returns-then-is_protected-clause-answer
returns-then-is_protected-clause-answer g c = λ s t sees p.
    let is = c.in_ok-range.ensures in
    let placed = is_placed c.args.addr c.args.len is.0 c.if-addr-lt-LOWEST_FIXED.false is.1 in
    let r = range_of c.args.addr c.args.len in
    let span = page_range c.in_ok-range.range in
    let rights = rights_in (g.P.Memory.seen c.args.pages.now) in
    let guard = protected_seen s t r span c.args.trust.now rights c.args.pkru c.is_protected.result
    sees.trust sees.rights p is.2 c.is_protected.ensures in
    mmap_at_is s t c.args.addr c.args.len c.args.asked true
    (nat_lt (s.setup.frames + mapped_in s.rights r) (mapped_pages s.rights + r.count)) (has_pin s r)
    (record { placed = placed; guard = guard ∙ c.if-is_protected.true; room = refl; pin = refl })

pub returns-then-has_pin-clause-answer : goal.returns-then-has_pin-clause-answer
returns-then-has_pin-clause-answer g c = λ s t sees p.
    let is = c.in_ok-range.ensures in
    let placed = is_placed c.args.addr c.args.len is.0 c.if-addr-lt-LOWEST_FIXED.false is.1 in
    let r = range_of c.args.addr c.args.len in
    let span = page_range c.in_ok-range.range in
    let rights = rights_in (g.P.Memory.seen c.args.pages.now) in
    let guard = protected_seen s t r span c.args.trust.now rights c.args.pkru c.is_protected.result
    sees.trust sees.rights p is.2 c.is_protected.ensures in
    let fits = c.if-room-range.false in
    let from = c.from.ensures in
    let room = room_seen s r span rights (g.P.Memory.frames c.args.pages.now) c.free_frames.result
    c.mapped_in.result sees.rights sees.frames is.2 c.free_frames.ensures c.mapped_in.ensures.count
    (omega (arith, fits, from)) in
    let pin = pinned_seen s r span c.args.threads.now c.has_pin.result sees.threads is.2
    c.has_pin.ensures in
    mmap_at_is s t c.args.addr c.args.len c.args.asked false false true (record {
      placed = placed;
      guard = guard ∙ c.if-is_protected.false;
      room = room;
      pin = pin ∙ c.if-has_pin.true;
    })

pub map_range-requires-clause-unmapped : goal.map_range-requires-clause-unmapped
map_range-requires-clause-unmapped g c = λ q low high.
    let span = c.in_ok-range.range in
    ap (λ (m : RightsMap). m q) c.unmap_range.ensures.rights
    ∙ within_inside (rights_in (g.P.Memory.seen c.args.pages.now)) span.first
    (span.first + span.count) q (λ _. None) low high

pub map_range-requires-clause-free : goal.map_range-requires-clause-free
map_range-requires-clause-free g c =
    let span = c.in_ok-range.range in
    let old = rights_in (g.P.Memory.seen c.args.pages.now) in
    let without = mapped_without span.count old span.first span.low in
    let new = ap mapped_pages c.unmap_range.ensures.rights in
    let counted = c.mapped_in.ensures.count in
    let frames = c.unmap_range.ensures.frames in
    let free = c.free_frames.ensures in
    let fits = c.if-room-range.false in
    let from = c.from.ensures in
    omega (arith, without, new, counted, frames, free, fits, from)

pub returns-clause-answer : goal.returns-clause-answer
returns-clause-answer g c = λ s t sees p.
    let is = c.in_ok-range.ensures in
    let placed = is_placed c.args.addr c.args.len is.0 c.if-addr-lt-LOWEST_FIXED.false is.1 in
    let r = range_of c.args.addr c.args.len in
    let span = page_range c.in_ok-range.range in
    let rights = rights_in (g.P.Memory.seen c.args.pages.now) in
    let guard = protected_seen s t r span c.args.trust.now rights c.args.pkru c.is_protected.result
    sees.trust sees.rights p is.2 c.is_protected.ensures in
    let fits = c.if-room-range.false in
    let from = c.from.ensures in
    let room = room_seen s r span rights (g.P.Memory.frames c.args.pages.now) c.free_frames.result
    c.mapped_in.result sees.rights sees.frames is.2 c.free_frames.ensures c.mapped_in.ensures.count
    (omega (arith, fits, from)) in
    let pin = pinned_seen s r span c.args.threads.now c.has_pin.result sees.threads is.2
    c.has_pin.ensures in
    let first = span.first in
    let end : ℕ = span.first + span.count in
    let bytes = g.P.Memory.bytes c.args.pages.now in
    let new = c.map_range.new.pages in
    let x = new_rights c.args.asked in
    let is_new : rights_in (g.P.Memory.seen new) ≡ rights_within rights first end (λ _. x) =
    c.map_range.ensures.rights
    ∙ (ap (λ (m : RightsMap). rights_within m first end (λ _. x)) c.unmap_range.ensures.rights
    ∙ within_twice rights first end None x) in
    let is_fresh : g.P.Memory.bytes new ≡ zeros_within bytes first end =
    c.map_range.ensures.bytes
    ∙ (ap (λ (b : ByteMap). zeros_within b first end) c.unmap_range.ensures.bytes
    ∙ zeros_twice bytes first end) in
    mmap_at_is s t c.args.addr c.args.len c.args.asked false false false (record {
      placed = placed;
      guard = guard ∙ c.if-is_protected.false;
      room = room;
      pin = pin ∙ c.if-has_pin.false;
    })
    ∙ ap (λ (y : Change). Answer c.args.addr y) (change_seen s t r span x rights
    (rights_in (g.P.Memory.seen new)) bytes
    (g.P.Memory.bytes new) sees.rights sees.bytes is.2 is_new
    is_fresh)
