use Rattle.std.proofs.Common.{◌≡◌, ◌∙◌, sym, ap, None, Err, ne_eqb, rules}
use Rattle.erim_defs.specs.Machine.CallResult.{Answer, Change}
use Rattle.erim_defs.specs.Machine.MapCalls.{range_of}
use Rattle.map_calls.specs.Answers.{map_answer}
use Rattle.map_calls.specs.Ranges.{page_range}
use Rattle.map_calls.proofs.CallLemmas.{munmap_invalid, munmap_protected, munmap_pinned}
use Rattle.map_calls.proofs.CallLemmas.{munmap_done}
use Rattle.map_calls.proofs.CallLemmas.{no_length, no_range, is_valid, protected_seen, pinned_seen}
use Rattle.map_calls.proofs.CallLemmas.{change_seen}
use Rattle.erim_defs.specs.Machine.Access.{rights_in}
use Rattle.map_calls.proofs.unmapping.munmap.Goals as goal

pub returns-then-len-eq0-clause-answer : goal.returns-then-len-eq0-clause-answer
returns-then-len-eq0-clause-answer g c = λ s t sees p.
    munmap_invalid s t c.args.addr c.args.len (no_length c.args.addr c.args.len c.if-len-eq0.true)

pub returns-in_err-range-clause-answer : goal.returns-in_err-range-clause-answer
returns-in_err-range-clause-answer g c = λ s t sees p.
    let e : c.from_residual.result ≡ Err c.in_err-range.field-0.0 = search rules in
    let is = c.in_err-range.ensures in
    munmap_invalid s t c.args.addr c.args.len (no_range c.args.addr c.args.len is.1)
    ∙ sym (ap (map_answer g.P.Memory s t c.args.pages.now) (e ∙ ap Err is.0))

pub returns-then-is_protected-clause-answer : goal.returns-then-is_protected-clause-answer
returns-then-is_protected-clause-answer g c = λ s t sees p.
    let is = c.in_ok-range.ensures in
    let valid = is_valid c.args.addr c.args.len is.0
    (ne_eqb c.args.len 0 c.if-len-eq0.false) is.1 in
    let r = range_of c.args.addr c.args.len in
    let protection = protected_seen s t r (page_range c.in_ok-range.range) c.args.trust.now
    (rights_in (g.P.Memory.seen c.args.pages.now)) c.args.pkru c.is_protected.result sees.trust
    sees.rights p is.2 c.is_protected.ensures in
    munmap_protected s t c.args.addr c.args.len valid (protection ∙ c.if-is_protected.true)

pub returns-then-has_pin-clause-answer : goal.returns-then-has_pin-clause-answer
returns-then-has_pin-clause-answer g c = λ s t sees p.
    let is = c.in_ok-range.ensures in
    let valid = is_valid c.args.addr c.args.len is.0
    (ne_eqb c.args.len 0 c.if-len-eq0.false) is.1 in
    let r = range_of c.args.addr c.args.len in
    let span = page_range c.in_ok-range.range in
    let protection = protected_seen s t r span c.args.trust.now
    (rights_in (g.P.Memory.seen c.args.pages.now)) c.args.pkru c.is_protected.result sees.trust
    sees.rights p is.2 c.is_protected.ensures in
    let pin = pinned_seen s r span c.args.threads.now c.has_pin.result sees.threads is.2
    c.has_pin.ensures in
    munmap_pinned s t c.args.addr c.args.len valid (protection ∙ c.if-is_protected.false)
    (pin ∙ c.if-has_pin.true)

pub returns-clause-answer : goal.returns-clause-answer
returns-clause-answer g c = λ s t sees p.
    let is = c.in_ok-range.ensures in
    let valid = is_valid c.args.addr c.args.len is.0
    (ne_eqb c.args.len 0 c.if-len-eq0.false) is.1 in
    let r = range_of c.args.addr c.args.len in
    let span = page_range c.in_ok-range.range in
    let old = rights_in (g.P.Memory.seen c.args.pages.now) in
    let new = c.unmap_range.new.pages in
    let protection = protected_seen s t r span c.args.trust.now old c.args.pkru
    c.is_protected.result sees.trust sees.rights p is.2 c.is_protected.ensures in
    let pin = pinned_seen s r span c.args.threads.now c.has_pin.result sees.threads is.2
    c.has_pin.ensures in
    munmap_done s t c.args.addr c.args.len valid (protection ∙ c.if-is_protected.false)
    (pin ∙ c.if-has_pin.false)
    ∙ ap (λ (x : Change). Answer 0 x) (change_seen s t r span None old
    (rights_in (g.P.Memory.seen new)) (g.P.Memory.bytes c.args.pages.now) (g.P.Memory.bytes new)
    sees.rights sees.bytes is.2 c.unmap_range.ensures.rights c.unmap_range.ensures.bytes)
