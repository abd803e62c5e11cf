use Rattle.std.proofs.Common.{◌&&◌, ◌∙◌, ap, refl, not, is_none, true, false}
use Rattle.erim_defs.specs.Machine.State.{trust_of}
use Rattle.erim_defs.specs.Machine.CallResult.{Answer, Change}
use Rattle.erim_defs.specs.Machine.MapCalls.{any_page, has_pin, is_denied_key, range_of}
use Rattle.erim_defs.specs.Machine.Pages.{asks_exec}
use Rattle.map_calls.specs.Ranges.{page_range}
use Rattle.map_calls.proofs.CallLemmas.{is_right, protect_is, asked_seen}
use Rattle.map_calls.proofs.CallLemmas.{protected_seen, closed_seen, holes_seen, lost_seen}
use Rattle.erim_defs.specs.Machine.Access.{rights_in}
use Rattle.map_calls.proofs.protection.protect.Goals as goal

pub returns-then-is_protected-clause-answer : goal.returns-then-is_protected-clause-answer
returns-then-is_protected-clause-answer g c = λ s t sees p k.
    let is = c.in_ok-range.ensures in
    let right = is_right s c.args.addr c.args.len c.args.asked c.args.key is.0 c.requires.asked is.1
    k
    in
    let r = range_of c.args.addr c.args.len in
    let span = page_range c.in_ok-range.range in
    let rights = rights_in (g.P.Memory.seen c.args.pages.now) in
    let guard = protected_seen s t r span c.args.trust.now rights c.args.pkru c.is_protected.result
    sees.trust sees.rights p is.2 c.is_protected.ensures in
    protect_is s t c.args.addr c.args.len c.args.asked c.args.key true (is_denied_key
    (trust_of s) t.pkru c.args.key)
    (any_page r (λ q. is_none (s.rights q))) (not (asks_exec c.args.asked) && has_pin s r) (record {
      valid = right;
      guard = guard ∙ c.if-is_protected.true;
      closed = refl;
      holes = refl;
      pin = refl;
    })

pub returns-then-has_unmapped-clause-answer : goal.returns-then-has_unmapped-clause-answer
returns-then-has_unmapped-clause-answer g c = λ s t sees p k.
    let is = c.in_ok-range.ensures in
    let right = is_right s c.args.addr c.args.len c.args.asked c.args.key is.0 c.requires.asked is.1
    k
    in
    let r = range_of c.args.addr c.args.len in
    let span = page_range c.in_ok-range.range in
    let rights = rights_in (g.P.Memory.seen c.args.pages.now) in
    let guard = protected_seen s t r span c.args.trust.now rights c.args.pkru c.is_protected.result
    sees.trust sees.rights p is.2 c.is_protected.ensures in
    let closed = closed_seen s t c.args.trust.now c.args.pkru c.args.key c.is_denied_key.result
    sees.trust p
    c.is_denied_key.ensures in
    let holes = holes_seen s r span rights c.has_unmapped.result sees.rights is.2
    c.has_unmapped.ensures in
    protect_is s t c.args.addr c.args.len c.args.asked c.args.key false false true
    (not (asks_exec c.args.asked) && has_pin s r) (record {
      valid = right;
      guard = guard ∙ c.if-is_protected.false;
      closed = closed ∙ c.if-is_denied_key.false;
      holes = holes ∙ c.if-has_unmapped.true;
      pin = refl;
    })

pub returns-then-loses_pin-clause-answer : goal.returns-then-loses_pin-clause-answer
returns-then-loses_pin-clause-answer g c = λ s t sees p k.
    let is = c.in_ok-range.ensures in
    let right = is_right s c.args.addr c.args.len c.args.asked c.args.key is.0 c.requires.asked is.1
    k
    in
    let r = range_of c.args.addr c.args.len in
    let span = page_range c.in_ok-range.range in
    let rights = rights_in (g.P.Memory.seen c.args.pages.now) in
    let guard = protected_seen s t r span c.args.trust.now rights c.args.pkru c.is_protected.result
    sees.trust sees.rights p is.2 c.is_protected.ensures in
    let closed = closed_seen s t c.args.trust.now c.args.pkru c.args.key c.is_denied_key.result
    sees.trust p
    c.is_denied_key.ensures in
    let holes = holes_seen s r span rights c.has_unmapped.result sees.rights is.2
    c.has_unmapped.ensures in
    let pin = lost_seen s r span c.args.threads.now c.args.asked c.loses_pin.result sees.threads
    is.2
    c.loses_pin.ensures in
    protect_is s t c.args.addr c.args.len c.args.asked c.args.key false false false true (record {
      valid = right;
      guard = guard ∙ c.if-is_protected.false;
      closed = closed ∙ c.if-is_denied_key.false;
      holes = holes ∙ c.if-has_unmapped.false;
      pin = pin ∙ c.if-loses_pin.true;
    })

pub returns-clause-answer : goal.returns-clause-answer
returns-clause-answer g c = λ s t sees p k.
    let is = c.in_ok-range.ensures in
    let right = is_right s c.args.addr c.args.len c.args.asked c.args.key is.0 c.requires.asked is.1
    k
    in
    let r = range_of c.args.addr c.args.len in
    let span = page_range c.in_ok-range.range in
    let rights = rights_in (g.P.Memory.seen c.args.pages.now) in
    let guard = protected_seen s t r span c.args.trust.now rights c.args.pkru c.is_protected.result
    sees.trust sees.rights p is.2 c.is_protected.ensures in
    let closed = closed_seen s t c.args.trust.now c.args.pkru c.args.key c.is_denied_key.result
    sees.trust p
    c.is_denied_key.ensures in
    let holes = holes_seen s r span rights c.has_unmapped.result sees.rights is.2
    c.has_unmapped.ensures in
    let pin = lost_seen s r span c.args.threads.now c.args.asked c.loses_pin.result sees.threads
    is.2
    c.loses_pin.ensures in
    let new = c.ask_range.new.pages in
    protect_is s t c.args.addr c.args.len c.args.asked c.args.key false false false false (record {
      valid = right;
      guard = guard ∙ c.if-is_protected.false;
      closed = closed ∙ c.if-is_denied_key.false;
      holes = holes ∙ c.if-has_unmapped.false;
      pin = pin ∙ c.if-loses_pin.false;
    })
    ∙ ap (λ (x : Change). Answer 0 x) (asked_seen s t r span c.args.asked c.args.key rights
    (rights_in (g.P.Memory.seen new)) (g.P.Memory.bytes c.args.pages.now) (g.P.Memory.bytes new)
    sees.rights sees.bytes is.2 c.ask_range.ensures.rights c.ask_range.ensures.bytes)
