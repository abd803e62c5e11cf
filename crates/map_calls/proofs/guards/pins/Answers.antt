use Rattle.std.proofs.Common.{◌≡◌, ◌&&◌, ◌∙◌, refl, sym, ap, Bool, true, false, None}
use Rattle.erim_defs.specs.Machine.MapCalls.{any_page, has_byte_on}
use Rattle.map_calls.specs.Ranges.{page_range}
use Rattle.map_calls.proofs.RangeLemmas.{any_page_none}
use Rattle.map_calls.proofs.guards.pins.Goals as goal

never : (b : Bool) → (b && false) ≡ false
never true = refl
never false = refl

pub returns-in-None : goal.returns-in-None
returns-in-None c =
    let r = page_range c.args.range.now in
    let none : any_page r (has_byte_on None) ≡ false =
    any_page_none r (has_byte_on None) (λ q low high. refl) in
    sym (ap (λ o. c.args.thread.now.live && any_page r (has_byte_on o)) c.in-None.is
    ∙ (ap (λ b. c.args.thread.now.live && b) none ∙ never c.args.thread.now.live))
