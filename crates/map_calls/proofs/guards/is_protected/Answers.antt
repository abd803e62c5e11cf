use Rattle.std.proofs.Common.{◌≡◌, ◌||◌, ◌∙◌, refl, Bool, true, false}
use Rattle.erim_defs.specs.Machine.MapCalls.{any_page}
use Rattle.erim_defs.specs.Machine.MapCalls.{is_denied_page}
use Rattle.map_calls.specs.Ranges.{page_range}
use Rattle.map_calls.proofs.GuardLemmas.{protects_by}
use Rattle.erim_defs.specs.Machine.Access.{rights_in}
use Rattle.map_calls.proofs.guards.is_protected.Goals as goal

text_decides : (text rest : Bool) → text ≡ true → text ≡ (text || rest)
text_decides text rest t = rw t refl

key_decides : (text keyed : Bool) → text ≡ false → keyed ≡ (text || keyed)
key_decides text keyed f = rw f refl

pub returns-then-has_text : goal.returns-then-has_text
returns-then-has_text g c =
    let rights = rights_in (g.P.Memory.seen c.args.pages.now) in
    let r = page_range c.args.range.now in
    let keyed = any_page r (λ q. is_denied_page c.args.trust.now c.args.pkru (rights q)) in
    text_decides c.has_text.result keyed c.if-has_text.true
    ∙ protects_by c.args.trust.now rights c.args.pkru r c.has_text.result keyed
    c.has_text.ensures refl

pub returns-else-has_text : goal.returns-else-has_text
returns-else-has_text g c =
    key_decides c.has_text.result c.has_denied_page.result c.if-has_text.false
    ∙ protects_by c.args.trust.now (rights_in (g.P.Memory.seen c.args.pages.now)) c.args.pkru
    (page_range c.args.range.now) c.has_text.result c.has_denied_page.result
    c.has_text.ensures c.has_denied_page.ensures
