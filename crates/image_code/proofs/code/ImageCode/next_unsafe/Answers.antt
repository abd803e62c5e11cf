use Rattle.std.proofs.Common.{◌≡◌, ◌<◌, ◌∙◌, get_or, length, take, sym}
use Rattle.std.proofs.lemmas.List.{take_all}
use Rattle.std.proofs.lemmas.List.Elements.{All-more}
use Rattle.image_code.specs.Stretches.{AreApart, code_in}
use Rattle.image_code.proofs.CodeLemmas.{IsClear, clear_all, clear_stretch, first_of_stretch}
use Rattle.image_code.proofs.code.ImageCode.next_unsafe.Goals as goal

pub returns-in-Some : goal.returns-in-Some
returns-in-Some c =
    let ss = c.args.self.now in
    let s = c.stretch-item.result in
    let i = c.loop-stretch.stretch-index in
    let same = c.deref-stretch-items.ensures.value ∙ c.self.view_is in
    let item : get_or ss i s ≡ s = sym (rw same at c.stretch-item.is) in
    let apart : AreApart ss = rw c.self.view_is at c.self.invariant in
    first_of_stretch c.args.trust.now ss i s c.args.from c.in-Some.found apart
    (rw same at c.loop-stretch-test.true) c.loop-stretch.invariant (rw item c.in-Some.ensures)

pub loop-stretch-preserved : goal.loop-stretch-preserved
loop-stretch-preserved c =
    let trust = c.args.trust.now in
    let ss = c.args.self.now in
    let s = c.stretch-item.result in
    let i = c.loop-stretch.stretch-index in
    let same = c.deref-stretch-items.ensures.value ∙ c.self.view_is in
    let item : get_or ss i s ≡ s = sym (rw same at c.stretch-item.is) in
    let within : i < length ss = rw same at c.loop-stretch-test.true in
    let apart : AreApart ss = rw c.self.view_is at c.self.invariant in
    All-more (IsClear trust (code_in ss) c.args.from) ss i s within c.loop-stretch.invariant
    (clear_stretch trust ss i s c.args.from apart within (rw item c.in_default.ensures))

pub returns : goal.returns
returns c =
    let ss = c.args.self.now in
    let same = c.deref-stretch-items.ensures.value ∙ c.self.view_is in
    let all : take c.loop-stretch.stretch-index ss ≡ ss =
    take_all c.loop-stretch.stretch-index ss (rw same at c.loop-stretch-test.false) in
    clear_all c.args.trust.now ss c.args.from (rw all at c.loop-stretch.invariant)
