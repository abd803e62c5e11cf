use Rattle.std.proofs.Common.{◌≡◌, ◌∙◌, get_or, take, sym}
use Rattle.std.proofs.lemmas.List.{take_all}
use Rattle.image_code.specs.Stretches.{AreApart}
use Rattle.image_code.proofs.CodeLemmas.{same_code}
use Rattle.image_code.proofs.TextLemmas.{texts_before, texts_more, texts_nothing}
use Rattle.image_code.proofs.code.ImageCode.on_text.Goals as goal

pub loop-stretch-init : goal.loop-stretch-init
loop-stretch-init c = rw c.new-stretches.ensures.items (texts_nothing c.args.trust.now)

pub push_texts-requires-clause-before : goal.push_texts-requires-clause-before
push_texts-requires-clause-before c =
    let ss = c.args.self.now in
    let s = c.stretch-item.result in
    let i = c.loop-stretch.stretch-index in
    let same = c.deref-stretch-items.ensures.value ∙ c.self.view_is in
    let item : get_or ss i s ≡ s = sym (rw same at c.stretch-item.is) in
    let apart : AreApart ss = rw c.self.view_is at c.self.invariant in
    rw item at (texts_before c.args.trust.now ss i s c.loop-stretch.stretches.items apart
    (rw same at c.loop-stretch-test.true) c.loop-stretch.invariant)

pub loop-stretch-preserved : goal.loop-stretch-preserved
loop-stretch-preserved c =
    let ss = c.args.self.now in
    let s = c.stretch-item.result in
    let i = c.loop-stretch.stretch-index in
    let same = c.deref-stretch-items.ensures.value ∙ c.self.view_is in
    let item : get_or ss i s ≡ s = sym (rw same at c.stretch-item.is) in
    texts_more c.args.trust.now ss i s c.loop-stretch.stretches.items
    c.push_texts.new.stretches.items (rw same at c.loop-stretch-test.true)
    c.loop-stretch.invariant (rw item c.in_ok-push_texts.ensures)

pub returns : goal.returns
returns c =
    let ss = c.args.self.now in
    let same = c.deref-stretch-items.ensures.value ∙ c.self.view_is in
    let all : take c.loop-stretch.stretch-index ss ≡ ss =
    take_all c.loop-stretch.stretch-index ss (rw same at c.loop-stretch-test.false) in
    let has = rw all at c.loop-stretch.invariant in
    same_code _ _ has.same
