use Rattle.std.proofs.Common.{◌≡◌, ◌∙◌, ◌+◌, ◌/◌, length, sym, ap, arith, None}
use Rattle.trusted_heap.proofs.CallLemmas.{alloc_closed, alloc_nothing, alloc_full, alloc_from}
use Rattle.trusted_heap.proofs.CallLemmas.{alloc_some}
use Rattle.trusted_heap.proofs.FitLemmas.{fit_holds}
use Rattle.trusted_heap.proofs.heap.Heap.talloc.Goals as goal

pub returns-then-not-opened-clause-answer : goal.returns-then-not-opened-clause-answer
returns-then-not-opened-clause-answer c = λ s t h b o.
    alloc_closed s t c.args.len (o ∙ c.if-not-opened.true)

pub returns-then-len-eq0-clause-answer : goal.returns-then-len-eq0-clause-answer
returns-then-len-eq0-clause-answer c = λ s t h b o.
    alloc_nothing s t c.args.len (o ∙ c.if-not-opened.false) c.if-len-eq0.true

pub returns-then-blocks-ge-MOST_BLOCKS-clause-answer :
    goal.returns-then-blocks-ge-MOST_BLOCKS-clause-answer
returns-then-blocks-ge-MOST_BLOCKS-clause-answer c = λ s t h b o.
    let same = ap length c.blocks-2.ensures.blocks in
    let full = c.if-blocks-ge-MOST_BLOCKS.true in
    alloc_full s t c.args.self.now.blocks c.args.len (o ∙ c.if-not-opened.false)
    c.if-len-eq0.false b (omega (arith, same, full))

pub returns-in-Some-clause-answer : goal.returns-in-Some-clause-answer
returns-in-Some-clause-answer c = λ s t h b o.
    let same = ap length c.blocks-2.ensures.blocks in
    let room = c.if-blocks-ge-MOST_BLOCKS.false in
    let from = c.div_ceil-count.ensures in
    let ceil : c.div_ceil-count.result ≡ (c.args.len + 15) / 16 = omega (arith, from) in
    alloc_some s t c.args.self.now.heaps c.args.self.now.blocks c.add.new.self.blocks c.args.len
    c.div_ceil-count.result c.in-Some.unit (o ∙ c.if-not-opened.false) c.if-len-eq0.false h b
    (omega (arith, same, room)) ceil (sym c.in-Some.is ∙ c.first_fit.ensures.first)
    (ap (λ v. v.blocks) c.add.ensures)

pub returns-in-None-clause-answer : goal.returns-in-None-clause-answer
returns-in-None-clause-answer c = λ s t h b o.
    let same = ap length c.blocks-2.ensures.blocks in
    let room = c.if-blocks-ge-MOST_BLOCKS.false in
    let from = c.div_ceil-count.ensures in
    let ceil : c.div_ceil-count.result ≡ (c.args.len + 15) / 16 = omega (arith, from) in
    alloc_from s t c.args.self.now.heaps c.args.self.now.blocks c.args.len
    c.div_ceil-count.result None (o ∙ c.if-not-opened.false) c.if-len-eq0.false h b
    (omega (arith, same, room)) ceil (sym c.in-None.is ∙ c.first_fit.ensures.first)

pub add-requires-clause-within : goal.add-requires-clause-within
add-requires-clause-within c = (fit_holds c.args.self.now.heaps c.args.self.now.blocks
    c.div_ceil-count.result c.in-Some.unit (sym c.in-Some.is ∙ c.first_fit.ensures.first)).0

pub add-requires-clause-free : goal.add-requires-clause-free
add-requires-clause-free c = (fit_holds c.args.self.now.heaps c.args.self.now.blocks
    c.div_ceil-count.result c.in-Some.unit (sym c.in-Some.is ∙ c.first_fit.ensures.first)).1
