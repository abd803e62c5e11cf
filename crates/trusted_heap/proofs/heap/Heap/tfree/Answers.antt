use Rattle.std.proofs.Common.{◌∙◌, sym, ap}
use Rattle.trusted_heap.proofs.CallLemmas.{free_closed, free_nothing, free_some}
use Rattle.trusted_heap.proofs.heap.Heap.tfree.Goals as goal

pub returns-then-not-opened-clause-answer : goal.returns-then-not-opened-clause-answer
returns-then-not-opened-clause-answer c = λ s t b o.
    free_closed s t c.args.addr (o ∙ c.if-not-opened.true)

pub returns-then-not-is_live-clause-answer : goal.returns-then-not-is_live-clause-answer
returns-then-not-is_live-clause-answer c = λ s t b o.
    free_nothing s t c.args.self.now.blocks c.args.addr (o ∙ c.if-not-opened.false) b
    (sym c.is_live.ensures ∙ c.if-not-is_live.true)

pub returns-clause-answer : goal.returns-clause-answer
returns-clause-answer c = λ s t b o.
    free_some s t c.args.self.now.blocks c.remove.new.self.blocks c.args.addr
    (o ∙ c.if-not-opened.false) b (sym c.is_live.ensures ∙ c.if-not-is_live.false)
    (ap (λ v. v.blocks) c.remove.ensures)
