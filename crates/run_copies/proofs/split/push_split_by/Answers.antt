use Rattle.std.proofs.Common.{refl, sym, ap, ◌∙◌, arith}
use Rattle.std.specs.Prelude.{is_some}
use Rattle.run_copies.proofs.SplitLemmas.{front_of, no_split, some_split, split_asked}
use Rattle.run_copies.proofs.SplitLemmas.{split_less_none}
use Rattle.run_copies.proofs.split.push_split_by.Goals as goal

pub returns-in_default-clause-fits : goal.returns-in_default-clause-fits
returns-in_default-clause-fits c =
    sym (ap is_some (split_less_none _ _ (sym c.less.ensures ∙ c.in_default.is)))

pub returns-in_default-clause-bytes : goal.returns-in_default-clause-bytes
returns-in_default-clause-bytes c =
    no_split _ _ _ refl (split_less_none _ _ (sym c.less.ensures ∙ c.in_default.is))

pub returns-then-is_quiet-clause-fits : goal.returns-then-is_quiet-clause-fits
returns-then-is_quiet-clause-fits c =
    sym (ap is_some (split_asked _ c.in-Some.mov _ c.args.d c.args.bytes.now.items _ _ _ _ _ _
    (sym c.less.ensures ∙ c.in-Some.is) c.adding.ensures c.in_ok-push_canonical.ensures.bytes
    c.in_ok-push_canonical-2.ensures.bytes c.deref.ensures.value
    (omega (arith, c.len-start.ensures, c.args.bytes.now.ok.0)) c.is_quiet.ensures
    c.if-is_quiet.true))

pub returns-then-is_quiet-clause-bytes : goal.returns-then-is_quiet-clause-bytes
returns-then-is_quiet-clause-bytes c =
    some_split _ _ _ _ _ _ c.in_ok-push_canonical.ensures.bytes
    c.in_ok-push_canonical-2.ensures.bytes
    (split_asked _ c.in-Some.mov _ c.args.d c.args.bytes.now.items _ _ _ _ _ _
    (sym c.less.ensures ∙ c.in-Some.is) c.adding.ensures c.in_ok-push_canonical.ensures.bytes
    c.in_ok-push_canonical-2.ensures.bytes c.deref.ensures.value
    (omega (arith, c.len-start.ensures, c.args.bytes.now.ok.0)) c.is_quiet.ensures
    c.if-is_quiet.true)

pub returns-clause-fits : goal.returns-clause-fits
returns-clause-fits c =
    sym (ap is_some (split_asked _ c.in-Some.mov _ c.args.d c.args.bytes.now.items _ _ _ _ _ _
    (sym c.less.ensures ∙ c.in-Some.is) c.adding.ensures c.in_ok-push_canonical.ensures.bytes
    c.in_ok-push_canonical-2.ensures.bytes c.deref.ensures.value
    (omega (arith, c.len-start.ensures, c.args.bytes.now.ok.0)) c.is_quiet.ensures
    c.if-is_quiet.false))

pub returns-clause-bytes : goal.returns-clause-bytes
returns-clause-bytes c =
    no_split _ _ _
    (c.truncate.ensures.items
    ∙ front_of c.args.bytes.now.items _ _ _ _ c.len-start.result
    c.in_ok-push_canonical.ensures.bytes c.in_ok-push_canonical-2.ensures.bytes
    (omega (arith, c.len-start.ensures, c.args.bytes.now.ok.0)))
    (split_asked _ c.in-Some.mov _ c.args.d c.args.bytes.now.items _ _ _ _ _ _
    (sym c.less.ensures ∙ c.in-Some.is) c.adding.ensures c.in_ok-push_canonical.ensures.bytes
    c.in_ok-push_canonical-2.ensures.bytes c.deref.ensures.value
    (omega (arith, c.len-start.ensures, c.args.bytes.now.ok.0)) c.is_quiet.ensures
    c.if-is_quiet.false)
