use Rattle.std.proofs.Common.{◌≡◌, ◌+◌, ◌∙◌, sym, drop, get_or, Err, rules}
use Rattle.std.proofs.lemmas.List.{drop_all, drop_more}
use Rattle.erim_defs.specs.declared.machine.Entry.{Entry}
use Rattle.thread_runner.proofs.ReplayLemmas.{AreDone, done_over, done_unfinished, no_rest}
use Rattle.thread_runner.proofs.ReplayLemmas.{rest_broken, rest_on}
use Rattle.thread_runner.proofs.replays.make_entries.Goals as goal
use Rattle.thread_runner.proofs.replays.make_entries.Goals.{After-loop-index}

abbrev no_entry : Entry
no_entry = record { worker = 0; thread = 0; count = 0 }

pub returns-in_err-make_steps-clause-exact : goal.returns-in_err-make_steps-clause-exact
returns-in_err-make_steps-clause-exact c =
    let e : c.from_residual.result ≡ Err c.in_err-make_steps.field-0.0 = search rules in
    let entries = c.args.entries.now in
    let index = c.loop-index.index in
    let low = c.loop-index-test.true in
    rw e (rest_broken entries c.args.process.now c.loop-index.process index
    (get_or entries index no_entry) (drop index entries) (drop (index + 1) entries)
    c.in_err-make_steps.field-0.0 c.loop-index.invariant (drop_more entries index no_entry low)
    c.in_err-make_steps.ensures.exact)

pub loop-index-preserved : goal.loop-index-preserved
loop-index-preserved c =
    let entries = c.args.entries.now in
    let index = c.loop-index.index in
    let low = c.loop-index-test.true in
    rest_on entries c.args.process.now c.loop-index.process c.make_steps.new.process index
    (get_or entries index no_entry) (drop index entries) (drop (index + 1) entries)
    c.loop-index.invariant (drop_more entries index no_entry low)
    c.in_ok-make_steps.ensures.setup c.in_ok-make_steps.ensures.exact
    c.in_ok-make_steps.ensures.run c.in_ok-make_steps.ensures.journal

-- no entry is left behind the loop
done : (c : After-loop-index) → AreDone c.args.entries.now c.args.process.now c.loop-index.process
done c =
    no_rest c.args.entries.now c.args.process.now c.loop-index.process c.loop-index.index _
    c.loop-index.invariant (drop_all c.loop-index.index c.args.entries.now c.loop-index-test.false)

pub returns-then-is_over-clause-exact : goal.returns-then-is_over-clause-exact
returns-then-is_over-clause-exact c =
    done_over c.args.entries.now c.args.process.now c.loop-index.process
    (done (goal.at.returns-then-is_over-clause-exact c).After-loop-index)
    (sym c.is_over.ensures.value ∙ c.if-is_over.true)

pub returns-else-is_over-clause-exact : goal.returns-else-is_over-clause-exact
returns-else-is_over-clause-exact c =
    done_unfinished c.args.entries.now c.args.process.now c.loop-index.process
    (done (goal.at.returns-else-is_over-clause-exact c).After-loop-index)
    (sym c.is_over.ensures.value ∙ c.if-is_over.false)
