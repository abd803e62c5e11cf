use Rattle.erim_defs.specs.Rewriting.Sites.{Region}
use Rattle.std.proofs.Common.{ℕ, ◌≡◌, ◌+◌, ◌∙◌, ◌++◌, List, drop, get_or, arith, sym, ap}
use Rattle.std.proofs.lemmas.List.{length-set, length_push}
use Rattle.erim_defs.specs.Rewriting.Layout.{piece}
use Rattle.erim_defs.specs.Rewriting.NewFile.{lies_elsewhere}
use Rattle.erim_defs.specs.Rewriting.Rewriting.{first_at}
use Rattle.copy_layout.specs.Trials.{trial_of, under_of}
use Rattle.copy_layout.proofs.LayoutLemmas.{laid_ends, laid_next, laid_stops, made_at}
use Rattle.copy_layout.proofs.LayoutLemmas.{patches_set, segment_push, trial_here}
use Rattle.copy_layout.proofs.layout.lay_over.Goals as goal

pub returns-in_default : goal.returns-in_default
returns-in_default c =
    let rs = c.args.regions.now in
    let i = c.loop-region.region-index in
    let d = c.region-item.result in
    let ks = c.loop-region.layout.copies.items in
    let code = c.args.code.now in
    let base = c.new_base-base.result in
    let known = c.loop-region.invariant in
    let among = c.among-trial.ensures in
    let here = trial_here c.among-trial.result code base ks rs i c.len-index.result d
    c.loop-region.patches.items among.code among.base
    (among.segment ∙ c.as_slice.ensures.value ∙ known.segment)
    (rw c.deref.ensures.value at among.before) (rw c.deref.ensures.value at among.after)
    known.patches known.count (omega arith) (omega arith) in
    let made = made_at (lies_elsewhere c.args.image.now) c.among-trial.result
    (trial_of code base ks (drop (i + 1) rs)) d (get_or rs i d) c.in_ok-copy.field-0 here
    c.region-item.is c.in_ok-copy.ensures in (
      get_or rs i d,
      sym known.told ∙ laid_stops (lies_elsewhere c.args.image.now) code base ks rs i d
          (omega arith) (made ∙ c.in_default.is),
      c.first_at.ensures ∙ ap first_at c.elements.ensures.elements
          ∙ ap (λ (r : Region). first_at r.elements) c.region-item.is,
    )

pub loop-region-preserved : goal.loop-region-preserved
loop-region-preserved c =
    let rs = c.args.regions.now in
    let i = c.loop-region.region-index in
    let d = c.region-item.result in
    let ks = c.loop-region.layout.copies.items in
    let k = c.in-Some.copy in
    let code = c.args.code.now in
    let base = c.new_base-base.result in
    let known = c.loop-region.invariant in
    let among = c.among-trial.ensures in
    let at : c.len-index.result ≡ i = omega arith in
    let here = trial_here c.among-trial.result code base ks rs i c.len-index.result d
    c.loop-region.patches.items among.code among.base
    (among.segment ∙ c.as_slice.ensures.value ∙ known.segment)
    (rw c.deref.ensures.value at among.before) (rw c.deref.ensures.value at among.after)
    known.patches known.count at (omega arith) in
    let made = made_at (lies_elsewhere c.args.image.now) c.among-trial.result
    (trial_of code base ks (drop (i + 1) rs)) d (get_or rs i d) c.in_ok-copy.field-0 here
    c.region-item.is c.in_ok-copy.ensures in
    let next = laid_next (lies_elsewhere c.args.image.now) code base ks rs i d k
    (omega arith) (made ∙ c.in-Some.is) in
    let pushed = c.in_ok-add_copy.ensures.copies in
    record {
      told = rw pushed (sym next ∙ known.told);
      segment = rw pushed
          (c.in_ok-add_copy.ensures.segment
          ∙ ap (λ (x : List ℕ). x ++ piece k) known.segment ∙ sym (segment_push ks k));
      patches = rw (pushed, at)
          (patches_set c.loop-region.patches.items c.of_copy.result ks k rs i d
          known.patches known.count (omega arith) c.of_copy.ensures);
      count = rw pushed (length_push ks k ∙ ap (λ (n : ℕ). n + 1) known.count);
      room = length-set c.loop-region.patches.items c.len-index.result c.of_copy.result
          ∙ known.room;
    }

pub returns : goal.returns
returns c =
    let known = c.loop-region.invariant in
    let rs = c.args.regions.now in (
      sym known.told ∙ laid_ends (lies_elsewhere c.args.image.now)
          (under_of c.args.code.now c.new_base-base.result) c.loop-region.layout.copies.items rs
          c.loop-region.region-index (omega arith),
      known.segment,
    )
