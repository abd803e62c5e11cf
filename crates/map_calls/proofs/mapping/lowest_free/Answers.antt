use Rattle.std.proofs.Common.{◌<◌, ◌^◌, refl, arith, inl, inr}
use Rattle.std.proofs.lemmas.Bool.{cases_lt}
use Rattle.map_calls.proofs.FreeLemmas.{free_from, lowest_found, lowest_none, not_mapped, taken_by}
use Rattle.erim_defs.specs.Machine.Access.{rights_in}
use Rattle.map_calls.proofs.mapping.lowest_free.Goals as goal

pub loop-page-preserved : goal.loop-page-preserved
loop-page-preserved g c =
    let rights = rights_in (g.P.Memory.seen c.args.pages.now) in
    let l = c.loop-page in
    let p = c.in-Some.page in
    let page = c.in-Some.ensures in
    let low = page.0 in
    let high = page.1 in
    let from = l.invariant.from in
    let user : p < 2 ^ 35 = elim (cases_lt p (2 ^ 35)) [
      | inl below ↦ below
      | inr past ↦
          absurd (not_mapped (rights p) page.2 (g.met.P.Memory.low c.args.pages.now p past))
    ] in
    record {
      from = omega (arith, from, low);
      low = omega (arith, user);
      taken = λ k t. elim (cases_lt k l.first) [
        | inl before ↦ l.invariant.taken k before
        | inr behind ↦ taken_by rights c.args.count k p (omega (arith, t))
            (omega (arith, high, behind)) page.2
      ];
    }

pub returns-then-first-count-gt-USER_END_PAGE : goal.returns-then-first-count-gt-USER_END_PAGE
returns-then-first-count-gt-USER_END_PAGE g c = (
  refl,
  lowest_none (rights_in (g.P.Memory.seen c.args.pages.now)) c.args.count c.loop-page.first
      c.if-first-count-gt-USER_END_PAGE.true c.loop-page.invariant.taken,
)

pub returns : goal.returns
returns g c =
    let rights = rights_in (g.P.Memory.seen c.args.pages.now) in
    let l = c.loop-page in
    let high = c.if-first-count-gt-USER_END_PAGE.false in (
      refl,
      lowest_found rights c.args.count l.first c.requires.some high
          (free_from rights c.args.count l.first l.invariant.from high c.in_default.ensures)
          l.invariant.taken,
      c.in_default.ensures,
    )
