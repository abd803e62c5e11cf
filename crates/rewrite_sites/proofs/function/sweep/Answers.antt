use Rattle.std.proofs.Common.{◌∙◌, length, sym, arith}
use Rattle.std.proofs.lemmas.List.{length-drop}
use Rattle.rewrite_sites.proofs.SweptLemmas.{told_next, told_end, told_whole}
use Rattle.rewrite_sites.proofs.function.sweep.Goals as goal

pub sweeping-preserved : goal.sweeping-preserved
sweeping-preserved c =
    let i = c.in-Some.insn in
    let room = c.in-Some.ensures.room in
    let user = c.sweeping.invariant.user in
    rw (c.in_ok-push.ensures.items, c.bytes_behind-rest.ensures, c.len-len.ensures.len) (record {
      told = told_next _ _ _ _ _ i c.sweeping.invariant.told c.in-Some.ensures.standing
          c.in-Some.ensures.place room.0 room.1;
      user = omega (arith, user, room.0, room.1, length-drop (length i.bytes) c.sweeping.rest.now);
    })

pub returns-clause-list : goal.returns-clause-list
returns-clause-list c =
    told_end _ _ _ _ _ c.sweeping.invariant.told
    (sym c.in_default.is ∙ c.standing.ensures.standing)

pub returns-clause-whole : goal.returns-clause-whole
returns-clause-whole c =
    c.is_empty.ensures ∙ told_whole _ _ _ _ _ c.sweeping.invariant.told
    (sym c.in_default.is ∙ c.standing.ensures.standing)
