use Rattle.std.proofs.Common.{inl, inr}
use Rattle.erim_defs.specs.Output.Texts.{error_line}
use Rattle.erim_commands.specs.Delivery.{world}
use Rattle.erim_commands.specs.Replies.{line_reply}
use Rattle.erim_commands.proofs.DeliveryLemmas.{delivers_put, holds_more, puts_as, unloaded}
use Rattle.erim_commands.proofs.loads.load.Goals as goal

pub returns-in-Err-Failed : goal.returns-in-Err-Failed
unfolding error_line
returns-in-Err-Failed g c =
    let old = world g.S.Store g.K.Sink c.args.store.now c.args.out.now in
    let new = world g.S.Store g.K.Sink c.load.new.self c.put.new.out in
    let load = rw c.in-Err-Failed.field-0-is at c.in-Err-Failed.ensures in
    λ text line. inr (inl (unloaded c.args.name.now old new c.put.result load.loads load.saves
    load.kept c.put.ensures))

pub returns-in-Err-TooLarge : goal.returns-in-Err-TooLarge
returns-in-Err-TooLarge g c =
    let old = world g.S.Store g.K.Sink c.args.store.now c.args.out.now in
    let new = world g.S.Store g.K.Sink c.load.new.self c.put-in-Err-TooLarge.new.out in
    let load = rw c.in-Err-TooLarge.field-0-is at c.in-Err-TooLarge.ensures in
    λ text line. inl (
      holds_more c.args.name.now old.held c.args.limit c.in-Err-TooLarge.field-0-0 load.too_large.0
          load.too_large.1,
      delivers_put (line_reply c.args.status text) old new c.put-in-Err-TooLarge.result
          (record { held = load.kept; loads = load.loads; saves = load.saves })
          (puts_as c.code_of.result _ c.args.line.now (error_line text) old new
          c.put-in-Err-TooLarge.result c.code_of.ensures line c.put-in-Err-TooLarge.ensures),
    )
