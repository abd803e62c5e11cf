use Rattle.std.proofs.Common.{◌≡◌, ℕ, ◌+◌, Option, refl, ◌∙◌, ap, arith, add-one}
use Rattle.erim_defs.specs.declared.grammar.Row.{Row}
use Rattle.erim_defs.specs.Encoding.Decoding.{row_at, sooner_stop, stop_of, least_modrm, modrm_stop}
use Rattle.x86_decode.proofs.body.modrm_stop.Goals as goal

least_step : (rows : ℕ → Option Row) (n : ℕ)
    → least_modrm rows (n + 1) ≡ sooner_stop (stop_of (rows n) n) (least_modrm rows n)
unfolding least_modrm
least_step rows n = rw add-one refl

pub loop-m-init : goal.loop-m-init
unfolding least_modrm
loop-m-init c = refl

pub loop-m-preserved : goal.loop-m-preserved
loop-m-preserved c = let step =
    least_step (row_at c.args.lead c.args.escape c.args.op) c.loop-m.m in cc

pub returns : goal.returns
unfolding modrm_stop
returns c = let e : c.loop-m.m ≡ 256 = omega arith in c.loop-m.invariant
    ∙ ap (least_modrm (row_at c.args.lead c.args.escape c.args.op)) e
