use Rattle.std.proofs.Common.{◌≡◌, ◌+◌, ◌-◌, false}
use Rattle.erim_defs.specs.Machine.Access.{stop, whole}
use Rattle.erim_defs.specs.Machine.Access.{rights_in}
use Rattle.sys_calls.proofs.write_call.are_readable.Given as goal

abbrev pub invariant-loop-step : goal.invariant-loop-step
invariant-loop-step g l =
    (g.P.Memory.seen l.pages ≡ g.P.Memory.seen l.initial.pages)
    × (g.P.Memory.bytes l.pages ≡ g.P.Memory.bytes l.initial.pages)
    × (g.P.Memory.frames l.pages ≡ g.P.Memory.frames l.initial.pages)
    × (stop (whole (rights_in (g.P.Memory.seen l.initial.pages))) false l.pkru l.buf l.n
    ≡ stop (whole (rights_in (g.P.Memory.seen l.initial.pages))) false l.pkru (l.buf + l.step)
    (l.n - l.step))
