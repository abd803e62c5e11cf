use Rattle.std.proofs.Common.{◌≡◌, ◌≤◌, ◌+◌, ◌-◌, ◌++◌, length, false, None}
use Rattle.erim_defs.specs.Machine.Access.{stop, whole}
use Rattle.erim_defs.specs.Machine.Pages.{bytes_of_range}
use Rattle.erim_defs.specs.Machine.Access.{rights_in}
use Rattle.sys_calls.proofs.write_call.copy_bytes.Given as goal

abbrev pub invariant-loop-step : goal.invariant-loop-step
invariant-loop-step g l =
    (g.P.Memory.seen l.pages ≡ g.P.Memory.seen l.initial.pages)
    × (g.P.Memory.bytes l.pages ≡ g.P.Memory.bytes l.initial.pages)
    × (g.P.Memory.frames l.pages ≡ g.P.Memory.frames l.initial.pages)
    × (stop (whole (rights_in (g.P.Memory.seen l.initial.pages))) false l.pkru (l.buf + l.step)
    (l.n - l.step) ≡ None)
    × (length l.output + (l.n - l.step) ≤ 1048576)
    × (l.output ++ bytes_of_range (g.P.Memory.bytes l.initial.pages) (l.buf + l.step)
    (l.n - l.step)
    ≡ l.initial.output ++ bytes_of_range (g.P.Memory.bytes l.initial.pages) l.buf l.n)
