-- What a step answers. Own.
use Rattle.std.specs.Prelude.{ℕ, Option, Some, None, is_some, nat_le, slice_get}
use Rattle.std.specs.Prelude.{if◌then◌else◌}
use Rattle.erim_defs.specs.Machine.State.{State}
use Rattle.erim_defs.specs.Machine.Step.{if_live}
use Rattle.erim_defs.specs.declared.machine.Thread.{Thread}
use Rattle.erim_defs.specs.declared.stepped.Stepped.{Stepped}
use Rattle.erim_defs.specs.declared.stepped.Stepped.TheVariants.{Made, Ended, Spent, NotLive}

-- what a step of thread t answers
abbrev pub live_answer : Option Thread → Stepped
live_answer None = NotLive
live_answer (Some thread) = Made

abbrev pub step_answer : State → ℕ → Stepped
step_answer s t = if is_some s.end then Ended else if nat_le s.setup.budget s.steps then Spent
    else live_answer (if_live (slice_get s.threads t))
