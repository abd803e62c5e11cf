-- What contracts say of the end of a process.
use Rattle.std.specs.Prelude.{ℕ, Option, Some, None}
use Rattle.erim_defs.specs.declared.machine.End.{End}
use Rattle.erim_defs.specs.declared.machine.End.TheVariants.{Exit, Fault, Refused}

-- where a page was refused, this holds of it
abbrev pub IfRefused : (ℕ → Type 0) → Option End → Type 0
IfRefused P None = Unit {0}
IfRefused P (Some (Exit code)) = Unit {0}
IfRefused P (Some (Fault t rip cause a)) = Unit {0}
IfRefused P (Some (Refused page found t)) = P page
