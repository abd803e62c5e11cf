use Rattle.std.proofs.Common.{◌≡◌, drop}
use Rattle.erim_defs.specs.Rewriting.Sites.{first_of, in_function, insns_in}
use Rattle.rewrite_sites.proofs.program.insns_at.Given as goal

abbrev pub invariant-loop-function : goal.invariant-loop-function
invariant-loop-function l =
    insns_in (first_of (in_function l.a) (drop l.function-index l.functions))
    ≡ insns_in (first_of (in_function l.a) l.functions)
