-- Instructions that end near the start of the first. Own.
use Rattle.std.specs.Prelude.{◌+◌, ◌≤◌, ◌^◌, List}
use Rattle.std.specs.List.{All}
use Rattle.erim_defs.specs.Rewriting.Standing.{Standing, insn_end}
use Rattle.erim_defs.specs.Rewriting.Sites.{start_of}

-- each ends after the start of the first, and at most 2 ^ 24 bytes from it
abbrev pub IsShort : List Standing → Type 0
IsShort is = All (λ i. (start_of is ≤ insn_end i) × (insn_end i ≤ start_of is + 2 ^ 24)) is
