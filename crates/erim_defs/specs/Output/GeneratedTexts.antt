-- What the program prints of a generated image, and of a run of one. Own.
use Rattle.std.specs.Prelude.{ℕ, false, List, ◌++◌, codes}
use Rattle.std.specs.List.{flat_map}
use Rattle.std.specs.Fmt.{digits, decimal}
use Rattle.erim_defs.specs.Machine.State.{State}
use Rattle.erim_defs.specs.Output.GeneratedImage.{seed_threads, seed_rounds}
use Rattle.erim_defs.specs.Output.Report.{end_text, escape_text}
use Rattle.erim_defs.specs.Output.Texts.{line, zero_filled}

-- two lower-case hexadecimal digits
abbrev pub byte_text : ℕ → List ℕ
byte_text byte = zero_filled 2 (digits 16 false byte)

abbrev pub bytes_text : List ℕ → List ℕ
bytes_text bytes = flat_map byte_text bytes

-- the seed, and what comes from it
abbrev pub seed_text : ℕ → List ℕ
seed_text seed = decimal seed ++ codes " threads " ++ decimal (seed_threads seed)
    ++ codes " rounds " ++ decimal (seed_rounds seed)

-- of a generated image that was saved, of a given number of bytes
unfoldable pub gen_line : ℕ → ℕ → List ℕ
gen_line seed count = line (codes "gen " ++ seed_text seed ++ codes " bytes " ++ decimal count)

-- of a run that led to a state: its output, its end, and its escape
unfoldable pub soak_line : ℕ → State → List ℕ
soak_line seed s = line (codes "soak " ++ seed_text seed ++ codes " output " ++ bytes_text s.output
    ++ codes " end " ++ end_text s.end ++ codes " escape " ++ escape_text s.escape)
