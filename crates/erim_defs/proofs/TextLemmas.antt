-- How numbers are printed with zeros in front.
use Rattle.std.proofs.Common.{◌≡◌, ℕ, ◌-◌, ◌^◌, List, [], ◌++◌, length, false, replicate, ap, arith}
use Rattle.std.specs.Fmt.{padded_integral, format_spec, char_count}
use Rattle.std.proofs.lemmas.List.{append-nil}
use Rattle.erim_defs.specs.Output.Texts.{zero_filled}

-- a width with zeros in front
pub zeros_in_front : (width : ℕ) (numeral : List ℕ)
    → padded_integral (format_spec 32 0 4 width (2 ^ 64 - 1)) false [] numeral
    ≡ zero_filled width numeral
unfolding padded_integral char_count
zeros_in_front width numeral =
    let left : width - length numeral - 0 - char_count [] ≡ width - length numeral = omega arith in
    rw left (ap (λ (ds : List ℕ). replicate (width - length numeral) 48 ++ ds) (append-nil numeral))
