-- The lengths of what is encoded.
use Rattle.std.proofs.Common.{◌≡◌, ℕ, ◌+◌, ◌<◌, Bool, true, false, List, [], ◌∷◌, ◌++◌, length}
use Rattle.std.proofs.Common.{take, Option, Some, None, ap, arith}
use Rattle.std.proofs.lemmas.List.{length-append, length-take-le}
use Rattle.erim_defs.specs.declared.grammar.Lead.{Lead}
use Rattle.erim_defs.specs.declared.insn.Decoded.{Decoded}
use Rattle.erim_defs.specs.declared.insn.Decoded.TheVariants as outcomes
use Rattle.erim_defs.specs.Encoding.Grammar.{InsnAndSizes, HasFormat, f3_bytes, rex_bytes, lead_of}
use Rattle.erim_defs.specs.Encoding.Grammar.{Body, prefix_lead, with_f3, with_rex}
use Rattle.erim_defs.specs.Encoding.Decodes.{Decodes}
use Rattle.erim_defs.specs.Encoding.Decodes.{IsWhole}
use Rattle.encoding_laws.proofs.FrontLemmas.{body_empty}
use Rattle.encoding_laws.proofs.FieldLemmas.{body_says}

pub lead_skip : (prefixes : List ℕ) (f3 : Bool) (rex : Option ℕ)
    → (lead_of prefixes f3 rex).skip
    ≡ length prefixes + (length (f3_bytes f3) + length (rex_bytes rex))
unfolding prefix_lead with_f3 with_rex
lead_skip prefixes true (Some b) = omega arith
lead_skip prefixes true None = omega arith
lead_skip prefixes false (Some b) = omega arith
lead_skip prefixes false None = omega arith

body_long : (lead : Lead) (t : List ℕ) (a : InsnAndSizes) → Body lead t a → 0 < length t
body_long lead [] a h = absurd (body_empty lead a h)
body_long lead (b ∷ u) a h = omega arith

-- the opcode stands in the bytes, after skip of them
pub format_long : (bytes : List ℕ) (a : InsnAndSizes) → HasFormat bytes a → a.1 < length bytes
format_long bytes a w =
    let lead = lead_of w.prefixes w.f3 w.rex in
    let says : a.1 ≡ lead.skip = (body_says lead w.body a w.line).bare in
    let skip = lead_skip w.prefixes w.f3 w.rex in
    let more = body_long lead w.body a w.line in
    let one = length-append w.prefixes (f3_bytes w.f3 ++ (rex_bytes w.rex ++ w.body)) in
    let two = length-append (f3_bytes w.f3) (rex_bytes w.rex ++ w.body) in
    let three = length-append (rex_bytes w.rex) w.body in
    omega (arith, says, skip, more, ap length w.parts, one, two, three)

-- what is decoded exactly has whole lengths
pub is_whole : (bytes : List ℕ) (result : Decoded) → Decodes bytes result → IsWhole bytes result
is_whole bytes (outcomes.Insn insn len skip) d =
    let long = d.1.long in
    let taken : length (take len bytes) ≡ len = length-take-le len bytes d.0 in
    let front : skip < length (take len bytes) =
    format_long (take len bytes) (insn, skip, d.1.disp, d.1.imm) d.1.format in
    (omega (arith, taken, front), omega (arith, long, taken), d.0, omega (arith, taken, front))
is_whole bytes outcomes.Undefined d = tt
is_whole bytes outcomes.Short d = tt
