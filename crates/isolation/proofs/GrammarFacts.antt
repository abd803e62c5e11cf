-- The facts of the grammar that the isolation invariant asks for. This file alone depends on the
-- table of instructions.
use Rattle.std.proofs.Common.{ℕ, List, [], ◌∷◌}
use Rattle.erim_defs.specs.declared.found.SeqKind.{SeqKind}
use Rattle.erim_defs.specs.declared.found.SeqKind.TheVariants.{Wrpkru, Xrstor}
use Rattle.erim_defs.specs.Encoding.Parts.{AreBytes}
use Rattle.erim_defs.specs.Encoding.Grammar.{Encodes}
use Rattle.erim_defs.specs.Machine.State.{Setup}
use Rattle.erim_defs.specs.Machine.Isolation.{IsStartable}
use Rattle.isolation.specs.GrammarLaws.{GrammarLaws}
use Rattle.isolation.proofs.DecoderFacts.{AllOf, Decoder, decoder_of_bytes, IsByte}
use Rattle.encoding_laws.proofs.DecodeLemmas.{decode_is_exact}
use Rattle.encoding_laws.proofs.EncodingLemmas.{prefix_free}
use Rattle.encoding_laws.proofs.CheckEncodings.{encodes_bt, encodes_compare, encodes_jae}
use Rattle.encoding_laws.proofs.CheckEncodings.{encodes_je}
use Rattle.encoding_laws.proofs.CheckEncodings.{encodes_mov, encodes_syscall}
use Rattle.encoding_laws.proofs.SequenceEncodings.{sequence_encoding}
use Rattle.erim_defs.specs.Inspection.Trust.{TrustValue, entry_key}
use Rattle.erim_defs.specs.Inspection.Check.{compared_value}
use Rattle.erim_defs.proofs.DomainLemmas.{pkru_few}
use Rattle.std.proofs.Common.{arith, cond}
use Rattle.erim_defs.specs.Inspection.Check.{Position, Compare, Branch, Number, Leave, check_insn}
use Rattle.erim_defs.specs.Inspection.Check.{check_bytes}

-- ---- bytes

check_spelled : (trust : TrustValue) (kind : SeqKind) (next : ℕ) (position : Position)
    → Encodes (check_bytes trust kind next position) (check_insn trust kind next position) 0
check_spelled trust Wrpkru next Compare =
    let few = pkru_few trust (cond trust.strict (entry_key trust next) 0) in
    encodes_compare (compared_value trust next) (omega (arith, few))
check_spelled trust Wrpkru next Branch = encodes_je
check_spelled trust Wrpkru next Number = encodes_mov
check_spelled trust Wrpkru next Leave = encodes_syscall
check_spelled trust Xrstor next Compare = encodes_bt
check_spelled trust Xrstor next Branch = encodes_jae
check_spelled trust Xrstor next Number = encodes_mov
check_spelled trust Xrstor next Leave = encodes_syscall

pub grammar_laws : GrammarLaws
grammar_laws = record {
  one = prefix_free;
  decodes = decode_is_exact;
  check = check_spelled;
  sequence = sequence_encoding;
}

-- ---- what the proofs of runs go by

-- what is known of each element of an image
abbrev pub Known : ℕ → Type 0
Known = IsByte

known_of : (xs : List ℕ) → AreBytes xs → AllOf Known xs
known_of [] h = tt
known_of (x ∷ xs) h = (h.0, known_of xs h.1)

pub image_known : (setup : Setup) → IsStartable setup → AllOf Known setup.image
image_known setup h = known_of setup.image h.bytes

pub decoder : Decoder Known
decoder = decoder_of_bytes grammar_laws
