-- The canonical encoding of a well formed instruction is read as that.
use Rattle.std.proofs.Common.{ℕ, List, ◌++◌, refl}
use Rattle.erim_defs.specs.declared.insn.Insn.{Insn}
use Rattle.erim_defs.specs.Encoding.Grammar.{Encodes}
use Rattle.erim_defs.specs.Encoding.WellFormed.{IsWellFormed}
use Rattle.erim_defs.specs.Encoding.Canonical.{canonical_encoding}
use Rattle.erim_defs.proofs.ByteLemmas.{bytes_append}
use Rattle.encoding_laws.proofs.DecodeLemmas.{decode_again}
use Rattle.x86_encode.specs.ReadBack.{IsReadBack}
use Rattle.x86_encode.proofs.Flows.{canonical_encodes}
use Rattle.x86_encode.proofs.Ranges.{encoding_good}

-- any encoding is read as what it encodes
pub encoding_back : (encoding : List ℕ) (insn : Insn) (skip : ℕ) → Encodes encoding insn skip
    → IsReadBack encoding insn
encoding_back encoding insn skip s =
    record {
      skip = skip;
      encodes = s;
      again = λ rest are. decode_again (encoding
          ++ rest) (bytes_append encoding rest s.format.fits are) encoding rest insn skip s refl;
    }

pub canonical_back : (insn : Insn) → IsWellFormed insn → IsReadBack (canonical_encoding insn) insn
canonical_back insn h =
    let good = encoding_good h.encoding insn h.skip h.encodes in
    let s = canonical_encodes good.0 insn good.1 in
    encoding_back (canonical_encoding insn) insn s.0 s.1
