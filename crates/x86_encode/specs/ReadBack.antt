-- Bytes that encode an instruction and are decoded as it, whatever follows. Own.
use Rattle.std.specs.Prelude.{◌≡◌, ℕ, List, ◌++◌, length}
use Rattle.erim_defs.specs.declared.insn.Decoded.TheVariants as outcomes
use Rattle.erim_defs.specs.declared.insn.Insn.{Insn}
use Rattle.erim_defs.specs.Encoding.Parts.{AreBytes}
use Rattle.erim_defs.specs.Encoding.Grammar.{Encodes}
use Rattle.erim_defs.specs.Encoding.Decoding.{decode}

pub record IsReadBack (encoding : List ℕ) (insn : Insn) : Type 0 where
  pub skip : ℕ
  pub encodes : Encodes encoding insn skip
  pub again : (rest : List ℕ) → AreBytes rest
      → decode (encoding ++ rest) ≡ outcomes.Insn insn (length encoding) skip
