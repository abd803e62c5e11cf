-- What the isolation invariant asks of the grammar of instructions: its laws, what the bytes of the
-- checks spell, and how an encoding of an instruction that writes PKRU ends. Nothing else of the
-- table of instructions matters to it.
use Rattle.std.specs.Prelude.{◌≡◌, ℕ, Some, List}
use Rattle.erim_defs.specs.declared.found.SeqKind.{SeqKind}
use Rattle.erim_defs.specs.declared.insn.Insn.{Insn}
use Rattle.erim_defs.specs.Encoding.Parts.{AreBytes}
use Rattle.erim_defs.specs.Encoding.Grammar.{Encodes}
use Rattle.erim_defs.specs.Encoding.Decodes.{Decodes, PrefixFree}
use Rattle.erim_defs.specs.Encoding.Decoding.{decode}
use Rattle.erim_defs.specs.Inspection.Trust.{TrustValue}
use Rattle.erim_defs.specs.Inspection.Check.{Position, check_insn, check_bytes}
use Rattle.encoding_laws.proofs.SequenceEncodings.{EndsInSequence, insn_kind}

pub record GrammarLaws : Type 0 where
  -- at most one instruction, and no spelling begins another
  pub one : PrefixFree
  -- the function on bytes is what the relation says
  pub decodes : (bytes : List ℕ) → AreBytes bytes → Decodes bytes (decode bytes)
  -- each instruction of a check, with nothing before its opcode
  pub check : (trust : TrustValue) (kind : SeqKind) (next : ℕ) (position : Position)
      → Encodes (check_bytes trust kind next position) (check_insn trust kind next position) 0
  -- what writes PKRU ends as its sequence does
  pub sequence : (kind : SeqKind) (text : List ℕ) (skip : ℕ) (insn : Insn)
      → insn_kind insn ≡ Some kind → Encodes text insn skip → EndsInSequence kind text skip
