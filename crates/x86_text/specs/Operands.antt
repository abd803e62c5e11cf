-- The operands that the crate makes of an instruction, as they are written. Own.
use Rattle.std.specs.Prelude.{ℕ, List, [], ◌∷◌, codes}
use Rattle.std.specs.Fmt.{decimal, signed_decimal}
use Rattle.erim_defs.specs.Encoding.Notation.{place_text}
use Rattle.x86_text.specs.declared.operand_list.Operand.{Operand}
use Rattle.x86_text.specs.declared.operand_list.Operand.TheVariants as operand
use Rattle.x86_text.specs.declared.operand_list.OperandList.{OperandList}
use Rattle.x86_text.specs.declared.operand_list.OperandList.TheVariants.{None, One, Two, Three}

abbrev pub operand_text : Operand → List ℕ
operand_text (operand.Place p) = place_text p
operand_text (operand.Signed n) = signed_decimal n
operand_text (operand.Number n) = decimal n
operand_text operand.Cl = codes "cl"

abbrev pub operand_texts : OperandList → List (List ℕ)
operand_texts None = []
operand_texts (One x) = operand_text x ∷ []
operand_texts (Two x y) = operand_text x ∷ operand_text y ∷ []
operand_texts (Three x y z) = operand_text x ∷ operand_text y ∷ operand_text z ∷ []
