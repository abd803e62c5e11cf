-- The pieces of printed lines.
use Rattle.std.proofs.Common.{◌≡◌, ℕ, List, [], ◌∷◌, ◌++◌, append_assoc}
use Rattle.erim_defs.specs.Output.Texts.{line}

-- the pieces of a line as they are written, and as the line has them
pub unsafe_line_joins : (old word kind at sign ds : List ℕ)
    → old ++ (word ++ (kind ++ ((at ++ sign) ++ (ds ++ 10 ∷ []))))
    ≡ old ++ line (word ++ kind ++ at ++ (sign ++ ds))
unsafe_line_joins old word kind at sign ds = simp append_assoc

-- the pieces of a fault's text
pub fault_joins : (word cause thread t at_rip rip at addr : List ℕ)
    → word ++ (cause ++ (thread ++ (t ++ (at_rip ++ (rip ++ (at ++ addr))))))
    ≡ word ++ cause ++ thread ++ t ++ at_rip ++ rip ++ at ++ addr
fault_joins word cause thread t at_rip rip at addr = simp append_assoc
