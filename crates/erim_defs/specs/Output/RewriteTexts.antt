-- What the program prints of a rewritten image, or of one that can't be rewritten. Own.
use Rattle.std.specs.Prelude.{ℕ, List, ◌++◌, codes}
use Rattle.std.specs.Fmt.{decimal}
use Rattle.erim_defs.specs.declared.rewriting.Why.{Why}
use Rattle.erim_defs.specs.declared.rewriting.Why.TheVariants.{Trusted, Outside, Undecoded}
use Rattle.erim_defs.specs.declared.rewriting.Why.TheVariants.{Intended, Call, Room, Target}
use Rattle.erim_defs.specs.declared.rewriting.Why.TheVariants.{Displacement, Immediate, Opcode}
use Rattle.erim_defs.specs.Output.Texts.{address_text, fault_text, line}
use Rattle.erim_defs.specs.Rewriting.Rewriting.{Fault, NotImage, Cannot, NoRoom}

abbrev pub why_text : Why → List ℕ
why_text Trusted = codes "trusted"
why_text Outside = codes "outside"
why_text Undecoded = codes "undecoded"
why_text Intended = codes "intended"
why_text Call = codes "call"
why_text Room = codes "room"
why_text Target = codes "target"
why_text Displacement = codes "displacement"
why_text Immediate = codes "immediate"
why_text Opcode = codes "opcode"

-- what names the cause for which an image isn't rewritten
abbrev pub rewrite_text : Fault → List ℕ
rewrite_text (NotImage fault) = fault_text fault
rewrite_text (Cannot at why) =
    codes "cannot rewrite " ++ address_text at ++ codes " " ++ why_text why
rewrite_text (NoRoom at) = codes "no room " ++ address_text at

-- of an image that was rewritten at a given number of sites
unfoldable pub rewrote_line : ℕ → List ℕ
rewrote_line count = line (codes "rewrote " ++ decimal count ++ codes " sites")
