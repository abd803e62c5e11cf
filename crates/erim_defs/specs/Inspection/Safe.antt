-- When an occurrence is safe. ERIM (USENIX Security 2019), section 3: a WRPKRU is followed by an
-- entry of the trusted part, or by the comparison of EAX and the end of the program. Own: an XRSTOR
-- is followed by its check; an absent byte contradicts nothing.
use Rattle.std.specs.Prelude.{ℕ, ◌+◌, ◌&&◌, ◌||◌, not, Bool, true, false, Option, Some, None, List}
use Rattle.std.specs.Prelude.{[]}
use Rattle.std.specs.Prelude.{◌∷◌, suc, if◌then◌else◌}
use Rattle.erim_defs.specs.declared.found.SeqKind.{SeqKind}
use Rattle.erim_defs.specs.declared.found.SeqKind.TheVariants.{Wrpkru, Xrstor}
use Rattle.erim_defs.specs.declared.found.Found.{Found}
use Rattle.erim_defs.specs.Inspection.Code.{Code, allows}
use Rattle.erim_defs.specs.Inspection.Trust.{TrustValue, is_entry_of}
use Rattle.erim_defs.specs.Inspection.Check.{check_of}
use Rattle.erim_defs.specs.Inspection.Occurrence.{occurrence_at}

-- no byte of the code contradicts the string laid at an address
unfoldable pub fits : Code → ℕ → List ℕ → Bool
fits c a [] = true
fits c a (x ∷ xs) = allows (c a) x && fits c (suc a) xs

-- is the address after a sequence an entry of the trusted part, where that is enough after WRPKRU
abbrev pub opens_gate : TrustValue → SeqKind → ℕ → Bool
opens_gate trust Wrpkru next = not trust.strict && is_entry_of trust next
opens_gate trust Xrstor next = false

-- an occurrence is safe where an entry follows, or nothing contradicts its check after it
abbrev pub is_safe : TrustValue → Code → Found → Bool
is_safe trust c o = opens_gate trust o.kind (o.at + o.len)
    || fits c (o.at + o.len) (check_of trust o.kind (o.at + o.len))

abbrev pub unless_safe : TrustValue → Code → Option Found → Option Found
unless_safe trust c None = None
unless_safe trust c (Some o) = if is_safe trust c o then None else Some o

-- the unsafe occurrence of a code at an address
unfoldable pub unsafe_at : TrustValue → Code → ℕ → Option Found
unsafe_at trust c a = unless_safe trust c (occurrence_at c a)
