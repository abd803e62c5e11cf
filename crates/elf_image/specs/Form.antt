-- What checking an image leaves known, and what an image keeps of the bytes that it was read from.
use Rattle.std.specs.Prelude.{◌≡◌, ℕ, ◌==◌, Result, MatchResult, Some, None, List}
use Rattle.erim_defs.specs.Encoding.Parts.{AreBytes}
use Rattle.erim_defs.specs.declared.segment.Segment.{Segment}
use Rattle.erim_defs.specs.declared.fault.ImageFault.{ImageFault}
use Rattle.erim_defs.specs.declared.trust.Span.{Span}
use Rattle.erim_defs.specs.Inspection.Trust.{TrustValue}
use Rattle.erim_defs.specs.Inspection.Image.{IsAccepted, Record, entry_point, first_fault}
use Rattle.erim_defs.specs.Inspection.Image.{data_keys, image_data, image_functions, image_heaps}
use Rattle.erim_defs.specs.Inspection.Image.{image_trust, keys_of, later_fault}
use Rattle.erim_defs.specs.Inspection.Image.{notes, segments, spans_of, trust_fault}
use Rattle.elf_image.specs.declared.notes.NotesSeen.{NotesSeen}
use Rattle.elf_image.specs.Notes.{HasItems, nothing_seen, see_all}

-- all notes were seen
pub record IsSeen (bytes : List ℕ) (seen : NotesSeen) : Type 0 where
  pub seen_is : seen ≡ see_all bytes nothing_seen (notes bytes)
  pub items : HasItems bytes seen

-- the rows of notes and records find no fault, and say the notes, or they find one
abbrev pub ChecksTrust : List ℕ → Result NotesSeen ImageFault → Type 0
ChecksTrust bytes result =
    MatchResult result (λ seen. (trust_fault bytes ≡ None)
    × IsSeen bytes seen) (λ fault. trust_fault bytes ≡ Some fault)

-- the same of all rows after the first
abbrev pub ChecksLater : List ℕ → Result NotesSeen ImageFault → Type 0
ChecksLater bytes result =
    MatchResult result (λ seen. (later_fault bytes ≡ None)
    × IsSeen bytes seen) (λ fault. later_fault bytes ≡ Some fault)

-- and of all
abbrev pub Checks : List ℕ → Result NotesSeen ImageFault → Type 0
Checks bytes result = MatchResult result (λ seen. IsAccepted bytes
    × IsSeen bytes seen) (λ fault. first_fault bytes ≡ Some fault)

-- the ranges of the records of a kind
unfoldable pub spans_in : ℕ → List Record → List Span
spans_in kind rs = spans_of (λ r. r.kind == kind) rs

-- and their keys
unfoldable pub keys_in : ℕ → List Record → List ℕ
keys_in kind rs = keys_of (λ r. r.kind == kind) rs

-- the bytes are accepted, and the rest is what they say
pub record IsRead (bytes : List ℕ) (list : List Segment) (trust : TrustValue)
    (trusted : List Span) (keys : List ℕ) (heaps functions : List Span) (entry : ℕ) : Type 0 where
  pub accepted : IsAccepted bytes
  pub octets : AreBytes bytes
  pub list_is : list ≡ segments bytes
  pub trust_is : trust ≡ image_trust bytes
  pub trusted_is : trusted ≡ image_data bytes
  pub keys_is : keys ≡ data_keys bytes
  pub heaps_is : heaps ≡ image_heaps bytes
  pub functions_is : functions ≡ image_functions bytes
  pub entry_is : entry ≡ entry_point bytes
