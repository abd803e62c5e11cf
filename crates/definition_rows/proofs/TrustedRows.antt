-- What trusted text holds that is unsafe by itself, computed on an image of one page of trusted
-- text.
use Rattle.std.proofs.Common.{◌≡◌, ℕ, ◌/◌, List, [], ◌∷◌, ◌++◌, Some, None, Bool, true, false, refl}
use Rattle.std.proofs.Common.{lit≤, arith, leb, suc}
use Rattle.std.specs.Prelude.{if◌then◌else◌, ◌&&◌, ◌||◌, nat_le, nat_lt}
use Rattle.std.proofs.lemmas.Bool.{lt-leb, le-leb}
use Rattle.erim_defs.specs.declared.found.SeqKind.TheVariants.{Wrpkru}
use Rattle.erim_defs.specs.Inspection.Check.{check_of}
use Rattle.erim_defs.specs.Inspection.Code.{has, or_else}
use Rattle.erim_defs.specs.Inspection.Image.{number_at, headers_from, headers, loadable_segments}
use Rattle.erim_defs.specs.Inspection.Image.{notes_between, notes}
use Rattle.erim_defs.specs.Inspection.Image.{records_from, records_in, image_trust, image_code}
use Rattle.erim_defs.specs.Inspection.Image.{trusted_code}
use Rattle.erim_defs.specs.Output.LayImage.{Mark, Piece, program_header, file_header, trust_note}
use Rattle.erim_defs.specs.Inspection.Occurrence.{occurrence_at}
use Rattle.erim_defs.specs.Inspection.Safe.{fits, unsafe_at}
use Rattle.erim_defs.specs.Machine.Start.{trusted_unsafe}
use Rattle.erim_defs.proofs.FirstUnsafeLemmas.{first_from, first_unsafe_in}
use Rattle.definition_rows.proofs.SmallMachine.{load}

-- trusted text at 0x402000, with an entry at 0x402004
abbrev marks : List Mark
marks =
    record { kind = 1; start = 0x402000; length = 4096 } ∷
    record { kind = 3; start = 0x402004; length = 0 } ∷ []

-- a PT_NOTE (4)
abbrev text_note : ℕ → Piece
text_note place = record {
  kind = 4;
  flags = 4;
  place = place;
  vaddr = 0;
  bytes = trust_note marks;
  memsz = 76;
  align = 4;
}

-- 9 bytes of trusted text
image : List ℕ → List ℕ
image text =
    file_header 2 0x402000
    ++ program_header (load 5 176 0x402000 text 4096) ++ program_header (text_note 185)
    ++ text ++ trust_note marks

-- a second sequence after the one that the entry follows
unsafe_text : List ℕ
unsafe_text = 0x90 ∷ 0x0F ∷ 0x01 ∷ 0xEF ∷ 0x0F ∷ 0x01 ∷ 0xEF ∷ 0x90 ∷ 0x90 ∷ []

-- after the file part there are zeros, as far as trusted text goes
zeros :
    (text touched : Bool)
    → has (if text || false then or_else (if touched then Some 0 else None) None else None) 0x0F
    ≡ false
zeros true true = refl
zeros true false = refl
zeros false true = refl
zeros false false = refl

first_in_text :
    trusted_unsafe (image unsafe_text) ≡ Some (record { at = 0x402004; len = 3; kind = Wrpkru })
unfolding trusted_unsafe image unsafe_text first_from unsafe_at occurrence_at fits check_of
    number_at
    headers_from headers loadable_segments notes_between notes records_from records_in image_trust
    image_code
    trusted_code
first_in_text =
    first_unsafe_in (image_trust (image unsafe_text)) (trusted_code (image unsafe_text)) 0x402000 9
    (lit≤ tt)
    (λ a low. rw (lt-leb 0x402000 a low) refl)
    (λ a high.
    let above : leb 0x402000 a ≡ true = le-leb 0x402000 a (omega (arith, high)) in
    let past : leb (suc a) 0x402009 ≡ false = lt-leb (suc a) 0x402009 (omega (arith, high)) in
    let touched : Bool = nat_le 0x402 (a / 4096) && nat_lt (a / 4096) 0x403 in
    rw (above, past) (zeros (nat_lt a 0x403000) touched))
