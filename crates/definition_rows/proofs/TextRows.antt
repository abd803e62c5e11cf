-- The texts of inspection and of errors, computed. The texts are from the format.
use Rattle.std.proofs.Common.{◌≡◌, ℕ, List, [], ◌∷◌, map, refl}
use Rattle.std.specs.Prelude.{codes}
use Rattle.std.specs.Fmt.{digits}
use Rattle.erim_defs.specs.declared.fault.ImageFault.TheVariants.{Short, Magic, Class, FileType}
use Rattle.erim_defs.specs.declared.fault.ImageFault.TheVariants.{Machine, HeaderSize, TooMany}
use Rattle.erim_defs.specs.declared.fault.ImageFault.TheVariants.{NotStatic, SegmentRange}
use Rattle.erim_defs.specs.declared.fault.ImageFault.TheVariants.{SharedPage, NoteShape}
use Rattle.erim_defs.specs.declared.fault.ImageFault.TheVariants.{NoteVersion, BadRecord}
use Rattle.erim_defs.specs.declared.fault.ImageFault.TheVariants.{TextNotExec, DataRange}
use Rattle.erim_defs.specs.declared.fault.ImageFault.TheVariants.{EntryNotTrusted, EntryPoint}
use Rattle.erim_defs.specs.declared.fault.ImageFault.TheVariants.{BadFunction}
use Rattle.erim_defs.specs.declared.fault.ImageFault.{ImageFault}
use Rattle.erim_defs.specs.declared.found.Found.{Found}
use Rattle.erim_defs.specs.declared.found.SeqKind.TheVariants.{Wrpkru}
use Rattle.erim_defs.specs.declared.rewriting.Why.TheVariants as reasons
use Rattle.erim_defs.specs.Output.RewriteTexts.{rewrite_text, rewrote_line}
use Rattle.erim_defs.specs.Output.Texts.{unsafe_line, inspect_text, fault_text, error_line}
use Rattle.erim_defs.specs.Rewriting.Rewriting.{Fault, NotImage, Cannot, NoRoom}

wrpkru : ℕ → Found
wrpkru a = record { at = a; len = 3; kind = Wrpkru }

text_of_two :
    inspect_text (wrpkru 0x401001 ∷ wrpkru 0x8000000000000000 ∷ [])
    ≡ codes "unsafe wrpkru at 0x000000401001\nunsafe wrpkru at 0x8000000000000000\nunsafe 2\n"
unfolding wrpkru inspect_text unsafe_line digits
text_of_two = refl

text_of_none : inspect_text [] ≡ codes "unsafe 0\n"
unfolding inspect_text digits
text_of_none = refl

error : error_line (codes "words not understood") ≡ codes "erim: words not understood\n"
unfolding error_line
error = refl

-- a fault of an image, and its text
record Row : Type 0 where
  fault : ImageFault
  text : List ℕ

abbrev row : ImageFault → List ℕ → Row
row fault text = record { fault = fault; text = text }

faults : List Row
faults =
    row (Short 10) (codes "image short at 10") ∷
    row Magic (codes "image magic") ∷
    row Class (codes "image class") ∷
    row FileType (codes "image type") ∷
    row Machine (codes "image machine") ∷
    row HeaderSize (codes "image header size") ∷
    row (TooMany 65) (codes "image headers 65") ∷
    row (NotStatic 1) (codes "image header 1 not static") ∷
    row (SegmentRange 2) (codes "image segment 2 range") ∷
    row (SharedPage 3) (codes "image segment 3 shares a page") ∷
    row (NoteShape 528) (codes "image note at 528") ∷
    row NoteVersion (codes "image note version") ∷
    row (BadRecord 4) (codes "image record 4") ∷
    row (TextNotExec 5) (codes "image record 5 text") ∷
    row (DataRange 6) (codes "image record 6 data") ∷
    row (EntryNotTrusted 7) (codes "image record 7 entry") ∷
    row (BadFunction 8) (codes "image function 8") ∷
    row EntryPoint (codes "image entry point") ∷ []

fault_texts : map (λ (r : Row). fault_text r.fault) faults ≡ map (λ (r : Row). r.text) faults
unfolding digits faults
fault_texts = refl

-- why an image isn't rewritten, and the text
record Refusal : Type 0 where
  cause : Fault
  text : List ℕ

abbrev refusal : Fault → List ℕ → Refusal
refusal cause text = record { cause = cause; text = text }

refusals : List Refusal
refusals =
    refusal (NotImage Magic) (codes "image magic") ∷
    refusal (NoRoom 0x401001) (codes "no room 0x000000401001") ∷
    refusal (Cannot 1 reasons.Trusted) (codes "cannot rewrite 0x000000000001 trusted") ∷
    refusal (Cannot 1 reasons.Outside) (codes "cannot rewrite 0x000000000001 outside") ∷
    refusal (Cannot 1 reasons.Undecoded) (codes "cannot rewrite 0x000000000001 undecoded") ∷
    refusal (Cannot 1 reasons.Intended) (codes "cannot rewrite 0x000000000001 intended") ∷
    refusal (Cannot 1 reasons.Call) (codes "cannot rewrite 0x000000000001 call") ∷
    refusal (Cannot 1 reasons.Room) (codes "cannot rewrite 0x000000000001 room") ∷
    refusal (Cannot 1 reasons.Target) (codes "cannot rewrite 0x000000000001 target") ∷
    refusal (Cannot 1 reasons.Displacement) (codes "cannot rewrite 0x000000000001 displacement") ∷
    refusal (Cannot 0x401001 reasons.Immediate)
    (codes "cannot rewrite 0x000000401001 immediate") ∷
    refusal (Cannot 1 reasons.Opcode) (codes "cannot rewrite 0x000000000001 opcode") ∷ []

refusal_texts : map (λ (r : Refusal). rewrite_text r.cause) refusals
    ≡ map (λ (r : Refusal). r.text) refusals
unfolding digits refusals
refusal_texts = refl

rewritten_sites : rewrote_line 10 ≡ codes "rewrote 10 sites\n"
unfolding rewrote_line digits
rewritten_sites = refl
