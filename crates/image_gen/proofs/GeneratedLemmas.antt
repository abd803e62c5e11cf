-- The generated images, for any number of threads and rounds: their parts in the file, what is
-- read of them, and that they are accepted. Threads and rounds stand in three numbers of the code,
-- which no fault looks at.
use Rattle.erim_defs.specs.Inspection.Image.{has_domains}
use Rattle.std.proofs.Common.{◌≡◌, ◌∙◌, ℕ, zero, suc, ◌+◌, ◌-◌, ◌<◌, List, [], ◌∷◌, ◌++◌, length}
use Rattle.std.proofs.Common.{get_or, map, None, Bool, true, false, refl, ap, arith, replicate}
use Rattle.std.proofs.Common.{lit≤, length-append, append_assoc}
use Rattle.std.proofs.lemmas.List.{get_or_append_left, get_or-append_right, length-replicate}
use Rattle.std.specs.List.{flat_map}
use Rattle.std.specs.Prelude.{slice_range}
use Rattle.erim_defs.specs.declared.segment.Segment.{Segment}
use Rattle.erim_defs.specs.Inspection.Check.{check_of}
use Rattle.erim_defs.specs.Inspection.Gate.{gate_in, gate_out}
use Rattle.erim_defs.specs.Inspection.Image.{Header, IsAccepted, Note, Record, all_pages}
use Rattle.erim_defs.specs.Inspection.Image.{data_fault, entry_fault, entry_point, first_fault}
use Rattle.erim_defs.specs.Inspection.Image.{function_fault, functions_in, head_fault, header_fault}
use Rattle.erim_defs.specs.Inspection.Image.{headers, headers_from, image_functions, image_trust}
use Rattle.erim_defs.specs.Inspection.Image.{later_fault, loadable_segments, note_fault}
use Rattle.erim_defs.specs.Inspection.Image.{note_fault_between, notes, notes_between, number_at}
use Rattle.erim_defs.specs.Inspection.Image.{range_fault, record_fault, records, records_from}
use Rattle.erim_defs.specs.Inspection.Image.{records_in, segment_fault, segments, shared_fault}
use Rattle.erim_defs.specs.Inspection.Image.{static_fault, text_fault, trust_fault, version_fault}
use Rattle.erim_defs.specs.Inspection.Trust.{TrustValue}
use Rattle.erim_defs.specs.Output.LayImage.{Piece, file_header, file_with_pieces, laid_image}
use Rattle.erim_defs.specs.Output.LayImage.{pieces, program_header, trust_note}
use Rattle.erim_defs.specs.Output.GeneratedImage.{generated_code, generated_image, generated_marks}
use Rattle.erim_defs.specs.Output.GeneratedImage.{generated_text}
use Rattle.image_gen.proofs.LaidLemmas.{laid_end, length-piece_laid, number_behind, piece_laid}
use Rattle.image_gen.proofs.LaidLemmas.{piece_passed, range_behind, records_behind}

-- ---- the parts of the file

pub code_length : (threads rounds : ℕ) → length (generated_code threads rounds) ≡ 85
unfolding generated_code
code_length threads rounds = refl

pub text_length : length generated_text ≡ 107
unfolding generated_text gate_in gate_out check_of
text_length = refl

abbrev generated_note : List ℕ
generated_note = trust_note generated_marks

-- a PT_LOAD
abbrev load : ℕ → ℕ → ℕ → List ℕ → ℕ → Piece
load flags place vaddr bytes memsz = record {
  kind = 1;
  flags = flags;
  place = place;
  vaddr = vaddr;
  bytes = bytes;
  memsz = memsz;
  align = 4096;
}

-- with this code
abbrev generated_pieces : List ℕ → List Piece
generated_pieces code =
    load 5 4096 0x401000 code 85
    ∷ load 5 8192 0x402000 generated_text 4096
    ∷ load 6 0 0x403000 [] 4096
    ∷ load 6 0 0x404000 [] 4096
    ∷ record {
      kind = 4;
      flags = 4;
      place = 8300;
      vaddr = 0;
      bytes = generated_note;
      memsz = 124;
      align = 4;
    }
    ∷ []

-- the file header and the program headers, which only say how long the code is
front : List ℕ
front = file_header 5 0x401000 ++ flat_map program_header (generated_pieces (replicate 85 0))

front_length : length front ≡ 344
unfolding front
front_length = refl

in_pieces : (threads rounds : ℕ)
    → generated_image threads rounds
    ≡ file_with_pieces front (generated_pieces (generated_code threads rounds))
unfolding generated_image laid_image pieces front generated_code generated_text gate_in gate_out
    check_of
in_pieces threads rounds = refl

-- the file up to the trusted text, and up to the note
till_text : ℕ → ℕ → List ℕ
till_text threads rounds =
    front ++ (replicate 3752 0 ++ (generated_code threads rounds ++ replicate 4011 0))

till_note : ℕ → ℕ → List ℕ
till_note threads rounds = till_text threads rounds ++ (generated_text ++ 0 ∷ [])

till_text_length : (threads rounds : ℕ) → length (till_text threads rounds) ≡ 8192
unfolding till_text
till_text_length threads rounds =
    simp (length-append, length-replicate, front_length, code_length)

till_note_length : (threads rounds : ℕ) → length (till_note threads rounds) ≡ 8300
unfolding till_note
till_note_length threads rounds =
    omega (
      arith,
      length-append (till_text threads rounds) (generated_text ++ 0 ∷ []),
      length-append generated_text (0 ∷ []),
      till_text_length threads rounds,
      text_length,
    )

regroup : (f g c h t z n : List ℕ)
    → ((f ++ (g ++ c)) ++ (h ++ t)) ++ (z ++ n) ≡ ((f ++ (g ++ (c ++ h))) ++ (t ++ z)) ++ n
regroup f g c h t z n = simp append_assoc

-- the plain page and the trusted page have no bytes in the file
in_parts : (threads rounds : ℕ)
    → file_with_pieces front (generated_pieces (generated_code threads rounds))
    ≡ till_note threads rounds ++ generated_note
unfolding till_text till_note
in_parts threads rounds =
    let code = generated_code threads rounds in
    let file = front ++ (replicate 3752 0 ++ code) in
    let both = file ++ (replicate 4011 0 ++ generated_text) in
    let n : length file ≡ 4096 + length code =
    length-piece_laid front 344 4096 code front_length (lit≤ tt) in
    let m : length file ≡ 4181 = omega (arith, n, code_length threads rounds) in
    let k : length both ≡ 8192 + length generated_text =
    length-piece_laid file 4181 8192 generated_text m (lit≤ tt) in
    let l : length both ≡ 8299 = omega (arith, k, text_length) in
    piece_laid front _ _ 344 front_length
    ∙ (piece_laid file _ _ 4181 m
    ∙ (piece_passed both _ _ refl refl
    ∙ (piece_passed both _ _ refl refl
    ∙ (piece_laid both _ _ 8299 l
    ∙ (laid_end _
    ∙ regroup front (replicate 3752 0) code (replicate 4011 0) generated_text
    (0 ∷ []) generated_note)))))

with_note : (threads rounds : ℕ)
    → generated_image threads rounds ≡ till_note threads rounds ++ generated_note
with_note threads rounds = in_pieces threads rounds ∙ in_parts threads rounds

pub generated_length : (threads rounds : ℕ) → length (generated_image threads rounds) ≡ 8424
generated_length threads rounds =
    ap length (with_note threads rounds)
    ∙ (length-append (till_note threads rounds) generated_note
    ∙ omega (arith, till_note_length threads rounds))

-- what stands after the headers
behind : ℕ → ℕ → List ℕ
behind threads rounds =
    (replicate 3752 0 ++ (generated_code threads rounds ++ replicate 4011 0))
    ++ ((generated_text ++ 0 ∷ []) ++ generated_note)

with_front : (threads rounds : ℕ) → generated_image threads rounds ≡ front ++ behind threads rounds
unfolding till_text till_note behind
with_front threads rounds =
    with_note threads rounds
    ∙ same front (replicate 3752 0 ++ (generated_code threads rounds ++ replicate 4011 0))
    (generated_text ++ 0 ∷ []) generated_note
  where
    same : (f g t n : List ℕ) → ((f ++ g) ++ t) ++ n ≡ f ++ (g ++ (t ++ n))
    same f g t n = simp append_assoc

-- the trusted text stands at 8192
pub text_there : (threads rounds k : ℕ) → k < 107
    → get_or (generated_image threads rounds) (8192 + k) 0 ≡ get_or generated_text k 0
unfolding till_note
text_there threads rounds k low =
    let away : 8192 + k - 8192 ≡ k = omega arith in
    let within : k < length (generated_text ++ 0 ∷ []) =
    omega (arith, length-append generated_text (0 ∷ []), text_length) in
    let inside : k < length generated_text = omega (arith, text_length) in
    ap (λ image. get_or image (8192 + k) 0)
    (with_note threads rounds
    ∙ append_assoc (till_text threads rounds) (generated_text ++ 0 ∷ []) generated_note)
    ∙ (get_or-append_right (till_text threads rounds) _ 8192 (8192 + k) 0
    (till_text_length threads rounds) (omega arith)
    ∙ rw away (get_or_append_left (generated_text ++ 0 ∷ []) generated_note 0 k within
    ∙ get_or_append_left generated_text (0 ∷ []) 0 k inside))

-- ---- what is read of the headers, whatever stands after them

abbrev pub generated_segments : List Segment
generated_segments =
    record { flags = 5; offset = 4096; vaddr = 0x401000; filesz = 85; memsz = 85 }
    ∷ record { flags = 5; offset = 8192; vaddr = 0x402000; filesz = 107; memsz = 4096 }
    ∷ record { flags = 6; offset = 0; vaddr = 0x403000; filesz = 0; memsz = 4096 }
    ∷ record { flags = 6; offset = 0; vaddr = 0x404000; filesz = 0; memsz = 4096 }
    ∷ []

abbrev note_header : Header
note_header = record {
  kind = 4;
  align = 4;
  segment = record { flags = 4; offset = 8300; vaddr = 0; filesz = 124; memsz = 124 };
}

generated_headers : List Header
generated_headers =
    map (λ s. record { kind = 1; align = 4096; segment = s }) generated_segments ++ note_header ∷ []

front_headers : (ys : List ℕ) → headers (front ++ ys) ≡ generated_headers
unfolding headers headers_from number_at front generated_headers generated_text gate_in gate_out
    check_of
front_headers ys = refl

front_entry : (ys : List ℕ) → entry_point (front ++ ys) ≡ 0x401000
unfolding front number_at
front_entry ys = refl

front_head : (ys : List ℕ) → length (front ++ ys) ≡ 8424 → head_fault (front ++ ys) ≡ None
unfolding head_fault front
front_head ys long = rw long refl

front_header : (ys : List ℕ) → length (front ++ ys) ≡ 8424 → header_fault (front ++ ys) ≡ None
unfolding header_fault front number_at
front_header ys long = rw long refl

-- ---- what is read of the note

generated_records : List Record
generated_records =
    record { kind = 1; key = 1; start = 0x402000; length = 4096 }
    ∷ record { kind = 2; key = 1; start = 0x404000; length = 4096 }
    ∷ record { kind = 3; key = 1; start = 0x40200C; length = 0 }
    ∷ record { kind = 3; key = 1; start = 0x40204C; length = 0 }
    ∷ []

note_numbers : (number_at generated_note 0 4 ≡ 5) × (number_at generated_note 4 4 ≡ 104)
    × (number_at generated_note 8 4 ≡ 1) × (number_at generated_note 20 4 ≡ 1)
    × (number_at generated_note 24 4 ≡ 4)
unfolding number_at
note_numbers = (refl, refl, refl, refl, refl)

note_records : records_from generated_note 28 4 ≡ generated_records
unfolding records_from number_at generated_records
note_records = refl

-- these headers and this note, at 8300, are read of an image
record HasNote (image : List ℕ) : Type 0 where
  headed : headers image ≡ generated_headers
  name_long : number_at image 8300 4 ≡ 5
  size : number_at image 8304 4 ≡ 104
  kind : number_at image 8308 4 ≡ 1
  name : slice_range image 8312 8317 ≡ 0x45 ∷ 0x52 ∷ 0x49 ∷ 0x4D ∷ 0 ∷ []
  version : number_at image 8320 4 ≡ 1
  count : number_at image 8324 4 ≡ 4
  listed : records_from image 8328 4 ≡ generated_records

has_note : (threads rounds : ℕ) → HasNote (generated_image threads rounds)
has_note threads rounds =
    let before = till_note threads rounds in
    let long = till_note_length threads rounds in
    let same = with_note threads rounds in
    let number : (place from n : ℕ) → place ≡ 8300 + from
    → number_at (generated_image threads rounds) place n ≡ number_at generated_note from n =
    λ place from n e. ap (λ image. number_at image place n) same
    ∙ number_behind before generated_note 8300 place from n long e in
    record {
      headed = ap headers (with_front threads rounds) ∙ front_headers (behind threads rounds);
      name_long = number 8300 0 4 refl ∙ note_numbers.0;
      size = number 8304 4 4 refl ∙ note_numbers.1;
      kind = number 8308 8 4 refl ∙ note_numbers.2;
      name = ap (λ image. slice_range image 8312 8317) same
          ∙ range_behind before generated_note 8300 8312 12 5 long refl;
      version = number 8320 20 4 refl ∙ note_numbers.3;
      count = number 8324 24 4 refl ∙ note_numbers.4;
      listed = ap (λ image. records_from image 8328 4) same
          ∙ (records_behind before generated_note 8300 8328 28 4 long refl ∙ note_records);
    }

-- the note, and nothing after it
abbrev generated_note_at : Note
generated_note_at = record {
  place = 8300;
  name = 0x45 ∷ 0x52 ∷ 0x49 ∷ 0x4D ∷ 0 ∷ [];
  kind = 1;
  desc = 8320;
  size = 104;
}

first_note : (image : List ℕ) (fuel : ℕ) → HasNote image
    → notes_between image (suc fuel) 8300 8424
    ≡ generated_note_at ∷ notes_between image fuel 8424 8424
unfolding notes_between
first_note image fuel h = rw (h.name_long, h.name, h.kind, h.size) refl

no_note : (image : List ℕ) (fuel : ℕ) → notes_between image fuel 8424 8424 ≡ []
unfolding notes_between
no_note image zero = refl
no_note image (suc fuel) = refl

one_note : (image : List ℕ) → HasNote image
    → notes_between image 124 8300 8424 ≡ generated_note_at ∷ []
one_note image h = first_note image 123 h ∙ ap (λ ns. generated_note_at ∷ ns) (no_note image 123)

notes_are : (image : List ℕ) → HasNote image → notes image ≡ generated_note_at ∷ []
unfolding notes generated_headers
notes_are image h = rw (h.headed, one_note image h) refl

records_are : (image : List ℕ) → HasNote image → records image ≡ generated_records
unfolding records_in
records_are image h = rw (notes_are image h, h.count) h.listed

functions_are : (image : List ℕ) → HasNote image → image_functions image ≡ []
unfolding image_functions functions_in
functions_are image h = rw (notes_are image h) refl

segments_are : (image : List ℕ) → HasNote image → segments image ≡ generated_segments
unfolding generated_headers loadable_segments
segments_are image h = rw h.headed refl

-- ---- no fault

segments_sound : (image : List ℕ) → HasNote image → length image ≡ 8424
    → segment_fault image ≡ None
unfolding segment_fault static_fault range_fault shared_fault loadable_segments generated_headers
segments_sound image h long = rw (h.headed, long) refl

first_sound : (image : List ℕ) (fuel : ℕ) → HasNote image
    → note_fault_between image (suc fuel) 8300 8424 false false
    ≡ note_fault_between image fuel 8424 8424 true false
unfolding note_fault_between
first_sound image fuel h = rw (h.name_long, h.name, h.kind, h.size, h.count) refl

behind_sound : (image : List ℕ) (fuel : ℕ) (trust functions : Bool)
    → note_fault_between image fuel 8424 8424 trust functions ≡ None
unfolding note_fault_between
behind_sound image zero trust functions = refl
behind_sound image (suc fuel) trust functions = refl

one_sound : (image : List ℕ) → HasNote image
    → note_fault_between image 124 8300 8424 false false ≡ None
one_sound image h = first_sound image 123 h ∙ behind_sound image 123 true false

notes_sound : (image : List ℕ) → HasNote image
    → note_fault image (headers image) false false ≡ None
unfolding note_fault generated_headers
notes_sound image h = rw (h.headed, one_sound image h) refl

version_sound : (image : List ℕ) → HasNote image → version_fault image ≡ None
version_sound image h = rw (notes_are image h, h.version) refl

records_sound : record_fault false 0 [] generated_records ≡ None
unfolding record_fault generated_records
records_sound = refl

text_sound : text_fault 0 generated_segments [] generated_records ≡ None
unfolding text_fault all_pages generated_records
text_sound = refl

data_sound : data_fault 0 generated_segments [] generated_records ≡ None
unfolding data_fault all_pages generated_records
data_sound = refl

entries_sound : entry_fault 0 generated_records [] generated_records ≡ None
unfolding entry_fault generated_records
entries_sound = refl

plain_note : (image : List ℕ) → HasNote image → has_domains image ≡ false
plain_note image h = rw (notes_are image h, h.version) refl

trust_sound : (image : List ℕ) → HasNote image → trust_fault image ≡ None
unfolding trust_fault
trust_sound image h =
    rw (
      notes_sound image h,
      version_sound image h,
      plain_note image h,
      records_are image h,
      records_sound,
      segments_are image h,
      text_sound,
      data_sound,
      entries_sound,
    ) refl

no_functions : function_fault 0 generated_segments [] [] ≡ None
unfolding function_fault
no_functions = refl

whole_sound : (image ys : List ℕ) → image ≡ front ++ ys → HasNote image → length image ≡ 8424
    → first_fault image ≡ None
unfolding first_fault later_fault
whole_sound image ys e h long =
    let there : length (front ++ ys) ≡ 8424 = rw (← e) long in
    let head : head_fault image ≡ None = rw e (front_head ys there) in
    let header : header_fault image ≡ None = rw e (front_header ys there) in
    let entry : entry_point image ≡ 0x401000 = rw e (front_entry ys) in
    rw (
      head,
      header,
      segments_sound image h long,
      trust_sound image h,
      functions_are image h,
      segments_are image h,
      no_functions,
      entry,
    ) refl

pub generated_accepted : (threads rounds : ℕ) → IsAccepted (generated_image threads rounds)
generated_accepted threads rounds =
    whole_sound (generated_image threads rounds) (behind threads rounds) (with_front threads rounds)
    (has_note threads rounds) (generated_length threads rounds)

-- ---- segments and trust

pub generated_segments_are : (threads rounds : ℕ)
    → segments (generated_image threads rounds) ≡ generated_segments
generated_segments_are threads rounds =
    segments_are (generated_image threads rounds) (has_note threads rounds)

abbrev pub generated_trust : TrustValue
generated_trust = record {
  texts = record { start = 0x402000; length = 4096 } ∷ [];
  entries = 0x40200C ∷ 0x40204C ∷ [];
  text_keys = 1 ∷ [];
  entry_keys = 1 ∷ 1 ∷ [];
  domains = false ∷ true ∷ false ∷ false ∷ false ∷ [];
  integrity = false ∷ false ∷ false ∷ false ∷ false ∷ [];
  strict = false;
}

pub generated_trust_is : (threads rounds : ℕ)
    → image_trust (generated_image threads rounds) ≡ generated_trust
unfolding image_trust generated_records
generated_trust_is threads rounds =
    rw (
      plain_note (generated_image threads rounds) (has_note threads rounds),
      records_are (generated_image threads rounds) (has_note threads rounds),
    ) refl
