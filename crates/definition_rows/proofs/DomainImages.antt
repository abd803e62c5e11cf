-- Images with domains, and small states of the machine, on which its definitions are computed.
use Rattle.std.proofs.Common.{ℕ, ◌+◌, ◌*◌, ◌==◌, List, [], ◌∷◌, ◌++◌, length, true, false, Bool}
use Rattle.std.proofs.Common.{None}
use Rattle.std.specs.Prelude.{if◌then◌else◌, nat_lt}
use Rattle.std.specs.List.{flat_map}
use Rattle.erim_defs.specs.declared.machine.Thread.{Thread}
use Rattle.erim_defs.specs.Inspection.Code.{laid_at}
use Rattle.erim_defs.specs.Machine.Pages.{RightsMap}
use Rattle.erim_defs.specs.Machine.State.{State}
use Rattle.erim_defs.specs.declared.trust.Span.{Span}
use Rattle.erim_defs.specs.Inspection.Image.{Record}
use Rattle.erim_defs.specs.Inspection.Trust.{TrustValue}
use Rattle.erim_defs.specs.Output.LayImage.{Piece, program_header, file_header, words, xwords}
use Rattle.definition_rows.proofs.SmallMachine.{load, page, published_page, thread_at, byte_or}

-- ---- notes: the name, the version, the count, the records

abbrev pub mark : ℕ → ℕ → ℕ → ℕ → Record
mark kind key start length = record { kind = kind; key = key; start = start; length = length }

abbrev pub record_bytes : Record → List ℕ
record_bytes r = words (r.kind ∷ r.key ∷ []) ++ xwords (r.start ∷ r.length ∷ [])

abbrev pub note_of : ℕ → List Record → List ℕ
note_of version rs =
    words (5 ∷ (8 + 24 * length rs) ∷ 1 ∷ [])
    ++ (0x45 ∷ 0x52 ∷ 0x49 ∷ 0x4D ∷ 0 ∷ 0 ∷ 0 ∷ 0 ∷ words (version ∷ length rs ∷ [])
    ++ flat_map record_bytes rs)

-- a PT_NOTE (4) at a place
abbrev pub noted_at : ℕ → List ℕ → Piece
noted_at place notes =
    record {
      kind = 4;
      flags = 4;
      place = place;
      vaddr = 0;
      bytes = notes;
      memsz = length notes;
      align = 4;
    }

-- ---- an image with no segments: its trust is all that is asked of it

unfoldable pub bare_image : List ℕ → List ℕ
bare_image notes = file_header 1 0x401000 ++ program_header (noted_at 120 notes) ++ notes

-- ---- an image with segments: code at 0x401000; two pages that are executable from 0x402000 on;
-- five that can be written from 0x404000 on; after them its notes

abbrev pub pieces_with : List ℕ → List Piece
pieces_with notes =
    load 5 288 0x401000 (0x90 ∷ 0x90 ∷ 0x90 ∷ 0x90 ∷ []) 4 ∷ load 5 0 0x402000 [] 0x2000
    ∷ load 6 0 0x404000 [] 0x5000 ∷ noted_at 292 notes ∷ []

unfoldable pub image_with : List ℕ → List ℕ
image_with notes =
    file_header 4 0x401000 ++ flat_map program_header (pieces_with notes)
    ++ flat_map (λ (p : Piece). p.bytes) (pieces_with notes)

-- text, entry, data, heap and mark of a key
abbrev pub text : ℕ → ℕ → Record
text key start = mark 1 key start 4096

abbrev pub entry : ℕ → ℕ → Record
entry key start = mark 3 key start 0

abbrev pub integrity : ℕ → Record
integrity key = mark 5 key 0 0

-- text and an entry of 1 and of 2, data of 2 on one page, data of 1 on two, a heap, and a mark of 2
abbrev pub two_records : List Record
two_records =
    text 1 0x402000 ∷ text 2 0x403000 ∷ entry 1 0x40200C ∷ entry 2 0x40300C
    ∷ mark 2 2 0x404000 4096 ∷ mark 2 1 0x405000 0x2000 ∷ mark 4 1 0x407000 4096
    ∷ integrity 2 ∷ []

-- ---- a trust: text of 1 at 0x402000, text of 2 at 0x403000, each with an entry

abbrev pub span : ℕ → ℕ → Span
span start length = record { start = start; length = length }

abbrev pub two_domains : List Bool
two_domains = false ∷ true ∷ true ∷ false ∷ false ∷ []

abbrev pub no_flag : List Bool
no_flag = false ∷ false ∷ false ∷ false ∷ false ∷ []

abbrev pub first_flag : List Bool
first_flag = false ∷ true ∷ false ∷ false ∷ false ∷ []

abbrev pub second_flag : List Bool
second_flag = false ∷ false ∷ true ∷ false ∷ false ∷ []

abbrev pub third_flag : List Bool
third_flag = false ∷ false ∷ false ∷ true ∷ false ∷ []

abbrev pub fourth_flag : List Bool
fourth_flag = false ∷ false ∷ false ∷ false ∷ true ∷ []

abbrev pub four_flags : List Bool
four_flags = false ∷ true ∷ true ∷ true ∷ true ∷ []

abbrev pub trust_of_two : List Bool → Bool → TrustValue
trust_of_two integrity strict = record {
  texts = span 0x402000 4096 ∷ span 0x403000 4096 ∷ [];
  entries = 0x40200C ∷ 0x40300C ∷ [];
  text_keys = 1 ∷ 2 ∷ [];
  entry_keys = 1 ∷ 2 ∷ [];
  domains = two_domains;
  integrity = integrity;
  strict = strict;
}

-- the same with four domains
abbrev pub trust_of_four : List Bool → TrustValue
trust_of_four integrity = record (trust_of_two integrity true) { domains = four_flags }

-- ---- small states

-- pages 0x401, 0x402 and 0x403 are published, the last two being text of 1 and of 2; those that can
-- be written have these keys: 0x404 that of 2, 0x405 and 0x407 that of 1, 0x408 none, 0x409 that of
-- 3, which isn't a domain
abbrev pub domain_rights : RightsMap
domain_rights q =
    if q == 0x401 then published_page
    else if q == 0x402 then published_page
    else if q == 0x403 then published_page
    else if q == 0x404 then page 3 2
    else if q == 0x405 then page 3 1
    else if q == 0x407 then page 3 1
    else if q == 0x408 then page 3 0
    else if q == 0x409 then page 3 3
    else None

-- the records of two domains with the same text and entries; a mark may be added
abbrev pub plain_records : List Record
plain_records =
    text 1 0x402000 ∷ text 2 0x403000 ∷ entry 1 0x40200C ∷ entry 2 0x40300C
    ∷ mark 2 2 0x404000 4096 ∷ mark 2 1 0x405000 4096 ∷ mark 4 1 0x407000 4096 ∷ []

-- the machine with these records: a thread, bytes where it stands and zeros elsewhere; keys 0 to 3
-- are taken
abbrev pub domain_state : List Record → Thread → List ℕ → State
domain_state rs t bytes = record {
  setup = record { image = bare_image (note_of 2 rs); budget = 100; frames = 64 };
  rights = domain_rights;
  bytes = λ a. byte_or (laid_at t.rip bytes a) 0;
  threads = t ∷ [];
  keys = λ k. nat_lt k 4;
  blocks = [];
  output = [];
  end = None;
  steps = 6;
  escape = None;
}

-- a thread with this PKRU, at an address, with RAX
abbrev pub standing : ℕ → ℕ → ℕ → Thread
standing pkru rip rax = record (thread_at rip rax 0 0) { pkru = pkru }
