-- The state at the start. Own, after Linux's exec of a static program: ELF-64, "Program loading".
use Rattle.std.specs.Prelude.{ℕ, ◌+◌, ◌*◌, ◌/◌, ◌==◌, ◌&&◌, ◌||◌, ◌++◌, not, nat_lt, nat_le, Option}
use Rattle.std.specs.Prelude.{Some, None, List, [], ◌∷◌, Bool, true, false, replicate, slice_set}
use Rattle.std.specs.Prelude.{if◌then◌else◌}
use Rattle.std.specs.List.{list_any}
use Rattle.erim_defs.specs.declared.machine.Rights.{Rights}
use Rattle.erim_defs.specs.declared.machine.Thread.{Thread}
use Rattle.erim_defs.specs.declared.found.Found.{Found}
use Rattle.erim_defs.specs.declared.segment.Segment.{Segment}
use Rattle.erim_defs.specs.declared.linux.TheConstants.{PROT_EXEC, PROT_READ, PROT_WRITE}
use Rattle.erim_defs.specs.declared.page.TheConstants.{PLAIN_KEY, STACK_END_PAGE, STACK_PAGE}
use Rattle.erim_defs.specs.declared.page.TheConstants.{STACK_START}
use Rattle.erim_defs.specs.declared.register.TheConstants.{RSP}
use Rattle.erim_defs.specs.Machine.Pages.{RightsMap, ByteMap, asks_write, published_rights}
use Rattle.erim_defs.specs.Inspection.Trust.{spans, in_text_of, is_domain}
use Rattle.erim_defs.specs.Inspection.Check.{closed_value}
use Rattle.erim_defs.specs.Inspection.Image.{segments, touches, is_executable, is_writable}
use Rattle.erim_defs.specs.Inspection.Image.{loaded_byte, entry_point, image_data, image_heaps}
use Rattle.erim_defs.specs.Inspection.Image.{records}
use Rattle.erim_defs.specs.Inspection.Image.{Record, is_data, span_of}
use Rattle.erim_defs.specs.Inspection.Image.{trusted_code, page_total, image_trust}
use Rattle.erim_defs.specs.Inspection.Unsafe.{first_unsafe}
use Rattle.erim_defs.specs.Machine.State.{Setup, State}

-- every page asks to be read
abbrev pub asked_of : Segment → ℕ
asked_of s =
    PROT_READ + (if is_writable s then PROT_WRITE else 0)
    + (if is_executable s then PROT_EXEC else 0)

abbrev pub asked_in : List Segment → ℕ → Option ℕ
asked_in [] q = None
asked_in (s ∷ ss) q = if touches s q then Some (asked_of s) else asked_in ss q

-- the protection bits of a page of the image, or none where no segment touches it
abbrev pub image_asked : List ℕ → ℕ → Option ℕ
image_asked image q = asked_in (segments image) q

abbrev pub byte_in : List ℕ → List Segment → ℕ → ℕ
byte_in image [] a = 0
byte_in image (s ∷ ss) a = if touches s (a / 4096) then loaded_byte image s a
    else byte_in image ss a

-- the byte that is loaded at an address
abbrev pub image_byte : List ℕ → ByteMap
image_byte image a = byte_in image (segments image) a

-- is a page in a record of trusted data or of a trusted heap
abbrev pub is_keyed : List ℕ → ℕ → Bool
is_keyed image q = list_any (spans (4096 * q)) (image_data image ++ image_heaps image)

-- the key of the record of trusted data or of a trusted heap in which a page lies, or none
abbrev pub key_in : List Record → ℕ → ℕ
key_in [] q = PLAIN_KEY
key_in (r ∷ rs) q = if is_data r && spans (4096 * q) (span_of r) then r.key else key_in rs q

abbrev pub page_key : List ℕ → ℕ → ℕ
page_key image q = key_in (records image) q

-- readable where anything is asked
abbrev pub unpublished_rights : ℕ → ℕ → Rights
unpublished_rights asked key =
    record {
      read = not (asked == 0);
      write = asks_write asked;
      exec = false;
      asked = asked;
      key = key;
    }

-- 16 pages from 0x7FFE0000
abbrev pub is_stack : ℕ → Bool
is_stack q = nat_le STACK_PAGE q && nat_lt q STACK_END_PAGE

-- trusted text alone is published
abbrev pub rights_at_start : Bool → ℕ → Option ℕ → Option Rights
rights_at_start text key None = None
rights_at_start text key (Some asked) =
    Some (if text then published_rights (unpublished_rights asked key)
    else unpublished_rights asked key)

unfoldable pub first_rights : Setup → RightsMap
first_rights setup = λ q. if is_stack q
    then Some (unpublished_rights (PROT_READ + PROT_WRITE) PLAIN_KEY)
    else rights_at_start (in_text_of (image_trust setup.image) (4096 * q))
    (page_key setup.image q) (image_asked setup.image q)

-- closed, at the entry point, RSP at the end of the stack
unfoldable pub first_thread : Setup → Thread
first_thread setup = record {
  regs = slice_set (replicate 16 0) RSP STACK_START;
  rip = entry_point setup.image;
  flags = record { cf = false; pf = false; zf = false; sf = false; of = false };
  pkru = closed_value (image_trust setup.image);
  origin = None;
  live = true;
}

unfoldable pub first_state : Setup → State
first_state setup = record {
  setup = setup;
  rights = first_rights setup;
  bytes = image_byte setup.image;
  threads = first_thread setup ∷ [];
  keys = λ k. k == PLAIN_KEY || is_domain (image_trust setup.image) k;
  blocks = [];
  output = [];
  end = None;
  steps = 0;
  escape = None;
}

-- what trusted text holds that is unsafe by itself
unfoldable pub trusted_unsafe : List ℕ → Option Found
trusted_unsafe image = first_unsafe (image_trust image) (trusted_code image)

-- a frame for each page of the image and of the stack
abbrev pub frames_needed : List ℕ → ℕ
frames_needed image = page_total image + 16
