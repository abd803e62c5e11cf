-- The trusted part that the records of a table list.
use Rattle.std.specs.Prelude.{ℕ, ◌==◌, ◌||◌, Bool, List}
use Rattle.std.specs.List.{list_any}
use Rattle.erim_defs.specs.declared.page.TheConstants.{TRUSTED_KEY}
use Rattle.erim_defs.specs.declared.note.TheConstants.{TRUSTED_ENTRY, TRUSTED_TEXT}
use Rattle.erim_defs.specs.Inspection.Trust.{TrustValue}
use Rattle.erim_defs.specs.Inspection.Image.{Record, key_flags, marks, starts_of}
use Rattle.elf_image.specs.Form.{keys_in, spans_in}

abbrev pub has_key : ℕ → Record → Bool
has_key key r = r.key == key

-- which keys from 0 to 4 are domains, and which of them are integrity domains
unfoldable pub domains_in : List Record → List Bool
domains_in rs = key_flags (λ key. key == TRUSTED_KEY || list_any (has_key key) rs)

unfoldable pub integrity_in : List Record → List Bool
integrity_in rs = key_flags (λ key. list_any (marks key) rs)

-- the trusted part, where the note has version 2 or where it doesn't
unfoldable pub trust_in : Bool → List Record → TrustValue
trust_in domains rs = record {
  texts = spans_in TRUSTED_TEXT rs;
  entries = starts_of rs;
  text_keys = keys_in TRUSTED_TEXT rs;
  entry_keys = keys_in TRUSTED_ENTRY rs;
  domains = domains_in rs;
  integrity = integrity_in rs;
  strict = domains;
}
