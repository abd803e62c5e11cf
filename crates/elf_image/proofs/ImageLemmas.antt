-- What an accepted image lists.
use Rattle.std.proofs.Common.{◌≡◌, ◌*◌, ℕ, Bool, true, false, List, [], None, refl, sym, ◌∙◌}
use Rattle.erim_defs.specs.declared.trust.Span.{Span}
use Rattle.std.specs.List.{list_any}
use Rattle.erim_defs.specs.Inspection.Trust.{TrustValue, key_beside, spans}
use Rattle.erim_defs.specs.Machine.Start.{page_key}
use Rattle.erim_defs.proofs.AcceptedLemmas.{page_key_beside}
use Rattle.erim_defs.specs.Inspection.Image.{IsAccepted, Record, image_data, image_heaps}
use Rattle.erim_defs.specs.Inspection.Image.{data_keys, has_domains, image_trust, record_fault}
use Rattle.erim_defs.specs.Inspection.Image.{records}
use Rattle.erim_defs.proofs.FaultLemmas.{sound}
use Rattle.elf_image.specs.declared.notes.NotesSeen.{NotesSeen}
use Rattle.elf_image.specs.declared.records.RecordTable.{RecordTable}
use Rattle.elf_image.specs.Domains.{domains_in, integrity_in, trust_in}
use Rattle.elf_image.specs.Form.{IsSeen, keys_in, spans_in}
use Rattle.elf_image.specs.Notes.{seen_domains, seen_records}
use Rattle.elf_image.specs.Records.{table_records}
use Rattle.elf_image.specs.Table.{HasTable}
use Rattle.elf_image.proofs.NoteLemmas.{seen-domains, seen-records}
use Rattle.elf_image.proofs.RowLemmas.{accepted_parts, has_table, later_parts}

pub accepted_table : (bytes : List ℕ) → IsAccepted bytes → HasTable bytes
accepted_table bytes h =
    let parts = accepted_parts bytes h in
    has_table bytes parts.0 (later_parts bytes parts.1).0

-- the lists are those of the image
pub read_image_is : (bytes : List ℕ) (seen : NotesSeen) (table : RecordTable) → IsSeen bytes seen
    → table_records bytes table ≡ seen_records bytes seen.trust
    → records bytes ≡ table_records bytes table
read_image_is bytes seen table h same = sym (same ∙ seen-records bytes seen h.seen_is)

pub version_is : (bytes : List ℕ) (seen : NotesSeen) (table : RecordTable) → IsSeen bytes seen
    → table.has_domains ≡ seen_domains seen.trust → has_domains bytes ≡ table.has_domains
version_is bytes seen table h same = sym (same ∙ seen-domains bytes seen h.seen_is)

-- where nothing is wrong with an image, nothing is with the records of its table
pub records_sound : (bytes : List ℕ) (seen : NotesSeen) (table : RecordTable) → IsAccepted bytes
    → IsSeen bytes seen → table_records bytes table ≡ seen_records bytes seen.trust
    → table.has_domains ≡ seen_domains seen.trust
    → record_fault table.has_domains 0 [] (table_records bytes table) ≡ None
records_sound bytes seen table accepted h same version =
    rw (sym (read_image_is bytes seen table h same), sym (version_is bytes seen table h version))
    (sound bytes accepted).recorded

pub trust_value : (bytes : List ℕ) (domains : Bool) (rs : List Record) (trust : TrustValue)
    → records bytes ≡ rs → has_domains bytes ≡ domains → trust ≡ trust_in domains rs
    → trust ≡ image_trust bytes
unfolding image_trust trust_in spans_in keys_in domains_in integrity_in
trust_value bytes domains rs trust e d is = rw (is, d, e) refl

pub keys_value : (bytes : List ℕ) (rs : List Record) (keys : List ℕ) → records bytes ≡ rs
    → keys ≡ keys_in 2 rs → keys ≡ data_keys bytes
unfolding data_keys keys_in
keys_value bytes rs keys e t = rw (t, e) refl

pub data_value : (bytes : List ℕ) (rs : List Record) (trusted : List Span) → records bytes ≡ rs
    → trusted ≡ spans_in 2 rs → trusted ≡ image_data bytes
unfolding image_data spans_in
data_value bytes rs trusted e t = rw (t, e) refl

pub heaps_value : (bytes : List ℕ) (rs : List Record) (heaps : List Span) → records bytes ≡ rs
    → heaps ≡ spans_in 4 rs → heaps ≡ image_heaps bytes
unfolding image_heaps spans_in
heaps_value bytes rs heaps e t = rw (t, e) refl

-- ---- the key of a page

pub key_in_heap : (image : List ℕ) (page : ℕ) → IsAccepted image
    → list_any (spans (4096 * page)) (image_heaps image) ≡ true → 1 ≡ page_key image page
key_in_heap image page h heap = sym (page_key_beside image page h ∙ rw heap refl)

pub key_outside : (image : List ℕ) (page key : ℕ) (ranges : List Span) (keys : List ℕ)
    → IsAccepted image → list_any (spans (4096 * page)) (image_heaps image) ≡ false
    → key ≡ key_beside (spans (4096 * page)) ranges keys → ranges ≡ image_data image
    → keys ≡ data_keys image → key ≡ page_key image page
key_outside image page key ranges keys h heap is r k =
    rw (r, k) at is ∙ sym (page_key_beside image page h ∙ rw heap refl)
