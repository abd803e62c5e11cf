-- The rows of faults, in their order.
use Rattle.std.proofs.Common.{◌≡◌, ℕ, zero, suc, ◌+◌, ◌*◌, ◌/◌, ◌<◌, ◌≤◌, List, [], ◌∷◌, length}
use Rattle.std.proofs.Common.{Some, None, Bool, true, false, cond, not, inl, inr, ltb, eqb, refl}
use Rattle.std.proofs.Common.{sym, subst, ◌∙◌, ap, arith, sum_by}
use Rattle.std.proofs.lemmas.Bool.{cases_Bool, and_parts, ltb-false}
use Rattle.erim_defs.specs.Inspection.Code.{or_else}
use Rattle.erim_defs.specs.declared.fault.ImageFault.{ImageFault}
use Rattle.erim_defs.specs.declared.fault.ImageFault.TheVariants.{Short, FileType, Machine}
use Rattle.erim_defs.specs.declared.fault.ImageFault.TheVariants.{HeaderSize, TooMany, NoteVersion}
use Rattle.erim_defs.specs.declared.fault.ImageFault.TheVariants.{EntryPoint}
use Rattle.erim_defs.specs.Inspection.Image.{Header, entry_point, fault_if, file_type, first_fault}
use Rattle.erim_defs.specs.Inspection.Image.{head_fault, header_at, header_count, header_fault}
use Rattle.erim_defs.specs.Inspection.Image.{header_size, headers, headers_from, is_in_file}
use Rattle.erim_defs.specs.Inspection.Image.{is_noted, is_ranged, later_fault, machine, note_fault}
use Rattle.erim_defs.specs.Inspection.Image.{notes, header_pages, range_fault, records}
use Rattle.erim_defs.specs.Inspection.Image.{segment_fault}
use Rattle.erim_defs.specs.Inspection.Image.{function_fault, has_domains, image_functions}
use Rattle.erim_defs.specs.Inspection.Image.{segments, static_fault, table_place, trust_fault}
use Rattle.erim_defs.proofs.FaultLemmas.{cond_fault, later_none, or_none}
use Rattle.elf_image.specs.declared.functions.FunctionTable.{FunctionTable}
use Rattle.elf_image.specs.declared.notes.NotesSeen.{NotesSeen}
use Rattle.elf_image.specs.declared.pages.Purpose.TheVariants.{Execution}
use Rattle.elf_image.specs.declared.records.RecordTable.{RecordTable}
use Rattle.elf_image.specs.Form.{IsSeen}
use Rattle.elf_image.specs.Functions.{table_functions}
use Rattle.elf_image.specs.Notes.{HasNotes, nothing_seen, see_all, seen_domains, seen_functions}
use Rattle.elf_image.specs.Notes.{seen_records}
use Rattle.elf_image.specs.Records.{is_held, records_fault, table_records}
use Rattle.elf_image.specs.Table.{HasTable, header_of}
use Rattle.elf_image.proofs.NoteLemmas.{seen-domains, seen-functions, seen-records}
use Rattle.elf_image.proofs.NoteLemmas.{seen-versioned}

if_none : (b : Bool) (fault : ImageFault) → fault_if b fault ≡ None → b ≡ false
if_none true fault h = absurd cc
if_none false fault h = refl

-- ---- the first bytes

pub head_long : (bytes : List ℕ) → head_fault bytes ≡ None → 64 ≤ length bytes
unfolding head_fault
head_long bytes h = ltb-false _ _ (if_none (ltb (length bytes) 64) (Short (length bytes))
    (or_none (fault_if (ltb (length bytes) 64) (Short (length bytes))) _ h).0)

no_faults : (a b c d e : Bool) (v w x y z : ImageFault)
    → or_else (fault_if a v)
    (or_else (fault_if b w) (or_else (fault_if c x) (or_else (fault_if d y) (fault_if e z)))) ≡ None
    → (d ≡ false) × (e ≡ false)
no_faults true b c d e v w x y z h = absurd cc
no_faults false true c d e v w x y z h = absurd cc
no_faults false false true d e v w x y z h = absurd cc
no_faults false false false true e v w x y z h = absurd cc
no_faults false false false false true v w x y z h = absurd cc
no_faults false false false false false v w x y z h = (refl, refl)

pub has_table : (bytes : List ℕ) → 64 ≤ length bytes → header_fault bytes ≡ None → HasTable bytes
unfolding header_fault
has_table bytes long h =
    let tests =
    no_faults (not (eqb (file_type bytes) 2)) (not (eqb (machine bytes) 62))
    (not (eqb (header_size bytes) 56)) (ltb 64 (header_count bytes))
    (ltb (length bytes) (table_place bytes + 56 * header_count bytes)) FileType Machine HeaderSize
    (TooMany (header_count bytes)) (Short (length bytes)) h
    in
    record { header = long; few = ltb-false _ _ tests.0; within = ltb-false _ _ tests.1 }

-- ---- segments

ranged_note : (file_length pages : ℕ) (h : Header) → is_noted h ≡ true
    → is_ranged file_length pages h ≡ true → is_in_file file_length h.segment ≡ true
ranged_note file_length pages h noted ranged =
    let kind : eqb h.kind 4 ≡ true = (and_parts (eqb h.kind 4) (not (eqb h.align 8)) noted).0 in
    rw kind at ranged

lying_notes : (file_length i : ℕ) (seen : List Header) (bytes : List ℕ) (place n k : ℕ)
    → range_fault file_length i seen (headers_from bytes place n) ≡ None → k < n
    → is_noted (header_at bytes (place + 56 * k)) ≡ true
    → is_in_file file_length (header_at bytes (place + 56 * k)).segment ≡ true
unfolding headers_from range_fault
lying_notes file_length i seen bytes place zero k h lt noted = absurd (omega arith)
lying_notes file_length i seen bytes place (suc n) zero h lt noted =
    let here : place + 56 * 0 ≡ place = omega arith in
    let P : ℕ → Type 0 = λ p. is_noted (header_at bytes p) ≡ true
    → is_in_file file_length (header_at bytes p).segment ≡ true in
    subst P (sym here) (λ at_place. ranged_note file_length (sum_by header_pages seen)
    (header_at bytes place) at_place
    (cond_fault (is_ranged file_length (sum_by header_pages seen) (header_at bytes place)) _
    (range_fault file_length (i + 1) (header_at bytes place
    ∷ seen) (headers_from bytes (place + 56) n)) h).0) noted
lying_notes file_length i seen bytes place (suc n) (suc k) h lt noted =
    let there : place + 56 * suc k ≡ place + 56 + 56 * k = omega arith in
    let P : ℕ → Type 0 = λ p. is_noted (header_at bytes p) ≡ true
    → is_in_file file_length (header_at bytes p).segment ≡ true in
    let rest = (cond_fault (is_ranged file_length (sum_by header_pages seen)
    (header_at bytes place)) _
    (range_fault file_length (i + 1) (header_at bytes place
    ∷ seen) (headers_from bytes (place + 56) n)) h).1 in
    subst P (sym there) (λ at_place. lying_notes file_length (i + 1) (header_at bytes place
    ∷ seen) bytes (place + 56) n k rest (omega arith) at_place) noted

pub segment_ranges : (bytes : List ℕ) → segment_fault bytes ≡ None
    → range_fault (length bytes) 0 [] (headers bytes) ≡ None
unfolding segment_fault
segment_ranges bytes h =
    (or_none (range_fault (length bytes) 0 [] (headers bytes)) _
    (or_none (static_fault 0 [] (headers bytes)) _ h).1).0

pub has_notes : (bytes : List ℕ) → segment_fault bytes ≡ None → HasNotes bytes
unfolding headers header_of
has_notes bytes h = λ index lt noted. lying_notes (length bytes) 0 [] bytes (table_place bytes)
    (header_count bytes) index (segment_ranges bytes h) lt noted

-- ---- notes and records

pub trust_notes : (bytes : List ℕ) (fault : ImageFault)
    → note_fault bytes (headers bytes) false false ≡ Some fault → trust_fault bytes ≡ Some fault
unfolding trust_fault
trust_notes bytes fault h = rw h refl

pub trust_version : (bytes : List ℕ) (seen : NotesSeen)
    → note_fault bytes (headers bytes) false false ≡ None
    → seen ≡ see_all bytes nothing_seen (notes bytes)
    → seen.versioned ≡ false → trust_fault bytes ≡ Some NoteVersion
unfolding trust_fault
trust_version bytes seen none seen_is bad = rw (none, seen-versioned bytes seen seen_is, bad) refl

pub trust_records : (bytes : List ℕ) (seen : NotesSeen) (table : RecordTable)
    → note_fault bytes (headers bytes) false false ≡ None
    → seen ≡ see_all bytes nothing_seen (notes bytes)
    → seen.versioned ≡ true → table_records bytes table ≡ seen_records bytes seen.trust
    → table.has_domains ≡ seen_domains seen.trust
    → trust_fault bytes ≡ records_fault bytes table
unfolding trust_fault records_fault
trust_records bytes seen table none seen_is good table_is domains_is =
    let same : records bytes ≡ table_records bytes table =
    sym (table_is ∙ seen-records bytes seen seen_is) in
    let version : has_domains bytes ≡ table.has_domains =
    sym (domains_is ∙ seen-domains bytes seen seen_is) in
    rw (none, seen-versioned bytes seen seen_is, good, version, same) refl

pub functions_are : (bytes : List ℕ) (seen : NotesSeen) (table : FunctionTable) → IsSeen bytes seen
    → table_functions bytes table ≡ seen_functions bytes seen.functions
    → table_functions bytes table ≡ image_functions bytes
functions_are bytes seen table h same = same ∙ seen-functions bytes seen h.seen_is

-- ---- all rows after the first

pub later_header : (bytes : List ℕ) (fault : ImageFault) → header_fault bytes ≡ Some fault
    → later_fault bytes ≡ Some fault
unfolding later_fault
later_header bytes fault h = rw h refl

pub later_segment : (bytes : List ℕ) (fault : ImageFault) → header_fault bytes ≡ None
    → segment_fault bytes ≡ Some fault → later_fault bytes ≡ Some fault
unfolding later_fault
later_segment bytes fault header segment = rw (header, segment) refl

pub later_trust : (bytes : List ℕ) (fault : ImageFault) → header_fault bytes ≡ None
    → segment_fault bytes ≡ None → trust_fault bytes ≡ Some fault → later_fault bytes ≡ Some fault
unfolding later_fault
later_trust bytes fault header segment trust = rw (header, segment, trust) refl

-- the functions that were seen are those of the image
seen_function_fault : (bytes : List ℕ) (seen : NotesSeen) (table : FunctionTable)
    → IsSeen bytes seen → table_functions bytes table ≡ seen_functions bytes seen.functions
    → function_fault 0 (segments bytes) [] (image_functions bytes)
    ≡ function_fault 0 (segments bytes) [] (table_functions bytes table)
seen_function_fault bytes seen table h same =
    ap (function_fault 0 (segments bytes) []) (sym (functions_are bytes seen table h same))

pub later_function : (bytes : List ℕ) (seen : NotesSeen) (table : FunctionTable)
    (fault : ImageFault) → header_fault bytes ≡ None → segment_fault bytes ≡ None
    → trust_fault bytes ≡ None → IsSeen bytes seen
    → table_functions bytes table ≡ seen_functions bytes seen.functions
    → function_fault 0 (segments bytes) [] (table_functions bytes table) ≡ Some fault
    → later_fault bytes ≡ Some fault
unfolding later_fault
later_function bytes seen table fault header segment trust h same function =
    rw (header, segment, trust, seen_function_fault bytes seen table h same, function) refl

pub later_entry : (bytes : List ℕ) (seen : NotesSeen) (table : FunctionTable)
    → header_fault bytes ≡ None → segment_fault bytes ≡ None → trust_fault bytes ≡ None
    → IsSeen bytes seen → table_functions bytes table ≡ seen_functions bytes seen.functions
    → function_fault 0 (segments bytes) [] (table_functions bytes table) ≡ None
    → later_fault bytes ≡ cond (is_held Execution (segments bytes) (entry_point bytes / 4096)) None
    (Some EntryPoint)
unfolding later_fault is_held
later_entry bytes seen table header segment trust h same function =
    rw (header, segment, trust, seen_function_fault bytes seen table h same, function)
    elim (cases_Bool (is_held Execution (segments bytes) (entry_point bytes / 4096))) [
      | inl held ↦ rw held refl
      | inr not_held ↦ rw not_held refl
    ]

-- ---- the first fault

pub first_head : (bytes : List ℕ) (fault : ImageFault) → head_fault bytes ≡ Some fault
    → first_fault bytes ≡ Some fault
unfolding first_fault
first_head bytes fault h = rw h refl

pub first_later : (bytes : List ℕ) → head_fault bytes ≡ None
    → first_fault bytes ≡ later_fault bytes
unfolding first_fault
first_later bytes head = rw head refl

-- ---- what is accepted

pub accepted_parts : (bytes : List ℕ) → first_fault bytes ≡ None
    → (64 ≤ length bytes) × (later_fault bytes ≡ None)
unfolding first_fault
accepted_parts bytes h = (head_long bytes (or_none (head_fault bytes) _ h).0, later_none bytes h)

pub later_parts : (bytes : List ℕ) → later_fault bytes ≡ None
    → (header_fault bytes ≡ None) × (segment_fault bytes ≡ None)
unfolding later_fault
later_parts bytes h =
    let p = or_none (header_fault bytes) _ h in
    (p.0, (or_none (segment_fault bytes) _ p.1).0)

-- ---- by function, for the goals of its rows

pub ruleset first_steps = (first_head, first_later, head_long)

pub ruleset later_steps = (later_header, later_segment, later_trust, has_table, has_notes)

pub ruleset trust_steps = (trust_version, trust_records, trust_notes)
