-- One note after another.
use Rattle.std.proofs.Common.{◌≡◌, ℕ, zero, suc, ◌+◌, ◌*◌, ◌<◌, ◌≤◌, List, [], ◌∷◌, ◌++◌, length}
use Rattle.std.proofs.Common.{Option, Some, None, Bool, true, false, cond, ◌||◌, ◌&&◌, inl, inr}
use Rattle.std.proofs.Common.{not, eqb, refl, sym, ◌∙◌, ap, arith, min}
use Rattle.std.specs.List.{list_any}
use Rattle.std.specs.Prelude.{is_some, IfSome}
use Rattle.std.proofs.lemmas.Bool.{cases_lt, and_parts, and_from, eqb-true, ne_eqb, leb-true}
use Rattle.std.proofs.lemmas.Bool.{le-leb, lt-leb}
use Rattle.erim_defs.specs.Inspection.Code.{or_else}
use Rattle.erim_defs.specs.declared.fault.ImageFault.{ImageFault}
use Rattle.erim_defs.specs.declared.fault.ImageFault.TheVariants.{NoteShape, NoteVersion}
use Rattle.erim_defs.specs.Inspection.Image.{Header, Note, desc_size, header_count}
use Rattle.erim_defs.specs.Inspection.Image.{header_note_fault, header_notes, headers, is_functions}
use Rattle.erim_defs.specs.Inspection.Image.{is_note_shaped, is_trust, is_versioned, item_count}
use Rattle.erim_defs.specs.Inspection.Image.{name_size, next_note, note_at, note_end, note_fault}
use Rattle.erim_defs.specs.Inspection.Image.{note_fault_between, notes, notes_between, notes_of}
use Rattle.erim_defs.specs.Inspection.Image.{functions_in, has_domains, has_domains_in}
use Rattle.erim_defs.specs.Inspection.Image.{image_functions, is_counted}
use Rattle.erim_defs.specs.Inspection.Image.{padded_size, records_in, version_fault}
use Rattle.elf_image.specs.declared.functions.FunctionTable.{FunctionTable}
use Rattle.elf_image.specs.declared.notes.NotesSeen.{NotesSeen}
use Rattle.elf_image.specs.declared.records.RecordTable.{RecordTable}
use Rattle.elf_image.specs.Functions.{table_functions}
use Rattle.elf_image.specs.Records.{table_records}
use Rattle.elf_image.specs.Table.{header_of, headers_left}
use Rattle.elf_image.specs.Notes.{HasFunctionsOf, HasItems, HasTableOf, IsReadBefore, IsReadTo}
use Rattle.elf_image.specs.Notes.{functions_of, is_sound, nothing_seen, see, see_all}
use Rattle.elf_image.specs.Notes.{seen_domains, seen_functions, seen_records, table_of}
use Rattle.elf_image.proofs.TableLemmas.{headers_left-all, headers_left-next, headers_left-none}

-- ---- what is known after notes

or_assoc : (a b c : Bool) → ((a || b) || c) ≡ (a || (b || c))
or_assoc true b c = refl
or_assoc false b c = refl

or_false : (a : Bool) → (a || false) ≡ a
or_false true = refl
or_false false = refl

is_some-see : {T : Type 0} (t : Option T) (new : T) (b : Bool)
    → is_some (cond b (or_else t (Some new)) t) ≡ (is_some t || b)
is_some-see None new true = refl
is_some-see None new false = refl
is_some-see (Some x) new true = refl
is_some-see (Some x) new false = refl

pub see_all-functions : (bytes : List ℕ) (seen : NotesSeen) (ns : List Note)
    → is_some (see_all bytes seen ns).functions
    ≡ (is_some seen.functions || list_any is_functions ns)
unfolding see_all see
see_all-functions bytes seen [] = sym (or_false (is_some seen.functions))
see_all-functions bytes seen (n ∷ ns) =
    see_all-functions bytes (see bytes seen n) ns
    ∙ ap (λ b. b || list_any is_functions ns)
    (is_some-see seen.functions (functions_of bytes n) (is_functions n))
    ∙ or_assoc (is_some seen.functions) (is_functions n) (list_any is_functions ns)

pub see_all-trust : (bytes : List ℕ) (seen : NotesSeen) (ns : List Note)
    → is_some (see_all bytes seen ns).trust ≡ (is_some seen.trust || list_any is_trust ns)
unfolding see_all see
see_all-trust bytes seen [] = sym (or_false (is_some seen.trust))
see_all-trust bytes seen (n ∷ ns) =
    see_all-trust bytes (see bytes seen n) ns
    ∙ ap (λ b. b || list_any is_trust ns) (is_some-see seen.trust (table_of bytes n) (is_trust n))
    ∙ or_assoc (is_some seen.trust) (is_trust n) (list_any is_trust ns)

versioned_step : (a b c : Bool) → ((a && b) && not c) ≡ (a && not (not b || c))
versioned_step true true c = refl
versioned_step true false c = refl
versioned_step false b c = refl

and_true : (a : Bool) → (a && true) ≡ a
and_true true = refl
and_true false = refl

see_all-versioned : (bytes : List ℕ) (seen : NotesSeen) (ns : List Note)
    → (see_all bytes seen ns).versioned
    ≡ (seen.versioned && not (list_any (λ n. not (is_versioned bytes n)) ns))
unfolding see_all see
see_all-versioned bytes seen [] = sym (and_true seen.versioned)
see_all-versioned bytes seen (n ∷ ns) =
    see_all-versioned bytes (see bytes seen n) ns
    ∙ versioned_step seen.versioned (is_versioned bytes n)
    (list_any (λ n. not (is_versioned bytes n)) ns)

-- what a table that was seen before says, or what notes do
abbrev first_items : {T X : Type 0} → (T → X) → Option T → X → X
first_items items None others = others
first_items items (Some table) others = items table

first_items-see : {T X : Type 0} (items : T → X) (t : Option T) (new : T) (others : X)
    (b : Bool) → first_items items (cond b (or_else t (Some new)) t) others
    ≡ first_items items t (cond b (items new) others)
first_items-see items None new others true = refl
first_items-see items None new others false = refl
first_items-see items (Some x) new others true = refl
first_items-see items (Some x) new others false = refl

first_items-records : (bytes : List ℕ) (t : Option RecordTable)
    → seen_records bytes t ≡ first_items (table_records bytes) t []
first_items-records bytes None = refl
first_items-records bytes (Some table) = refl

first_items-domains : (t : Option RecordTable)
    → seen_domains t ≡ first_items (λ (table : RecordTable). table.has_domains) t false
first_items-domains None = refl
first_items-domains (Some table) = refl

first_items-functions : (bytes : List ℕ) (t : Option FunctionTable)
    → seen_functions bytes t ≡ first_items (table_functions bytes) t []
first_items-functions bytes None = refl
first_items-functions bytes (Some table) = refl

see_all-records : (bytes : List ℕ) (seen : NotesSeen) (ns : List Note)
    → seen_records bytes (see_all bytes seen ns).trust
    ≡ first_items (table_records bytes) seen.trust (records_in bytes ns)
unfolding see_all see records_in
see_all-records bytes seen [] = first_items-records bytes seen.trust
see_all-records bytes seen (n ∷ ns) =
    see_all-records bytes (see bytes seen n) ns
    ∙ first_items-see (table_records bytes) seen.trust (table_of bytes n) (records_in bytes ns)
    (is_trust n)

see_all-domains : (bytes : List ℕ) (seen : NotesSeen) (ns : List Note)
    → seen_domains (see_all bytes seen ns).trust
    ≡ first_items (λ (table : RecordTable). table.has_domains) seen.trust (has_domains_in bytes ns)
unfolding see_all see
see_all-domains bytes seen [] = first_items-domains seen.trust
see_all-domains bytes seen (n ∷ ns) =
    see_all-domains bytes (see bytes seen n) ns
    ∙ first_items-see (λ (table : RecordTable). table.has_domains) seen.trust (table_of bytes n)
    (has_domains_in bytes ns) (is_trust n)

see_all-listed : (bytes : List ℕ) (seen : NotesSeen) (ns : List Note)
    → seen_functions bytes (see_all bytes seen ns).functions
    ≡ first_items (table_functions bytes) seen.functions (functions_in bytes ns)
unfolding see_all see functions_in
see_all-listed bytes seen [] = first_items-functions bytes seen.functions
see_all-listed bytes seen (n ∷ ns) =
    see_all-listed bytes (see bytes seen n) ns
    ∙ first_items-see (table_functions bytes) seen.functions (functions_of bytes n)
    (functions_in bytes ns) (is_functions n)

-- what is known after all notes of an image
pub seen-records : (bytes : List ℕ) (after : NotesSeen)
    → after ≡ see_all bytes nothing_seen (notes bytes)
    → seen_records bytes after.trust ≡ records_in bytes (notes bytes)
seen-records bytes after e = rw e (see_all-records bytes nothing_seen (notes bytes))

pub seen-domains : (bytes : List ℕ) (after : NotesSeen)
    → after ≡ see_all bytes nothing_seen (notes bytes)
    → seen_domains after.trust ≡ has_domains bytes
seen-domains bytes after e = rw e (see_all-domains bytes nothing_seen (notes bytes))

pub seen-functions : (bytes : List ℕ) (after : NotesSeen)
    → after ≡ see_all bytes nothing_seen (notes bytes)
    → seen_functions bytes after.functions ≡ image_functions bytes
unfolding image_functions
seen-functions bytes after e = rw e (see_all-listed bytes nothing_seen (notes bytes))

pub seen-versioned : (bytes : List ℕ) (after : NotesSeen)
    → after ≡ see_all bytes nothing_seen (notes bytes)
    → version_fault bytes ≡ cond after.versioned None (Some NoteVersion)
seen-versioned bytes after e =
    let v : after.versioned ≡ not (list_any (λ n. not (is_versioned bytes n)) (notes bytes)) =
    rw e (see_all-versioned bytes nothing_seen (notes bytes)) in
    rw v (not_cond (list_any (λ n. not (is_versioned bytes n)) (notes bytes)))
  where
    not_cond : (b : Bool) → cond b (Some NoteVersion) None ≡ cond (not b) None (Some NoteVersion)
    not_cond true = refl
    not_cond false = refl

-- ---- notes between two places

-- after the end there are none
past_fault : (bytes : List ℕ) (left place end : ℕ) (trust functions : Bool) → end ≤ place
    → note_fault_between bytes left place end trust functions ≡ None
unfolding note_fault_between
past_fault bytes zero place end trust functions h = refl
past_fault bytes (suc left) place end trust functions h = rw (le-leb end place h) refl

past_notes : (bytes : List ℕ) (left place end : ℕ) → end ≤ place
    → notes_between bytes left place end ≡ []
unfolding notes_between
past_notes bytes zero place end h = refl
past_notes bytes (suc left) place end h = rw (lt-leb (place + 12) end (omega arith)) refl

-- so a place may be cut to the end
cut_fault : (bytes : List ℕ) (left place end : ℕ) (trust functions : Bool)
    → note_fault_between bytes left (min place end) end trust functions
    ≡ note_fault_between bytes left place end trust functions
cut_fault bytes left place end trust functions =
    elim (cases_lt place end) [
      | inl before ↦ (let e : min place end ≡ place = omega arith in rw e refl)
      | inr past ↦ past_fault bytes left (min place end) end trust functions (omega arith)
          ∙ sym (past_fault bytes left place end trust functions past)
    ]

cut_notes : (bytes : List ℕ) (left place end : ℕ)
    → notes_between bytes left (min place end) end ≡ notes_between bytes left place end
cut_notes bytes left place end =
    elim (cases_lt place end) [
      | inl before ↦ (let e : min place end ≡ place = omega arith in rw e refl)
      | inr past ↦ past_notes bytes left (min place end) end (omega arith)
          ∙ sym (past_notes bytes left place end past)
    ]

fault_stops : (bytes : List ℕ) (left place end : ℕ) (trust functions : Bool) → place < end
    → is_sound bytes place end trust functions ≡ false
    → note_fault_between bytes (suc left) place end trust functions ≡ Some (NoteShape place)
unfolding note_fault_between is_sound
fault_stops bytes left place end trust functions h test = rw (lt-leb end place h, test) refl

fault_goes_on : (bytes : List ℕ) (left place end : ℕ) (trust functions : Bool) → place < end
    → is_sound bytes place end trust functions ≡ true
    → note_fault_between bytes (suc left) place end trust functions
    ≡ note_fault_between bytes left (next_note bytes place) end (trust
    || is_trust (note_at bytes place)) (functions || is_functions (note_at bytes place))
unfolding note_fault_between is_sound
fault_goes_on bytes left place end trust functions h test = rw (lt-leb end place h, test) refl

-- what a sound note is
pub record IsSound (bytes : List ℕ) (place end : ℕ) : Type 0 where
  pub header : place + 12 ≤ end
  pub whole : note_end bytes place ≤ end
  pub shaped : is_note_shaped bytes (note_at bytes place) ≡ true

pub sound_view : (bytes : List ℕ) (place end : ℕ) (trust functions : Bool)
    → is_sound bytes place end trust functions ≡ true → IsSound bytes place end
unfolding is_sound
sound_view bytes place end trust functions h =
    let p = and_parts _ _ h in
    let q = and_parts _ _ p.1 in
    let r = and_parts _ _ q.1 in
    record {
      header = leb-true _ _ p.0;
      whole = leb-true _ _ q.0;
      shaped = r.0;
    }

notes_go_on : (bytes : List ℕ) (left place end : ℕ) → place + 12 ≤ end → note_end bytes place ≤ end
    → notes_between bytes (suc left) place end
    ≡ note_at bytes place ∷ notes_between bytes left (next_note bytes place) end
unfolding notes_between
notes_go_on bytes left place end header whole =
    rw (and_from _ _ (le-leb (place + 12) end header) (le-leb (note_end bytes place) end whole))
    refl

-- the items of a note lie in its desc
items_within : (bytes : List ℕ) (place size most : ℕ)
    → is_counted bytes (note_at bytes place) size most ≡ true → note_end bytes place ≤ length bytes
    → (item_count bytes (note_at bytes place) ≤ most)
    × ((note_at bytes place).desc + 8 + size * item_count bytes (note_at bytes place)
    ≤ length bytes)
items_within bytes place size most counted whole =
    let p = and_parts _ _ counted in
    let q = and_parts _ _ p.1 in
    let long : 8 ≤ desc_size bytes place = leb-true _ _ p.0 in
    let total : desc_size bytes place ≡ 8 + size * item_count bytes (note_at bytes place) =
    eqb-true _ _ q.0 in
    let some : eqb (desc_size bytes place) 0 ≡ false =
    ne_eqb _ _ (λ (e : desc_size bytes place ≡ 0). absurd (omega arith)) in
    let all : place + 12 + padded_size (name_size bytes place) + desc_size bytes place ≤ length
    bytes = rw some at whole in
    (leb-true _ _ q.1, omega arith)

records_within : (bytes : List ℕ) (place : ℕ) → is_note_shaped bytes (note_at bytes place) ≡ true
    → note_end bytes place ≤ length bytes → is_trust (note_at bytes place) ≡ true
    → HasTableOf bytes (table_of bytes (note_at bytes place))
records_within bytes place shaped whole trust =
    let within = items_within bytes place 24 256 (rw trust at shaped) whole in
    record { few = within.0; within = within.1 }

-- a functions note is no trust note, since it has another type
other_kind : (a : Bool) (kind : ℕ) → kind ≡ 2 → (a && eqb kind 1) ≡ false
other_kind true kind h = rw h refl
other_kind false kind h = refl

functions_within : (bytes : List ℕ) (place : ℕ)
    → is_note_shaped bytes (note_at bytes place) ≡ true → note_end bytes place ≤ length bytes
    → is_functions (note_at bytes place) ≡ true
    → HasFunctionsOf bytes (functions_of bytes (note_at bytes place))
functions_within bytes place shaped whole functions =
    let kind = eqb-true _ _ (and_parts _ _ functions).1 in
    let other : is_trust (note_at bytes place) ≡ false =
    other_kind _ (note_at bytes place).kind kind in
    let within = items_within bytes place 16 4096 (rw (other, functions) at shaped) whole in
    record { few = within.0; within = within.1 }

-- what is said of a table that was seen is said after one more note too
table-see : {T : Type 0} (P : T → Type 0) (t : Option T) (new : T) (b : Bool) → (b ≡ true → P new)
    → IfSome t P → IfSome (cond b (or_else t (Some new)) t) P
table-see P None new true here h = here refl
table-see P None new false here h = h
table-see P (Some x) new true here h = h
table-see P (Some x) new false here h = h

items-see : (bytes : List ℕ) (seen : NotesSeen) (place : ℕ)
    → is_note_shaped bytes (note_at bytes place) ≡ true → note_end bytes place ≤ length bytes
    → HasItems bytes seen → HasItems bytes (see bytes seen (note_at bytes place))
unfolding see
items-see bytes seen place shaped whole h =
    record {
      trust = table-see (HasTableOf bytes) seen.trust _ (is_trust (note_at bytes place))
          (records_within bytes place shaped whole) h.trust;
      functions = table-see (HasFunctionsOf bytes) seen.functions _
          (is_functions (note_at bytes place)) (functions_within bytes place shaped whole)
          h.functions;
    }

pub read_begins : (bytes : List ℕ) (end size start : ℕ) (before : NotesSeen)
    → HasItems bytes before → start ≤ end → IsReadTo bytes end size start before size start before
read_begins bytes end size start before items le =
    record { fault = refl; seen_is = refl; items = items; place_le = le }

pub read_goes_on : (bytes : List ℕ) (end left more place size start : ℕ) (seen before : NotesSeen)
    → IsReadTo bytes end left place seen size start before → left ≡ suc more → place < end
    → end ≤ length bytes
    → is_sound bytes place end (is_some seen.trust) (is_some seen.functions) ≡ true
    → IsReadTo bytes end more (min (next_note bytes place) end)
    (see bytes seen (note_at bytes place)) size start before
unfolding see see_all
read_goes_on bytes end left more place size start seen before so_far count lt within test =
    let sound = sound_view bytes place end (is_some seen.trust) (is_some seen.functions) test in
    let trust = is_some-see seen.trust (table_of bytes (note_at bytes place))
    (is_trust (note_at bytes place)) in
    let functions = is_some-see seen.functions (functions_of bytes (note_at bytes place))
    (is_functions (note_at bytes place)) in
    record {
      fault =
          cut_fault bytes more (next_note bytes place) end _ _
          ∙ ap (note_fault_between bytes more (next_note bytes place) end _) functions
          ∙ ap (λ t. note_fault_between bytes more (next_note bytes place) end t
          (is_some seen.functions || is_functions (note_at bytes place))) trust
          ∙ sym (fault_goes_on bytes more place end (is_some seen.trust)
          (is_some seen.functions) lt test)
          ∙ ap (λ n. note_fault_between bytes n place end (is_some seen.trust)
          (is_some seen.functions))
          (sym count)
          ∙ so_far.fault;
      seen_is =
          ap (see_all bytes (see bytes seen (note_at bytes place)))
          (cut_notes bytes more (next_note bytes place) end)
          ∙ ap (see_all bytes seen)
          (sym (notes_go_on bytes more place end sound.header sound.whole))
          ∙ ap (λ n. see_all bytes seen (notes_between bytes n place end)) (sym count)
          ∙ so_far.seen_is;
      items = items-see bytes seen place sound.shaped (omega (arith, sound.whole)) so_far.items;
      place_le = omega arith;
    }

pub read_stops : (bytes : List ℕ) (end left more place size start : ℕ) (seen before : NotesSeen)
    → IsReadTo bytes end left place seen size start before → left ≡ suc more → place < end
    → is_sound bytes place end (is_some seen.trust) (is_some seen.functions) ≡ false
    → note_fault_between bytes size start end (is_some before.trust) (is_some before.functions)
    ≡ Some (NoteShape place)
read_stops bytes end left more place size start seen before so_far count lt test =
    sym so_far.fault
    ∙ ap (λ n. note_fault_between bytes n place end (is_some seen.trust)
    (is_some seen.functions)) count
    ∙ fault_stops bytes more place end (is_some seen.trust) (is_some seen.functions) lt test

pub read_ends : (bytes : List ℕ) (end left place size start : ℕ) (seen before : NotesSeen)
    → IsReadTo bytes end left place seen size start before → end ≤ place
    → (note_fault_between bytes size start end (is_some before.trust)
    (is_some before.functions) ≡ None)
    × (seen ≡ see_all bytes before (notes_between bytes size start end)) × HasItems bytes seen
unfolding see_all
read_ends bytes end left place size start seen before so_far past = (
  sym so_far.fault ∙ past_fault bytes left place end _ _ past,
  ap (see_all bytes seen)
      (sym (past_notes bytes left place end past)) ∙ so_far.seen_is,
  so_far.items,
)

pub read_runs_out : (bytes : List ℕ) (end left place size start : ℕ) (seen before : NotesSeen)
    → IsReadTo bytes end left place seen size start before → left ≡ 0
    → (note_fault_between bytes size start end (is_some before.trust)
    (is_some before.functions) ≡ None)
    × (seen ≡ see_all bytes before (notes_between bytes size start end)) × HasItems bytes seen
unfolding see_all note_fault_between notes_between
read_runs_out bytes end left place size start seen before so_far none = (
  sym so_far.fault ∙ ap (λ n. note_fault_between bytes n place end (is_some seen.trust)
      (is_some seen.functions)) none,
  ap (λ n. see_all bytes seen (notes_between bytes n place end)) (sym none) ∙ so_far.seen_is,
  so_far.items,
)

-- ---- the notes of one header after another

pub all_begins : (bytes : List ℕ) → IsReadBefore bytes 0 nothing_seen
unfolding notes
all_begins bytes =
    record {
      fault = ap (λ hs. note_fault bytes hs false false) (headers_left-all bytes);
      seen_is = ap (λ hs. see_all bytes nothing_seen (notes_of bytes hs)) (headers_left-all bytes);
      items = record { trust = tt; functions = tt };
    }

fault_header : (bytes : List ℕ) (h : Header) (hs : List Header) (trust functions : Bool)
    → header_note_fault bytes h trust functions ≡ None
    → note_fault bytes (h ∷ hs) trust functions
    ≡ note_fault bytes hs (trust || list_any is_trust (header_notes bytes h)) (functions
    || list_any is_functions (header_notes bytes h))
unfolding note_fault
fault_header bytes h hs trust functions none = rw none refl

fault_header_stops : (bytes : List ℕ) (h : Header) (hs : List Header) (trust functions : Bool)
    (fault : ImageFault) → header_note_fault bytes h trust functions ≡ Some fault
    → note_fault bytes (h ∷ hs) trust functions ≡ Some fault
unfolding note_fault
fault_header_stops bytes h hs trust functions fault some = rw some refl

see_all-append : (bytes : List ℕ) (seen : NotesSeen) (xs ys : List Note)
    → see_all bytes seen (xs ++ ys) ≡ see_all bytes (see_all bytes seen xs) ys
unfolding see_all
see_all-append bytes seen [] ys = refl
see_all-append bytes seen (x ∷ xs) ys = see_all-append bytes (see bytes seen x) xs ys

pub all_go_on : (bytes : List ℕ) (index : ℕ) (seen after : NotesSeen)
    → IsReadBefore bytes index seen → index < header_count bytes
    → header_note_fault bytes (header_of bytes index) (is_some seen.trust)
    (is_some seen.functions) ≡ None
    → after ≡ see_all bytes seen (header_notes bytes (header_of bytes index))
    → HasItems bytes after
    → IsReadBefore bytes (index + 1) after
all_go_on bytes index seen after so_far lt none after_is items =
    let h = header_of bytes index in
    let hs = headers_left bytes (index + 1) in
    let here = header_notes bytes h in
    let trust : is_some after.trust ≡ (is_some seen.trust || list_any is_trust here) =
    rw after_is (see_all-trust bytes seen here) in
    let functions : is_some after.functions
    ≡ (is_some seen.functions || list_any is_functions here) =
    rw after_is (see_all-functions bytes seen here) in
    record {
      fault =
          ap (λ t. note_fault bytes hs t (is_some after.functions)) trust
          ∙ ap (note_fault bytes hs (is_some seen.trust || list_any is_trust here)) functions
          ∙ sym (fault_header bytes h hs (is_some seen.trust) (is_some seen.functions) none)
          ∙ ap (λ left. note_fault bytes left (is_some seen.trust) (is_some seen.functions))
          (sym (headers_left-next bytes index lt))
          ∙ so_far.fault;
      seen_is =
          ap (λ a. see_all bytes a (notes_of bytes hs)) after_is
          ∙ sym (see_all-append bytes seen here (notes_of bytes hs))
          ∙ ap (λ left. see_all bytes seen (notes_of bytes left))
          (sym (headers_left-next bytes index lt))
          ∙ so_far.seen_is;
      items = items;
    }

pub all_stop : (bytes : List ℕ) (index : ℕ) (seen : NotesSeen) (fault : ImageFault)
    → IsReadBefore bytes index seen → index < header_count bytes
    → header_note_fault bytes (header_of bytes index) (is_some seen.trust) (is_some seen.functions)
    ≡ Some fault
    → note_fault bytes (headers bytes) false false ≡ Some fault
all_stop bytes index seen fault so_far lt some =
    sym so_far.fault
    ∙ ap (λ left. note_fault bytes left (is_some seen.trust) (is_some seen.functions))
    (headers_left-next bytes index lt)
    ∙ fault_header_stops bytes (header_of bytes index) _ (is_some seen.trust)
    (is_some seen.functions) fault
    some

pub all_end : (bytes : List ℕ) (index : ℕ) (seen : NotesSeen) → IsReadBefore bytes index seen
    → header_count bytes ≤ index
    → (note_fault bytes (headers bytes) false false ≡ None)
    × (seen ≡ see_all bytes nothing_seen (notes bytes)) × HasItems bytes seen
unfolding note_fault see_all
all_end bytes index seen so_far past = (
  sym so_far.fault
      ∙ ap (λ left. note_fault bytes left (is_some seen.trust) (is_some seen.functions))
      (headers_left-none bytes index past),
  ap (λ left. see_all bytes seen (notes_of bytes left)) (sym (headers_left-none bytes index past))
      ∙ so_far.seen_is,
  so_far.items,
)
