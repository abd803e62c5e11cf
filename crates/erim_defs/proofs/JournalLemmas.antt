-- The bytes of a journal determine it and have no fault, and bytes without a fault are those of the
-- journal that is read from them.
use Rattle.std.proofs.Common.{◌≡◌, ◌∙◌, ℕ, zero, suc, ◌+◌, ◌*◌, ◌<◌, ◌≤◌, Bool, true, false}
use Rattle.std.proofs.Common.{List, [], ◌∷◌, ◌++◌, length, take, drop, get_or, cond, Option, Some}
use Rattle.std.proofs.Common.{None, refl, sym, ap, inl, inr, add_assoc, append_assoc, arith}
use Rattle.std.proofs.Common.{length-drop}
use Rattle.std.specs.Prelude.{nat_le, nat_lt, ◌&&◌, not, codes}
use Rattle.std.specs.List.{flat_map}
use Rattle.std.specs.Int.{w16, w32, to_le_bytes}
use Rattle.std.specs.Str.{bytes_eq}
use Rattle.std.proofs.lemmas.Bool.{ltb-true, cases_lt, le-ltb, le-leb, leb-true, ltb-false}
use Rattle.std.proofs.lemmas.Bool.{not-false}
use Rattle.std.proofs.lemmas.List.{drop-drop, drop_all, get_or-drop, get_or-take, get_or_past}
use Rattle.std.proofs.lemmas.List.{length-take-le, take-append-drop}
use Rattle.std.proofs.lemmas.List.Concat.{flat_map-cons}
use Rattle.std.proofs.lemmas.Nat.{from_le_bytes-to_le_bytes_2, from_le_bytes-to_le_bytes_4}
use Rattle.std.proofs.lemmas.Nat.{le_bytes_2, le_bytes_4}
use Rattle.std.proofs.lemmas.Slice.Eq.{bytes_eq-Decides}
use Rattle.erim_defs.specs.declared.journal.JournalFault.{JournalFault}
use Rattle.erim_defs.specs.declared.journal.JournalFault.TheVariants.{BadEntry}
use Rattle.erim_defs.specs.declared.machine.Entry.{Entry}
use Rattle.erim_defs.specs.Inspection.Image.{number_at}
use Rattle.erim_defs.specs.Output.Journal.{JournalValue, IsJournal, AreEntries, OneJournal}
use Rattle.erim_defs.specs.Output.Journal.{is_journal_entry, entry_bytes, journal_text}
use Rattle.erim_defs.specs.Output.Journal.{entry_at, entries_from}
use Rattle.erim_defs.specs.Output.Journal.{budget_of, frames_of, count_of, journal_of, entry_fault}
use Rattle.erim_defs.specs.Output.Journal.{journal_fault}

-- ---- tests

both : (a b : Bool) → (a && b) ≡ true → (a ≡ true) × (b ≡ true)
both true b e = (refl, e)
both false b e = absurd cc

within : (least n most : ℕ) → least ≤ n → n ≤ most → (nat_le least n && nat_le n most) ≡ true
within least n most low high = rw (le-leb least n low, le-leb n most high) refl

-- a test that found no fault
passed : (test : Bool) (fault : JournalFault) (others : Option JournalFault)
    → cond test (Some fault) others ≡ None → (test ≡ false) × (others ≡ None)
passed true fault others none = absurd cc
passed false fault others none = (refl, none)

-- ---- numbers and their bytes

-- a number of the bytes after some
number_behind : (bytes : List ℕ) (skip place n : ℕ)
    → number_at (drop skip bytes) place n ≡ number_at bytes (skip + place) n
unfolding number_at
number_behind bytes skip place zero = refl
number_behind bytes skip place (suc n) =
    let more : skip + suc place ≡ suc (skip + place) = omega arith in
    rw (get_or-drop skip bytes place 0, number_behind bytes skip (suc place) n, more) refl

-- a byte of those from a place on
byte_behind : (bytes : List ℕ) (place n i whole : ℕ) → i < n → place + i ≡ whole
    → get_or (take n (drop place bytes)) i 0 ≡ get_or bytes whole 0
byte_behind bytes place n i whole low same =
    get_or-take n (drop place bytes) i 0 low ∙ get_or-drop place bytes i 0
    ∙ ap (λ (k : ℕ). get_or bytes k 0) same

part_length : (bytes : List ℕ) (place n : ℕ) → place + n ≤ length bytes
    → length (take n (drop place bytes)) ≡ n
part_length bytes place n long =
    length-take-le n (drop place bytes) (omega (arith, length-drop place bytes))

part_fits : (bytes : List ℕ) (place n : ℕ) → ((i : ℕ) → get_or bytes i 0 < 256)
    → place + n ≤ length bytes → (i : ℕ) → get_or (take n (drop place bytes)) i 0 < 256
part_fits bytes place n fits long i =
    let size = part_length bytes place n long in
    elim (cases_lt i n) [
      | inl low ↦ omega (arith, byte_behind bytes place n i (place + i) low refl, fits (place + i))
      | inr high ↦ omega (arith, get_or_past (take n (drop place bytes)) i 0 (omega (arith, size)))
    ]

-- the bytes of the number at a place are those that stand there
two_bytes : (bytes : List ℕ) (place : ℕ) → ((i : ℕ) → get_or bytes i 0 < 256)
    → place + 2 ≤ length bytes
    → to_le_bytes w16 (number_at bytes place 2) ≡ take 2 (drop place bytes)
unfolding number_at
two_bytes bytes place fits long =
    let part = take 2 (drop place bytes) in
    le_bytes_2 part (number_at bytes place 2) (part_length bytes place 2 long)
    (part_fits bytes place 2 fits long) (omega (
      arith,
      byte_behind bytes place 2 0 place (omega arith) (omega arith),
      byte_behind bytes place 2 1 (suc place) (omega arith) (omega arith),
    ))

four_bytes : (bytes : List ℕ) (place : ℕ) → ((i : ℕ) → get_or bytes i 0 < 256)
    → place + 4 ≤ length bytes
    → to_le_bytes w32 (number_at bytes place 4) ≡ take 4 (drop place bytes)
unfolding number_at
four_bytes bytes place fits long =
    let part = take 4 (drop place bytes) in
    le_bytes_4 part (number_at bytes place 4) (part_length bytes place 4 long)
    (part_fits bytes place 4 fits long) (omega (
      arith,
      byte_behind bytes place 4 0 place (omega arith) (omega arith),
      byte_behind bytes place 4 1 (suc place) (omega arith) (omega arith),
      byte_behind bytes place 4 2 (suc (suc place)) (omega arith) (omega arith),
      byte_behind bytes place 4 3 (suc (suc (suc place))) (omega arith) (omega arith),
    ))

-- ---- entries

-- the entries of the bytes after some
entries_behind : (bytes : List ℕ) (skip place n : ℕ)
    → entries_from (drop skip bytes) place n ≡ entries_from bytes (skip + place) n
unfolding entries_from
entries_behind bytes skip place zero = refl
entries_behind bytes skip place (suc n) =
    rw (
      add_assoc skip place 2,
      add_assoc skip place 4,
      add_assoc skip place 8,
      number_behind bytes skip place 2,
      number_behind bytes skip (place + 2) 2,
      number_behind bytes skip (place + 4) 4,
      entries_behind bytes skip (place + 8) n,
    ) refl

-- an entry by its fields
same_entry : (worker thread count : ℕ) (e : Entry) → worker ≡ e.worker → thread ≡ e.thread
    → count ≡ e.count
    → let other : Entry = record { worker = worker; thread = thread; count = count } in other ≡ e
same_entry worker thread count e w t k = rw (w, t, k) refl

-- the entry that its bytes begin with
entry_again : (e : Entry) (rest : List ℕ) → is_journal_entry e ≡ true
    → entry_at (entry_bytes e ++ rest) 0 ≡ e
unfolding number_at
entry_again e rest fits =
    let worker = both (nat_le e.worker 8) _ fits in
    let thread = both (nat_lt e.thread 16) _ worker.1 in
    let count = both (nat_le 1 e.count) _ thread.1 in
    let w = leb-true e.worker 8 worker.0 in
    let t = ltb-true e.thread 16 thread.0 in
    let k = leb-true e.count 64 count.1 in
    same_entry _ _ _ e
    (omega (arith, from_le_bytes-to_le_bytes_2 e.worker (omega (arith, w))))
    (omega (arith, from_le_bytes-to_le_bytes_2 e.thread (omega (arith, t))))
    (omega (arith, from_le_bytes-to_le_bytes_4 e.count (omega (arith, k))))

entries_again : (es : List Entry) → AreEntries es
    → entries_from (flat_map entry_bytes es) 0 (length es) ≡ es
unfolding entries_from
entries_again [] fits = refl
entries_again (e ∷ es) fits =
    let rest = flat_map entry_bytes es in
    let bytes = entry_bytes e ++ rest in
    ap (λ (text : List ℕ). entries_from text 0 (suc (length es))) (flat_map-cons entry_bytes e es)
    ∙ (ap (λ (first : Entry). first ∷ entries_from bytes 8 (length es)) (entry_again e rest fits.0)
    ∙ (ap (λ (others : List Entry). e ∷ others) (sym (entries_behind bytes 8 0 (length es)))
    ∙ ap (λ (others : List Entry). e ∷ others) (entries_again es fits.1)))

entries_length : (es : List Entry) → length (flat_map entry_bytes es) ≡ 8 * length es
entries_length [] = refl
entries_length (e ∷ es) =
    ap length (flat_map-cons entry_bytes e es) ∙ omega (arith, entries_length es)

-- the bytes after a place are a part and those after it
part_and_rest : (bytes : List ℕ) (place n next : ℕ) → place + n ≡ next
    → take n (drop place bytes) ++ drop next bytes ≡ drop place bytes
part_and_rest bytes place n next same =
    ap (λ (rest : List ℕ). take n (drop place bytes) ++ rest)
    (ap (λ (k : ℕ). drop k bytes) (sym same) ∙ sym (drop-drop n place bytes))
    ∙ take-append-drop n (drop place bytes)

-- the bytes of an entry, and those after them
entry_and_rest : (bytes : List ℕ) (place : ℕ)
    → take 2 (drop place bytes) ++ (take 2 (drop (place + 2) bytes)
    ++ (take 4 (drop (place + 4) bytes) ++ drop (place + 8) bytes)) ≡ drop place bytes
entry_and_rest bytes place =
    rw (
      part_and_rest bytes (place + 4) 4 (place + 8) (omega arith),
      part_and_rest bytes (place + 2) 2 (place + 4) (omega arith),
    ) (part_and_rest bytes place 2 (place + 2) refl)

-- the bytes of the entries from a place on, up to the end
entries_bytes : (bytes : List ℕ) (n place : ℕ) → ((i : ℕ) → get_or bytes i 0 < 256)
    → length bytes ≡ place + 8 * n
    → flat_map entry_bytes (entries_from bytes place n) ≡ drop place bytes
unfolding entries_from
entries_bytes bytes zero place fits long = sym (drop_all place bytes (omega (arith, long)))
entries_bytes bytes (suc n) place fits long =
    flat_map-cons entry_bytes (entry_at bytes place) (entries_from bytes (place + 8) n)
    ∙ (joined _ _ _ _ _ _ _ _
    (two_bytes bytes place fits (omega (arith, long)))
    (two_bytes bytes (place + 2) fits (omega (arith, long)))
    (four_bytes bytes (place + 4) fits (omega (arith, long)))
    (entries_bytes bytes n (place + 8) fits (omega (arith, long)))
    ∙ entry_and_rest bytes place)
  where
    joined : (w t k rest w' t' k' rest' : List ℕ) → w ≡ w' → t ≡ t' → k ≡ k' → rest ≡ rest'
        → (w ++ (t ++ k)) ++ rest ≡ w' ++ (t' ++ (k' ++ rest'))
    joined w t k rest w' t' k' rest' p q r s = rw (p, q, r, s, append_assoc, append_assoc) refl

-- ---- the first entry that isn't one

faultless_entries : (index : ℕ) (es : List Entry) → AreEntries es → entry_fault index es ≡ None
unfolding entry_fault
faultless_entries index [] fits = refl
faultless_entries index (e ∷ es) fits = rw fits.0 (faultless_entries (index + 1) es fits.1)

are_entries : (index : ℕ) (es : List Entry) → entry_fault index es ≡ None → AreEntries es
unfolding entry_fault
are_entries index [] none = tt
are_entries index (e ∷ es) none =
    let here = kept (is_journal_entry e) (entry_fault (index + 1) es) none in
    (here.0, are_entries (index + 1) es here.1)
  where
    kept : (test : Bool) (others : Option JournalFault)
        → cond test others (Some (BadEntry index)) ≡ None → (test ≡ true) × (others ≡ None)
    kept true others none = (refl, none)
    kept false others none = absurd cc

-- ---- the form of a journal's bytes

-- what the tests before those of the entries ask
record HasForm (bytes : List ℕ) : Type 0 where
  long : 20 ≤ length bytes
  mark : bytes_eq (take 8 bytes) (codes "ERIMJNL1") ≡ true
  some : 1 ≤ budget_of bytes
  budget : budget_of bytes ≤ 4194304
  least : 64 ≤ frames_of bytes
  frames : frames_of bytes ≤ 4096
  count : count_of bytes ≤ budget_of bytes
  whole : length bytes ≡ 20 + 8 * count_of bytes

-- then the first fault is that of the entries
entry_faults : (bytes : List ℕ) → HasForm bytes
    → journal_fault bytes ≡ entry_fault 0 (entries_from bytes 20 (count_of bytes))
unfolding journal_fault
entry_faults bytes form =
    let end = 20 + 8 * count_of bytes in
    rw (
      le-ltb (length bytes) 20 form.long,
      form.mark,
      within 1 (budget_of bytes) 4194304 form.some form.budget,
      within 64 (frames_of bytes) 4096 form.least form.frames,
      le-ltb (budget_of bytes) (count_of bytes) form.count,
      le-ltb (length bytes) end (omega (arith, form.whole)),
      le-ltb end (length bytes) (omega (arith, form.whole)),
    ) refl

-- bytes without a fault have it
has_form : (bytes : List ℕ) → journal_fault bytes ≡ None
    → HasForm bytes × (entry_fault 0 (entries_from bytes 20 (count_of bytes)) ≡ None)
unfolding journal_fault
has_form bytes none =
    let end = 20 + 8 * count_of bytes in
    let mark = bytes_eq (take 8 bytes) (codes "ERIMJNL1") in
    let some = nat_le 1 (budget_of bytes) in
    let least = nat_le 64 (frames_of bytes) in
    let long = passed (nat_lt (length bytes) 20) _ _ none in
    let marked = passed (not mark) _ _ long.1 in
    let budget = passed (not (some && nat_le (budget_of bytes) 4194304)) _ _ marked.1 in
    let frames = passed (not (least && nat_le (frames_of bytes) 4096)) _ _ budget.1 in
    let count = passed (nat_lt (budget_of bytes) (count_of bytes)) _ _ frames.1 in
    let short = passed (nat_lt (length bytes) end) _ _ count.1 in
    let trailing = passed (nat_lt end (length bytes)) _ _ short.1 in
    let budgets = both some _ (not-false _ budget.0) in
    let framed = both least _ (not-false _ frames.0) in
    let low = ltb-false (length bytes) end short.0 in
    let high = ltb-false end (length bytes) trailing.0 in (
      record {
        long = ltb-false _ _ long.0;
        mark = not-false _ marked.0;
        some = leb-true _ _ budgets.0;
        budget = leb-true _ _ budgets.1;
        least = leb-true _ _ framed.0;
        frames = leb-true _ _ framed.1;
        count = ltb-false _ _ count.0;
        whole = omega (arith, low, high);
      },
      trailing.1,
    )

-- ---- a journal's bytes are read as it and have no fault

budget_again : (j : JournalValue) → IsJournal j → budget_of (journal_text j) ≡ j.budget
unfolding journal_text number_at
budget_again j is = omega (arith, from_le_bytes-to_le_bytes_4 j.budget (omega (arith, is.budget)))

frames_again : (j : JournalValue) → IsJournal j → frames_of (journal_text j) ≡ j.frames
unfolding journal_text number_at
frames_again j is = omega (arith, from_le_bytes-to_le_bytes_4 j.frames (omega (arith, is.frames)))

count_again : (j : JournalValue) → IsJournal j → count_of (journal_text j) ≡ length j.entries
unfolding journal_text number_at
count_again j is = omega (
  arith,
  from_le_bytes-to_le_bytes_4 (length j.entries) (omega (arith, is.count, is.budget)),
)

pub journal_length : (j : JournalValue) → length (journal_text j) ≡ 20 + 8 * length j.entries
unfolding journal_text
journal_length j = omega (arith, entries_length j.entries)

mark_again : (j : JournalValue)
    → bytes_eq (take 8 (journal_text j)) (codes "ERIMJNL1") ≡ true
unfolding journal_text
mark_again j = refl

rest_again : (j : JournalValue) → drop 20 (journal_text j) ≡ flat_map entry_bytes j.entries
unfolding journal_text
rest_again j = refl

list_again : (j : JournalValue) → IsJournal j
    → entries_from (journal_text j) 20 (count_of (journal_text j)) ≡ j.entries
list_again j is =
    ap (entries_from (journal_text j) 20) (count_again j is)
    ∙ (sym (entries_behind (journal_text j) 20 0 (length j.entries))
    ∙ (ap (λ (rest : List ℕ). entries_from rest 0 (length j.entries)) (rest_again j)
    ∙ entries_again j.entries is.entries))

same_journal : (budget frames : ℕ) (entries : List Entry) (j : JournalValue) → budget ≡ j.budget
    → frames ≡ j.frames → entries ≡ j.entries
    → let other : JournalValue = record { budget = budget; frames = frames; entries = entries } in
    other ≡ j
same_journal budget frames entries j b f es = rw (b, f, es) refl

-- the bytes of a journal are read as that journal
pub journal_read : (j : JournalValue) → IsJournal j → journal_of (journal_text j) ≡ j
unfolding journal_of
journal_read j is =
    same_journal _ _ _ j (budget_again j is) (frames_again j is) (list_again j is)

-- and have no fault
pub journal_faultless : (j : JournalValue) → IsJournal j → journal_fault (journal_text j) ≡ None
journal_faultless j is =
    let budget = budget_again j is in
    let frames = frames_again j is in
    let count = count_again j is in
    let whole = journal_length j in
    entry_faults (journal_text j) (record {
      long = omega (arith, whole);
      mark = mark_again j;
      some = omega (arith, budget, is.some);
      budget = omega (arith, budget, is.budget);
      least = omega (arith, frames, is.least);
      frames = omega (arith, frames, is.frames);
      count = omega (arith, budget, count, is.count);
      whole = omega (arith, whole, count);
    })
    ∙ (ap (entry_fault 0) (list_again j is) ∙ faultless_entries 0 j.entries is.entries)

-- no two journals share their bytes
pub one_journal : OneJournal
one_journal j k of_j of_k same = sym (journal_read j of_j)
    ∙ (ap journal_of same ∙ journal_read k of_k)

-- ---- bytes without a fault are those of the journal that is read from them

entries_count : (bytes : List ℕ) (n place : ℕ) → length (entries_from bytes place n) ≡ n
unfolding entries_from
entries_count bytes zero place = refl
entries_count bytes (suc n) place = ap suc (entries_count bytes n (place + 8))

-- the count says how many bytes there are
pub faultless_length : (bytes : List ℕ) → journal_fault bytes ≡ None
    → length bytes ≡ 20 + 8 * count_of bytes
faultless_length bytes none = (has_form bytes none).0.whole

-- what is read is a journal
pub faultless_journal : (bytes : List ℕ) → journal_fault bytes ≡ None
    → IsJournal (journal_of bytes)
unfolding journal_of
faultless_journal bytes none =
    let form = has_form bytes none in
    record {
      some = form.0.some;
      budget = form.0.budget;
      least = form.0.least;
      frames = form.0.frames;
      count = omega (arith, entries_count bytes (count_of bytes) 20, form.0.count);
      entries = are_entries 0 (entries_from bytes 20 (count_of bytes)) form.1;
    }

header_and_rest : (bytes : List ℕ)
    → take 8 bytes ++ (take 4 (drop 8 bytes) ++ (take 4 (drop 12 bytes) ++ (take 4 (drop 16 bytes)
    ++ drop 20 bytes))) ≡ bytes
header_and_rest bytes =
    rw (
      part_and_rest bytes 16 4 20 refl,
      part_and_rest bytes 12 4 16 refl,
      part_and_rest bytes 8 4 12 refl,
    ) (take-append-drop 8 bytes)

-- and they are its bytes
pub faultless_text : (bytes : List ℕ) → ((i : ℕ) → get_or bytes i 0 < 256)
    → journal_fault bytes ≡ None → bytes ≡ journal_text (journal_of bytes)
unfolding journal_of journal_text
faultless_text bytes fits none =
    let form = (has_form bytes none).0 in
    let long = form.long in
    let mark = (bytes_eq-Decides (take 8 bytes) (codes "ERIMJNL1")).0 form.mark in
    sym (header_and_rest bytes) ∙ joined _ _ _ _ _ _ _ _ _ _ mark
    (sym (four_bytes bytes 8 fits (omega (arith, long))))
    (sym (four_bytes bytes 12 fits (omega (arith, long))))
    (sym (ap (to_le_bytes w32) (entries_count bytes (count_of bytes) 20)
    ∙ four_bytes bytes 16 fits (omega (arith, long))))
    (sym (entries_bytes bytes (count_of bytes) 20 fits form.whole))
  where
    joined : (m b f k rest m' b' f' k' rest' : List ℕ) → m ≡ m' → b ≡ b' → f ≡ f' → k ≡ k'
        → rest ≡ rest'
        → m ++ (b ++ (f ++ (k ++ rest))) ≡ m' ++ (b' ++ (f' ++ (k' ++ rest')))
    joined m b f k rest m' b' f' k' rest' p q r s t = rw (p, q, r, s, t) refl
