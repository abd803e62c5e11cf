-- One function after another, and the file part that has it.
use Rattle.std.proofs.Common.{◌≡◌, ℕ, zero, suc, ◌+◌, ◌-◌, ◌*◌, ◌<◌, ◌≤◌, List, [], ◌∷◌, ◌++◌, Some}
use Rattle.std.proofs.Common.{None, Bool, true, false, ◌||◌, ◌&&◌, inl, inr, ltb, leb, refl, sym}
use Rattle.std.proofs.Common.{◌∙◌, ap, arith, append_assoc}
use Rattle.std.proofs.lemmas.Bool.{cases_Bool, le-leb, or_right}
use Rattle.std.proofs.lemmas.List.{append-nil}
use Rattle.erim_defs.specs.declared.fault.ImageFault.TheVariants.{BadFunction}
use Rattle.erim_defs.specs.declared.segment.Segment.{Segment}
use Rattle.erim_defs.specs.declared.trust.Span.{Span}
use Rattle.erim_defs.specs.Inspection.Image.{Header, function_at, function_fault, functions_from}
use Rattle.erim_defs.specs.Inspection.Image.{header_count, holds_function, is_behind, is_loadable}
use Rattle.erim_defs.specs.Inspection.Image.{loadable_segments, segments}
use Rattle.elf_image.specs.declared.functions.FunctionTable.{FunctionTable}
use Rattle.elf_image.specs.Functions.{function_of, functions_left, functions_seen, is_within}
use Rattle.elf_image.specs.Functions.{last_seen, table_functions}
use Rattle.elf_image.specs.Table.{header_of, headers_left}
use Rattle.elf_image.proofs.TableLemmas.{headers_left-all, headers_left-next, headers_left-none}

-- ---- what is left behind a number

from_more : (bytes : List ℕ) (place n m : ℕ) → n ≡ suc m
    → functions_from bytes place n ≡ function_at bytes place ∷ functions_from bytes (place + 16) m
unfolding functions_from
from_more bytes place n m e = rw e refl

left-all : (bytes : List ℕ) (table : FunctionTable)
    → functions_left bytes table 0 ≡ table_functions bytes table
unfolding functions_left
left-all bytes table =
    let place : table.place + 16 * 0 ≡ table.place = omega arith in
    let count : table.count - 0 ≡ table.count = omega arith in
    rw (place, count) refl

left-next : (bytes : List ℕ) (table : FunctionTable) (index : ℕ) → index < table.count
    → functions_left bytes table index
    ≡ function_of bytes table index ∷ functions_left bytes table (index + 1)
unfolding functions_left function_of
left-next bytes table index h =
    let count : table.count - index ≡ suc (table.count - (index + 1)) = omega arith in
    let place : table.place + 16 * (index + 1) ≡ table.place + 16 * index + 16 = omega arith in
    rw place (from_more bytes (table.place + 16 * index) _ _ count)

left-none : (bytes : List ℕ) (table : FunctionTable) (index : ℕ) → table.count ≤ index
    → functions_left bytes table index ≡ []
unfolding functions_left functions_from
left-none bytes table index h =
    let count : table.count - index ≡ 0 = omega arith in
    rw count refl

-- ---- the row of functions

-- after all before is after the last of them
behind_last : (seen : List Span) (f : Span)
    → is_behind seen f ≡ leb ((last_seen seen).start + (last_seen seen).length) f.start
behind_last [] f = sym (le-leb 0 f.start (omega arith))
behind_last (x ∷ xs) f = refl

pub last_none : (bytes : List ℕ) (table : FunctionTable)
    → last_seen (functions_seen bytes table 0) ≡ record { start = 0; length = 0 }
unfolding functions_seen
last_none bytes table = refl

pub last_next : (bytes : List ℕ) (table : FunctionTable) (index : ℕ)
    → last_seen (functions_seen bytes table (index + 1)) ≡ function_of bytes table index
unfolding functions_seen
last_next bytes table index =
    let more : index + 1 ≡ suc index = omega arith in
    rw more refl

pub fault_begins : (ss : List Segment) (bytes : List ℕ) (table : FunctionTable)
    → function_fault 0 ss (functions_seen bytes table 0) (functions_left bytes table 0)
    ≡ function_fault 0 ss [] (table_functions bytes table)
unfolding functions_seen
fault_begins ss bytes table = ap (function_fault 0 ss []) (left-all bytes table)

-- the tests in another order
failing_within : (a b c : Bool) → b ≡ false → (a && (b && c)) ≡ false
failing_within true b c h = rw h refl
failing_within false b c h = refl

failing_behind : (a b c : Bool) → (a && c) ≡ false → (a && (b && c)) ≡ false
failing_behind true true c h = h
failing_behind true false c h = refl
failing_behind false b c h = refl

passing : (a b c : Bool) → b ≡ true → (a && c) ≡ true → (a && (b && c)) ≡ true
passing true b c h test = rw h test
passing false b c h test = test

pub fault_stops_within : (ss : List Segment) (bytes : List ℕ) (table : FunctionTable) (index : ℕ)
    → index < table.count → is_within (function_of bytes table index) ss ≡ false
    → function_fault index ss (functions_seen bytes table index) (functions_left bytes table index)
    ≡ Some (BadFunction index)
unfolding function_fault is_within
fault_stops_within ss bytes table index lt test =
    let f = function_of bytes table index in
    rw (left-next bytes table index lt)
    (rw (failing_within (ltb 0 f.length) _ (is_behind (functions_seen bytes table index) f) test)
    refl)

pub fault_stops_behind : (ss : List Segment) (bytes : List ℕ) (table : FunctionTable) (index : ℕ)
    (before : Span) → index < table.count → before ≡ last_seen (functions_seen bytes table index)
    → (ltb 0 (function_of bytes table index).length
    && leb (before.start + before.length) (function_of bytes table index).start) ≡ false
    → function_fault index ss (functions_seen bytes table index) (functions_left bytes table index)
    ≡ Some (BadFunction index)
unfolding function_fault is_within
fault_stops_behind ss bytes table index before lt last test =
    let f = function_of bytes table index in
    let behind = behind_last (functions_seen bytes table index) f in
    rw (left-next bytes table index lt)
    (rw (failing_behind (ltb 0 f.length) (is_within f ss)
    (is_behind (functions_seen bytes table index) f) (rw (behind, ← last) test)) refl)

pub fault_goes_on : (ss : List Segment) (bytes : List ℕ) (table : FunctionTable) (index : ℕ)
    (before : Span) → index < table.count → before ≡ last_seen (functions_seen bytes table index)
    → is_within (function_of bytes table index) ss ≡ true
    → (ltb 0 (function_of bytes table index).length
    && leb (before.start + before.length) (function_of bytes table index).start) ≡ true
    → function_fault index ss (functions_seen bytes table index) (functions_left bytes table index)
    ≡ function_fault (index + 1) ss (functions_seen bytes table (index + 1))
    (functions_left bytes table (index + 1))
unfolding function_fault is_within functions_seen
fault_goes_on ss bytes table index before lt last within test =
    let f = function_of bytes table index in
    let behind = behind_last (functions_seen bytes table index) f in
    let more : index + 1 ≡ suc index = omega arith in
    rw (left-next bytes table index lt)
    (rw (passing (ltb 0 f.length) (is_within f ss)
    (is_behind (functions_seen bytes table index) f) within (rw (behind, ← last) test))
    (rw more refl))

pub fault_ends : (ss : List Segment) (bytes : List ℕ) (table : FunctionTable) (index : ℕ)
    → table.count ≤ index
    → function_fault index ss (functions_seen bytes table index) (functions_left bytes table index)
    ≡ None
unfolding function_fault
fault_ends ss bytes table index past = rw (left-none bytes table index past) refl

-- ---- the header that has a function

abbrev pub is_holding : Span → Header → Bool
is_holding f h = is_loadable h && holds_function f h.segment

within_header : (f : Span) (h : Header) (hs : List Header)
    → is_within f (loadable_segments (h ∷ hs))
    ≡ (is_holding f h || is_within f (loadable_segments hs))
unfolding is_within loadable_segments
within_header f h hs =
    elim (cases_Bool (is_loadable h)) [
      | inl loads ↦ rw loads refl
      | inr not_loads ↦ rw not_loads refl
    ]

within_next : (f : Span) (bytes : List ℕ) (index : ℕ) → index < header_count bytes
    → is_within f (loadable_segments (headers_left bytes index))
    ≡ (is_holding f (header_of bytes index)
    || is_within f (loadable_segments (headers_left bytes (index + 1))))
within_next f bytes index lt = rw (headers_left-next bytes index lt) (within_header f _ _)

pub within_begins : (f : Span) (bytes : List ℕ)
    → is_within f (loadable_segments (headers_left bytes 0)) ≡ is_within f (segments bytes)
within_begins f bytes = ap (λ hs. is_within f (loadable_segments hs)) (headers_left-all bytes)

pub within_stops : (f : Span) (bytes : List ℕ) (index : ℕ) → index < header_count bytes
    → is_holding f (header_of bytes index) ≡ true
    → is_within f (loadable_segments (headers_left bytes index)) ≡ true
within_stops f bytes index lt test =
    within_next f bytes index lt
    ∙ ap (λ b. b || is_within f (loadable_segments (headers_left bytes (index + 1)))) test

pub within_goes_on : (f : Span) (bytes : List ℕ) (index : ℕ) → index < header_count bytes
    → is_holding f (header_of bytes index) ≡ false
    → is_within f (loadable_segments (headers_left bytes index))
    ≡ is_within f (loadable_segments (headers_left bytes (index + 1)))
within_goes_on f bytes index lt test =
    within_next f bytes index lt
    ∙ ap (λ b. b || is_within f (loadable_segments (headers_left bytes (index + 1)))) test

pub within_ends : (f : Span) (bytes : List ℕ) (index : ℕ) → header_count bytes ≤ index
    → is_within f (loadable_segments (headers_left bytes index)) ≡ false
unfolding is_within loadable_segments
within_ends f bytes index past = rw (headers_left-none bytes index past) refl

-- one of the headers from a number on
within_from : (f : Span) (bytes : List ℕ) (index gap start : ℕ) → start + gap ≡ index
    → index < header_count bytes → is_holding f (header_of bytes index) ≡ true
    → is_within f (loadable_segments (headers_left bytes start)) ≡ true
within_from f bytes index zero start e lt test =
    let same : start ≡ index = omega arith in
    rw same (within_stops f bytes index lt test)
within_from f bytes index (suc gap) start e lt test =
    let inner : start < header_count bytes = omega arith in
    within_next f bytes start inner
    ∙ or_right (is_holding f (header_of bytes start)) _
    (within_from f bytes index gap (start + 1) (omega arith) lt test)

-- whichever it is
pub within_near : (f : Span) (bytes : List ℕ) (index : ℕ) → index < header_count bytes
    → is_holding f (header_of bytes index) ≡ true → is_within f (segments bytes) ≡ true
within_near f bytes index lt test = sym (within_begins f bytes)
    ∙ within_from f bytes index index 0 (omega arith) lt test

-- ---- the list of functions

pub functions_begin : (bytes : List ℕ) (table : FunctionTable)
    → [] ++ functions_left bytes table 0 ≡ table_functions bytes table
functions_begin bytes table = left-all bytes table

pub functions_take : (bytes : List ℕ) (table : FunctionTable) (index : ℕ) (list : List Span)
    → index < table.count
    → (list ++ function_of bytes table index ∷ []) ++ functions_left bytes table (index + 1)
    ≡ list ++ functions_left bytes table index
functions_take bytes table index list lt =
    rw (left-next bytes table index lt, append_assoc) refl

pub functions_end : (bytes : List ℕ) (table : FunctionTable) (index : ℕ) (list : List Span)
    → table.count ≤ index → list ++ functions_left bytes table index ≡ list
functions_end bytes table index list past =
    rw (left-none bytes table index past) (append-nil list)

-- ---- by function, for the goals of its loop

pub ruleset functions_steps = (functions_begin, functions_take, functions_end)

pub ruleset fault_steps = (
  fault_begins,
  fault_stops_within,
  fault_stops_behind,
  fault_goes_on,
  fault_ends,
  last_none,
  last_next,
)

pub ruleset within_steps = (within_begins, within_stops, within_goes_on, within_ends, within_near)
