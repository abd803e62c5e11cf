-- The keys that the records of a table have and mark, one record after another.
use Rattle.std.proofs.Common.{◌≡◌, ℕ, zero, suc, ◌+◌, ◌≤◌, Bool, true, false, ◌||◌, refl, sym}
use Rattle.std.proofs.Common.{ap, ◌∙◌, arith, List}
use Rattle.std.specs.List.{list_any}
use Rattle.erim_defs.specs.Inspection.Image.{Record, marks}
use Rattle.elf_image.specs.declared.records.RecordTable.{RecordTable}
use Rattle.elf_image.specs.Domains.{has_key}
use Rattle.elf_image.specs.Records.{record_of, records_left, seen_before, table_records}
use Rattle.elf_image.proofs.RecordLemmas.{records_left-all, records_left-next, records_left-none}

any_none : (test : Record → Bool) (bytes : List ℕ) (table : RecordTable)
    → list_any test (seen_before bytes table 0) ≡ false
unfolding seen_before
any_none test bytes table = refl

any_more : (test : Record → Bool) (bytes : List ℕ) (table : RecordTable) (n : ℕ)
    → list_any test (seen_before bytes table (n + 1))
    ≡ (test (record_of bytes table n) || list_any test (seen_before bytes table n))
unfolding seen_before
any_more test bytes table n = let more : n + 1 ≡ suc n = omega arith in rw more refl

-- what was seen so far and what is left are all
any_split : (test : Record → Bool) (bytes : List ℕ) (table : RecordTable) (n : ℕ)
    → n ≤ table.count
    → (list_any test (seen_before bytes table n) || list_any test (records_left bytes table n))
    ≡ list_any test (table_records bytes table)
unfolding seen_before
any_split test bytes table zero low = ap (list_any test) (records_left-all bytes table)
any_split test bytes table (suc n) low =
    let more : n + 1 ≡ suc n = omega arith in
    let next = ap (list_any test) (records_left-next bytes table n (omega arith)) in
    swap (test (record_of bytes table n)) (list_any test (seen_before bytes table n))
    (list_any test (records_left bytes table (suc n)))
    ∙ ap (λ b. list_any test (seen_before bytes table n) || b)
    (ap (λ k. test (record_of bytes table n) || list_any test (records_left bytes table k))
    (sym more) ∙ sym next)
    ∙ any_split test bytes table n (omega arith)
  where
    swap : (a b c : Bool) → ((a || b) || c) ≡ (b || (a || c))
    swap true true c = refl
    swap true false c = refl
    swap false b c = refl

any_all : (test : Record → Bool) (bytes : List ℕ) (table : RecordTable)
    → list_any test (seen_before bytes table table.count)
    ≡ list_any test (table_records bytes table)
any_all test bytes table =
    sym (or_false (list_any test (seen_before bytes table table.count)))
    ∙ ap (λ rs. list_any test (seen_before bytes table table.count) || list_any test rs)
    (sym (records_left-none bytes table table.count (omega arith)))
    ∙ any_split test bytes table table.count (omega arith)
  where
    or_false : (b : Bool) → (b || false) ≡ b
    or_false true = refl
    or_false false = refl

-- ---- by function, for the goals of its loop

pub marked_none : (key : ℕ) (bytes : List ℕ) (table : RecordTable)
    → list_any (marks key) (seen_before bytes table 0) ≡ false
marked_none key = any_none (marks key)

pub marked_more : (key : ℕ) (bytes : List ℕ) (table : RecordTable) (n : ℕ)
    → list_any (marks key) (seen_before bytes table (n + 1))
    ≡ (marks key (record_of bytes table n) || list_any (marks key) (seen_before bytes table n))
marked_more key = any_more (marks key)

pub marked_all : (key : ℕ) (bytes : List ℕ) (table : RecordTable)
    → list_any (marks key) (seen_before bytes table table.count)
    ≡ list_any (marks key) (table_records bytes table)
marked_all key = any_all (marks key)

pub named_none : (key : ℕ) (bytes : List ℕ) (table : RecordTable)
    → list_any (has_key key) (seen_before bytes table 0) ≡ false
named_none key = any_none (has_key key)

pub named_more : (key : ℕ) (bytes : List ℕ) (table : RecordTable) (n : ℕ)
    → list_any (has_key key) (seen_before bytes table (n + 1))
    ≡ (has_key key (record_of bytes table n) || list_any (has_key key) (seen_before bytes table n))
named_more key = any_more (has_key key)

pub named_all : (key : ℕ) (bytes : List ℕ) (table : RecordTable) (n : ℕ) → n ≡ table.count
    → list_any (has_key key) (seen_before bytes table n)
    ≡ list_any (has_key key) (table_records bytes table)
named_all key bytes table n e =
    ap (λ k. list_any (has_key key) (seen_before bytes table k)) e ∙ any_all
    (has_key key) bytes table

pub ruleset marked_steps = (marked_none, marked_more)

pub ruleset named_steps = (named_none, named_more, named_all)
