-- What records without faults say: whole pages, on segments that may hold them, apart from one
-- another, entries in text.
use Rattle.std.proofs.Common.{◌≡◌, ℕ, zero, suc, ◌+◌, ◌*◌, ◌/◌, ◌%◌, ◌^◌, ◌<◌, ◌≤◌, ◌⊎◌, ◌&&◌, ◌||◌}
use Rattle.std.proofs.Common.{not, Bool, true, false, cond, eqb, ltb, leb, List, [], ◌∷◌, ◌++◌}
use Rattle.std.proofs.Common.{◌≢◌, ◌∙◌, sym, subst, ne_eqb, eq-eqb, lit≤}
use Rattle.std.proofs.Common.{None, refl, ap, arith, inl, inr, eqb-true, leb-true, ltb-true, lt-ltb}
use Rattle.std.specs.List.{All, list_any}
use Rattle.std.proofs.lemmas.Bool.{cases_Bool, cases_lt, and_parts, and_from, or_parts, or_cases}
use Rattle.std.proofs.lemmas.Bool.{or_right, both_ways, false_from_ne_true, le-leb}
use Rattle.std.proofs.lemmas.List.Elements.{All-cons, All-nil}
use Rattle.erim_defs.specs.declared.segment.Segment.{Segment}
use Rattle.erim_defs.specs.declared.trust.Span.{Span}
use Rattle.erim_defs.specs.Inspection.Image.{data_fault, holds_data, holds_heap, is_placed_data}
use Rattle.erim_defs.specs.Inspection.Image.{is_placed_entry, is_placed_text, Record, all_pages}
use Rattle.erim_defs.specs.Inspection.Image.{entry_fault, holds_text, has_no_range}
use Rattle.erim_defs.specs.Inspection.Image.{is_new_mark, keys_of, is_data}
use Rattle.erim_defs.specs.Inspection.Trust.{key_beside}
use Rattle.erim_defs.specs.Machine.Start.{key_in}
use Rattle.erim_defs.specs.Inspection.Image.{is_entry_record, is_page_of, is_range, is_record}
use Rattle.erim_defs.specs.Inspection.Image.{is_text, is_whole_range, lies_in, overlaps}
use Rattle.erim_defs.specs.Inspection.Image.{record_fault, span_of, spans_of, starts_of, text_fault}
use Rattle.erim_defs.specs.Inspection.Trust.{spans}
use Rattle.erim_defs.proofs.FaultLemmas.{cond_fault, not_true}

-- ---- records of trusted text have whole pages

-- a test of each of a given number of pages holds of one of them
all_pages_at : (test : ℕ → Bool) (first n q : ℕ) → all_pages test first n ≡ true → first ≤ q
    → q < first + n → test q ≡ true
unfolding all_pages
all_pages_at test first zero q h low high = absurd (omega arith)
all_pages_at test first (suc n) q h low high =
    let p : (test first ≡ true) × (all_pages test (first + 1) n ≡ true) = and_parts _ _ h in
    elim (cases_lt first q) [
      | inl more ↦ all_pages_at test (first + 1) n q p.1 (omega arith) (omega arith)
      | inr less ↦ (let e : q ≡ first = omega arith in rw e p.0)
    ]

-- a record that is a range is one of whole pages, apart from the ranges before it
whole_of : (v : Bool) → (seen : List Record) (r : Record) → is_record v seen r ≡ true
    → has_no_range r ≡ false → is_whole_range seen r ≡ true
whole_of v seen r h other =
    let form : cond (has_no_range r) (cond (is_entry_record r) (eqb r.length 0) (v
    && is_new_mark seen
    r)) (is_range r && is_whole_range seen r)
    ≡ true = (and_parts _ _ h).1 in
    let placed : (is_range r && is_whole_range seen r) ≡ true = rw other at form in
    (and_parts (is_range r) (is_whole_range seen r) placed).1

text_other : (r : Record) → is_text r ≡ true → has_no_range r ≡ false
text_other r text = let one : r.kind ≡ 1 = eqb-true _ _ text in rw one refl

whole_pages : (seen : List Record) (r : Record) → is_whole_range seen r ≡ true
    → (r.start % 4096 ≡ 0) × (r.length % 4096 ≡ 0)
whole_pages seen r h = let whole = and_parts _ _ h in
    (eqb-true _ _ whole.0, eqb-true _ _ (and_parts _ _ whole.1).0)

whole_apart : (seen : List Record) (r : Record) → is_whole_range seen r ≡ true
    → list_any (overlaps r) seen ≡ false
whole_apart seen r h =
    let a = and_parts (eqb (r.start % 4096) 0) _ h in
    let b = and_parts (eqb (r.length % 4096) 0) _ a.1 in
    let c = and_parts (ltb 0 r.length) _ b.1 in
    let d = and_parts (leb (r.start + r.length) (2 ^ 47)) (not (list_any (overlaps r) seen)) c.1 in
    not_true (list_any (overlaps r) seen) d.1

-- whether an address lies in a range of whole pages is a matter of its page
spans_page : (a : ℕ) (r : Record) → r.start % 4096 ≡ 0 → r.length % 4096 ≡ 0
    → spans (4096 * (a / 4096)) (span_of r) ≡ spans a (span_of r)
spans_page a r s l = elim (cases_Bool (spans a (span_of r))) [
  | inl on ↦
      (let p = and_parts _ _ on in
      let low : r.start ≤ a = leb-true _ _ p.0 in
      let high : a < r.start + r.length = ltb-true _ _ p.1 in
      let low_page : r.start ≤ 4096 * (a / 4096) = omega (arith, s, low) in
      let high_page : 4096 * (a / 4096) < r.start + r.length = omega (arith, high) in
      rw on (and_from _ _ (le-leb _ _ low_page) (lt-ltb _ _ high_page)))
  | inr off ↦ rw off (false_from_ne_true _ (λ there.
      let p = and_parts _ _ there in
      let low : r.start ≤ 4096 * (a / 4096) = leb-true _ _ p.0 in
      let high : 4096 * (a / 4096) < r.start + r.length = ltb-true _ _ p.1 in
      let low_byte : r.start ≤ a = omega (arith, low) in
      let high_byte : a < r.start + r.length = omega (arith, s, l, high) in
      both_ways _ off (and_from _ _ (le-leb _ _ low_byte) (lt-ltb _ _ high_byte))))
]

-- is an address in a record of which a test holds
abbrev pub covers : (Record → Bool) → ℕ → List Record → Bool
covers test a rs = list_any (spans a) (spans_of test rs)

pub text_page_in : (v : Bool) → (index : ℕ) (seen rs : List Record) (a : ℕ)
    → record_fault v index seen rs ≡ None
    → covers is_text (4096 * (a / 4096)) rs ≡ covers is_text a rs
unfolding record_fault
text_page_in v index seen [] a h = refl
text_page_in v index seen (r ∷ rs) a h =
    let k = cond_fault (is_record v seen r) _ (record_fault v (index + 1) (r ∷ seen) rs) h in
    elim (cases_Bool (is_text r)) [
      | inr off ↦ rw off (text_page_in v (index + 1) (r ∷ seen) rs a k.1)
      | inl on ↦
          (let whole = whole_pages seen r (whole_of v seen r k.0 (text_other r on)) in
          rw (on, spans_page a r whole.0 whole.1) (ap (λ b. spans a (span_of r)
          || b) (text_page_in v (index + 1) (r ∷ seen) rs a k.1)))
    ]

-- a page of a record of whole pages is one on which the record may lie
page_of_record : (test : Segment
    → Bool) (ss : List Segment) (seen : List Record) (r : Record) (q :
    ℕ) → is_whole_range seen r ≡ true → lies_in test ss r ≡ true → spans (4096 * q) (span_of
    r) ≡ true → is_page_of test ss q ≡ true
page_of_record test ss seen r q h lain here =
    let whole = whole_pages seen r h in
    let p = and_parts _ _ here in
    let low : r.start ≤ 4096 * q = leb-true _ _ p.0 in
    let high : 4096 * q < r.start + r.length = ltb-true _ _ p.1 in
    let a = whole.0 in
    let b = whole.1 in
    all_pages_at (is_page_of test ss) (r.start / 4096) (r.length / 4096) q lain (omega arith)
    (omega arith)

-- a page of a record of trusted text is one on which text may lie
text_of_record : (v : Bool) → (ss : List Segment) (seen : List Record) (r : Record) (q : ℕ)
    → is_record v seen r ≡ true → is_text r ≡ true → is_placed_text ss r ≡ true
    → spans (4096 * q) (span_of r) ≡ true → is_page_of holds_text ss q ≡ true
text_of_record v ss seen r q h text lies here =
    page_of_record holds_text ss seen r q (whole_of v seen r h (text_other r text))
    (rw text at lies)
    here

pub text_of_records : (v : Bool) → (index place : ℕ) (ss : List Segment) (seen rs : List Record)
    (q : ℕ)
    → record_fault v index seen rs ≡ None → text_fault place ss seen rs ≡ None
    → covers is_text (4096 * q) rs ≡ true → is_page_of holds_text ss q ≡ true
unfolding record_fault text_fault
text_of_records v index place ss seen [] q h lies there = absurd cc
text_of_records v index place ss seen (r ∷ rs) q h lies there =
    let k = cond_fault (is_record v seen r) _ (record_fault v (index + 1) (r ∷ seen) rs) h in
    let l = cond_fault (is_placed_text ss r) _ (text_fault (place + 1) ss (r ∷ seen) rs) lies in
    elim (cases_Bool (is_text r)) [
      | inr off ↦ text_of_records v (index + 1) (place + 1) ss (r ∷ seen) rs q k.1 l.1
          (rw off at there)
      | inl on ↦ elim (or_cases (spans (4096 * q) (span_of r)) (covers is_text (4096 * q) rs)
          (rw on at there)) [
            | inl here ↦ text_of_record v ss seen r q k.0 on l.0 here
            | inr later ↦ text_of_records v (index + 1) (place + 1) ss (r ∷ seen) rs q k.1 l.1 later
          ]
    ]

-- ---- ranges of records are apart

-- what is covered by a record so far is no address of one after it
seen_apart : (v : Bool) → (P Q : Record → Bool) (index : ℕ) (seen rs : List Record) (a : ℕ)
    → ((r : Record) → P r ≡ true → is_range r ≡ true)
    → ((r : Record) → Q r ≡ true → has_no_range r ≡ false)
    → record_fault v index seen rs ≡ None → covers P a seen ≡ true → covers Q a rs ≡ true → ⊥
unfolding record_fault
seen_apart v P Q index seen [] a p q h there here = absurd cc
seen_apart v P Q index seen (r ∷ rs) a p q h there here =
    let k = cond_fault (is_record v seen r) _ (record_fault v (index + 1) (r ∷ seen) rs) h in
    elim (cases_Bool (Q r)) [
      | inr off ↦ seen_apart v P Q (index + 1) (r ∷ seen) rs a p q k.1 (more r seen there)
          (rw off at here)
      | inl on ↦ elim (or_cases (spans a (span_of r)) (covers Q a rs) (rw on at here)) [
        | inr later ↦ seen_apart v P Q (index + 1) (r ∷ seen) rs a p q k.1 (more r seen there) later
        | inl now ↦ both_ways (list_any (overlaps r) seen)
            (whole_apart seen r (whole_of v seen r k.0 (q r on))) (overlapped r seen now there)
      ]
    ]
  where
    more : (r : Record) (seen : List Record) → covers P a seen ≡ true → covers P a (r ∷ seen) ≡ true
    more r seen there = elim (cases_Bool (P r)) [
      | inl on ↦ rw on (or_right (spans a (span_of r)) (covers P a seen) there)
      | inr off ↦ rw off there
    ]

    overlapped : (r : Record) (ts : List Record) → spans a (span_of r) ≡ true → covers P a ts ≡ true
        → list_any (overlaps r) ts ≡ true
    overlapped r [] now there = absurd cc
    overlapped r (t ∷ ts) now there = elim (cases_Bool (P t)) [
      | inr off ↦ or_right (overlaps r t) (list_any (overlaps r) ts)
          (overlapped r ts now (rw off at there))
      | inl on ↦ elim (or_cases (spans a (span_of t)) (covers P a ts) (rw on at there)) [
        | inr later ↦ or_right (overlaps r t) (list_any (overlaps r) ts) (overlapped r ts now later)
        | inl both ↦
            (let x = and_parts _ _ now in
            let y = and_parts _ _ both in
            let r_low : r.start ≤ a = leb-true _ _ x.0 in
            let r_high : a < r.start + r.length = ltb-true _ _ x.1 in
            let t_low : t.start ≤ a = leb-true _ _ y.0 in
            let t_high : a < t.start + t.length = ltb-true _ _ y.1 in
            let before : r.start < t.start + t.length = omega (arith, r_low, t_high) in
            let after : t.start < r.start + r.length = omega (arith, t_low, r_high) in
            let over : overlaps r t ≡ true =
            and_from _ _ (p t on) (and_from _ _ (lt-ltb _ _ before) (lt-ltb _ _ after)) in
            rw over refl)
      ]
    ]

-- nor are two records of one list
records_apart : (v : Bool) → (P Q : Record → Bool) (index : ℕ) (seen rs : List Record) (a : ℕ)
    → ((r : Record) → P r ≡ true → is_range r ≡ true)
    → ((r : Record) → Q r ≡ true → is_range r ≡ true)
    → ((r : Record) → P r ≡ true → has_no_range r ≡ false)
    → ((r : Record) → Q r ≡ true → has_no_range r ≡ false)
    → ((r : Record) → P r ≡ true → Q r ≡ false)
    → record_fault v index seen rs ≡ None → covers P a rs ≡ true → covers Q a rs ≡ true → ⊥
unfolding record_fault
records_apart v P Q index seen [] a p q i j other h there here = absurd cc
records_apart v P Q index seen (r ∷ rs) a p q i j other h there here =
    let k = cond_fault (is_record v seen r) _ (record_fault v (index + 1) (r ∷ seen) rs) h in
    elim (cases_Bool (P r)) [
      | inl one ↦
          (let behind : covers Q a rs ≡ true = rw (other r one) at here in
          elim (or_cases (spans a (span_of r)) (covers P a rs) (rw one at there)) [
            | inl now ↦ seen_apart v P Q (index + 1) (r ∷ seen) rs a p j k.1 (rw (one, now) refl)
                behind
            | inr later ↦ records_apart v P Q (index + 1) (r ∷ seen) rs a p q i j other k.1 later
                behind
          ])
      | inr none ↦
          (let rest : covers P a rs ≡ true = rw none at there in
          elim (cases_Bool (Q r)) [
            | inr off ↦ records_apart v P Q (index + 1) (r ∷ seen) rs a p q i j other k.1 rest
                (rw off at here)
            | inl on ↦ elim (or_cases (spans a (span_of r)) (covers Q a rs) (rw on at here)) [
              | inl now ↦ seen_apart v Q P (index + 1) (r ∷ seen) rs a q i k.1 (rw (on, now) refl)
                  rest
              | inr later ↦ records_apart v P Q (index + 1) (r ∷ seen) rs a p q i j other k.1 rest
                  later
            ]
          ])
    ]

-- trusted text isn't trusted data or a trusted heap
pub text_apart : (v : Bool) → (n : ℕ) (rs : List Record) (a : ℕ) → (n ≡ 2) ⊎ (n ≡ 4)
    → record_fault v 0 [] rs ≡ None → covers is_text a rs ≡ true
    → covers (λ r. eqb r.kind n) a rs ≡ false
text_apart v n rs a kind h there = false_from_ne_true _ (λ here.
    records_apart v is_text (λ r. eqb r.kind n) 0 [] rs a
    (λ r e. let one : r.kind ≡ 1 = eqb-true _ _ e in rw one refl)
    (λ r e. let k : r.kind ≡ n = eqb-true _ _ e in
    elim kind [ inl two ↦ rw (k, two) refl | inr four ↦ rw (k, four) refl ])
    text_other
    (λ r e. let k : r.kind ≡ n = eqb-true _ _ e in
    elim kind [ inl two ↦ rw (k, two) refl | inr four ↦ rw (k, four) refl ])
    (λ r e. let one : r.kind ≡ 1 = eqb-true _ _ e in
    elim kind [ inl two ↦ rw (one, two) refl | inr four ↦ rw (one, four) refl ])
    h there here)

pub any_append : {X : Type 0} (test : X → Bool) (xs ys : List X) → list_any test xs ≡ false
    → list_any test ys ≡ false → list_any test (xs ++ ys) ≡ false
any_append test [] ys h k = k
any_append test (x ∷ xs) ys h k = let p = or_parts (test x) (list_any test xs) h in
    rw p.0 (any_append test xs ys p.1 k)

-- ---- trusted data and trusted heaps lie in segments

-- what a record of a kind asks of the segments it lies in
abbrev pub placed_by : ℕ → (Segment → Bool) → Type 0
placed_by n test = (ss : List Segment) (r : Record) → r.kind ≡ n → is_placed_data ss r ≡ true
    → lies_in test ss r ≡ true

pub data_placed : placed_by 2 holds_data
data_placed ss r e h = rw e at h

pub heap_placed : placed_by 4 holds_heap
heap_placed ss r e h = rw e at h

pub data_of_records : (v : Bool) → (n : ℕ) (test : Segment
    → Bool) (index place : ℕ) (ss : List Segment) (seen rs : List Record) (q :
    ℕ) → placed_by n test → (n ≡ 2) ⊎ (n ≡ 4)
    → record_fault v index seen rs ≡ None → data_fault place ss seen rs ≡ None
    → covers (λ r. eqb r.kind n) (4096 * q) rs ≡ true → is_page_of test ss q ≡ true
unfolding record_fault data_fault
data_of_records v n test index place ss seen [] q placed kind h lies there = absurd cc
data_of_records v n test index place ss seen (r ∷ rs) q placed kind h lies there =
    let k = cond_fault (is_record v seen r) _ (record_fault v (index + 1) (r ∷ seen) rs) h in
    let l = cond_fault (is_placed_data ss r) _ (data_fault (place + 1) ss (r ∷ seen) rs) lies in
    elim (cases_Bool (eqb r.kind n)) [
      | inr off ↦ data_of_records v n test (index + 1) (place + 1) ss (r
          ∷ seen) rs q placed kind k.1
          l.1 (rw off at there)
      | inl on ↦ elim (or_cases (spans (4096 * q) (span_of r))
          (covers (λ r. eqb r.kind n) (4096 * q) rs) (rw on at there)) [
            | inr later ↦ data_of_records v n test (index + 1) (place + 1) ss (r ∷ seen) rs q placed
                kind
                k.1 l.1 later
            | inl here ↦
                (let e : r.kind ≡ n = eqb-true _ _ on in
                let other : has_no_range r ≡ false =
                elim kind [ inl two ↦ rw (e, two) refl | inr four ↦ rw (e, four) refl ] in
                page_of_record test ss seen r q (whole_of v seen r k.0 other) (placed ss r e l.0)
                here)
          ]
    ]

pub any_of_append : {X : Type 0} (test : X → Bool) (xs ys : List X)
    → list_any test (xs ++ ys) ≡ true → (list_any test xs ≡ true) ⊎ (list_any test ys ≡ true)
any_of_append test [] ys h = inr h
any_of_append test (x ∷ xs) ys h = elim (or_cases (test x) (list_any test (xs ++ ys)) h) [
  | inl here ↦ inl (rw here refl)
  | inr later ↦ elim (any_of_append test xs ys later) [
    | inl a ↦ inl (or_right (test x) (list_any test xs) a)
    | inr b ↦ inr b
  ]
]

-- ---- entries lie in the text with their key

-- an address is in the text of a record with a key
abbrev pub holds_at : ℕ → ℕ → Record → Bool
holds_at key a r = is_text r && (eqb r.key key && spans a (span_of r))

-- the key of the first entry at an address
abbrev pub key_at : ℕ → List Record → ℕ
key_at a rs = key_beside (λ entry. eqb entry a) (starts_of rs) (keys_of is_entry_record rs)

pub no_key_at : (rs : List Record) (a : ℕ) → list_any (λ entry. eqb entry a) (starts_of rs) ≡ false
    → key_at a rs ≡ 0
no_key_at [] a h = refl
no_key_at (r ∷ rs) a h = elim (cases_Bool (is_entry_record r)) [
  | inr off ↦ rw off (no_key_at rs a (rw off at h))
  | inl on ↦ (let p = or_parts (eqb r.start a) (list_any (λ entry. eqb entry a) (starts_of rs))
      (rw on at h) in rw (on, p.0) (no_key_at rs a p.1))
]

pub entry_held : (index : ℕ) (all seen rs : List Record) (a : ℕ)
    → entry_fault index all seen rs ≡ None → list_any (λ entry. eqb entry a) (starts_of rs) ≡ true
    → list_any (holds_at (key_at a rs) a) all ≡ true
unfolding entry_fault
entry_held index all seen [] a h there = absurd cc
entry_held index all seen (r ∷ rs) a h there =
    let k = cond_fault (is_placed_entry all r) _ (entry_fault (index + 1) all (r ∷ seen) rs) h in
    elim (cases_Bool (is_entry_record r)) [
      | inr off ↦ rw off (entry_held (index + 1) all (r ∷ seen) rs a k.1 (rw off at there))
      | inl on ↦ elim (cases_Bool (eqb r.start a)) [
        | inl here ↦
            (let place : r.start ≡ a = eqb-true _ _ here in
            let held : list_any (holds_at r.key r.start) all ≡ true = rw on at k.0 in
            rw (on, here) (subst (λ (b : ℕ). list_any (holds_at r.key b) all ≡ true) place held))
        | inr other ↦
            (let later : list_any (λ entry. eqb entry a) (starts_of rs) ≡ true =
            rw (on, other) at there in
            rw (on, other) (entry_held (index + 1) all (r ∷ seen) rs a k.1 later))
      ]
    ]

pub held_covers : (rs : List Record) (key a : ℕ) → list_any (holds_at key a) rs ≡ true
    → covers is_text a rs ≡ true
held_covers [] key a h = absurd cc
held_covers (r ∷ rs) key a h =
    elim (or_cases (holds_at key a r) (list_any (holds_at key a) rs) h) [
      | inl here ↦ (let p = and_parts (is_text r) _ here in
          let q = and_parts (eqb r.key key) (spans a (span_of r)) p.1 in rw (p.0, q.1) refl)
      | inr later ↦ elim (cases_Bool (is_text r)) [
        | inl on ↦ rw on (or_right (spans a (span_of r)) (covers is_text a rs)
            (held_covers rs key a later))
        | inr off ↦ rw off (held_covers rs key a later)
      ]
    ]

-- the key of the first text at an address
abbrev pub text_key_at : ℕ → List Record → ℕ
text_key_at a rs = key_beside (spans a) (spans_of is_text rs) (keys_of is_text rs)

-- as ranges are apart, it is that of each text there
pub held_key : (v : Bool) → (index : ℕ) (seen rs : List Record) (key a : ℕ)
    → record_fault v index seen rs ≡ None → list_any (holds_at key a) rs ≡ true
    → text_key_at a rs ≡ key
unfolding record_fault
held_key v index seen [] key a h there = absurd cc
held_key v index seen (r ∷ rs) key a h there =
    let k = cond_fault (is_record v seen r) _ (record_fault v (index + 1) (r ∷ seen) rs) h in
    elim (cases_Bool (is_text r)) [
      | inr off ↦ rw off (held_key v (index + 1) (r ∷ seen) rs key a k.1 (rw off at there))
      | inl on ↦ elim (cases_Bool (spans a (span_of r))) [
        | inr apart ↦ (let later : list_any (holds_at key a) rs ≡ true = elim (or_cases
            (holds_at key a r) (list_any (holds_at key a) rs) there) [
              | inr later ↦ later
              | inl here ↦ absurd (let p = and_parts (is_text r) _ here in
                  both_ways (spans a (span_of r)) apart (and_parts (eqb r.key key) _ p.1).1)
            ] in rw (on, apart) (held_key v (index + 1) (r ∷ seen) rs key a k.1 later))
        | inl in_it ↦ elim (or_cases (holds_at key a r) (list_any (holds_at key a) rs) there) [
          | inl here ↦ (let p = and_parts (is_text r) _ here in
              let same : r.key ≡ key = eqb-true _ _ (and_parts (eqb r.key key) _ p.1).0 in
              rw (on, in_it) same)
          | inr later ↦ absurd (seen_apart v is_text is_text (index + 1) (r ∷ seen) rs a
              (λ x e. let one : x.kind ≡ 1 = eqb-true _ _ e in rw one refl) text_other k.1
              (rw (on, in_it) refl) (held_covers rs key a later))
        ]
      ]
    ]

-- ---- keys

-- keys are those of domains
record_key : (v : Bool) → (seen : List Record) (r : Record) → is_record v seen r ≡ true
    → (0 < r.key) × (r.key ≤ 4)
record_key v seen r h = elim (or_cases (eqb r.key 1) _ (and_parts _ _ h).0) [
  | inl one ↦ (let e : r.key ≡ 1 = eqb-true _ _ one in (omega (arith, e), omega (arith, e)))
  | inr more ↦ (let p = (and_parts v _ more).1 in
      let q = and_parts (ltb 0 r.key) _ (and_parts (not (eqb r.kind 4)) _ p).1 in
      (ltb-true _ _ q.0, leb-true _ _ q.1))
]

pub keys_low : (v : Bool) → (index : ℕ) (seen rs : List Record)
    → record_fault v index seen rs ≡ None → All (λ (r : Record). r.key ≤ 4) rs
unfolding record_fault
keys_low v index seen [] h = All-nil (λ (r : Record). r.key ≤ 4)
keys_low v index seen (r ∷ rs) h =
    let k = cond_fault (is_record v seen r) _ (record_fault v (index + 1) (r ∷ seen) rs) h in
    All-cons (λ (r : Record). r.key ≤ 4) r rs (record_key v seen r k.0).1
    (keys_low v (index + 1) (r ∷ seen) rs k.1)

pub key_few : (v : Bool) → (index : ℕ) (seen rs : List Record) (q : ℕ)
    → record_fault v index seen rs ≡ None → key_in rs q ≤ 4
unfolding record_fault
key_few v index seen [] q h = lit≤ tt
key_few v index seen (r ∷ rs) q h =
    let k = cond_fault (is_record v seen r) _ (record_fault v (index + 1) (r ∷ seen) rs) h in
    elim (cases_Bool (is_data r && spans (4096 * q) (span_of r))) [
      | inl on ↦ rw on (record_key v seen r k.0).1
      | inr off ↦ rw off (key_few v (index + 1) (r ∷ seen) rs q k.1)
    ]

-- the key of a page of trusted data or of a trusted heap is one that a record names
pub key_named : (v : Bool) → (index : ℕ) (seen rs : List Record) (q key : ℕ)
    → record_fault v index seen rs ≡ None → key_in rs q ≡ key
    → (covers (λ r. eqb r.kind 2) (4096 * q) rs ≡ true)
    ⊎ (covers (λ r. eqb r.kind 4) (4096 * q) rs ≡ true)
    → (0 < key) × (list_any (λ r. eqb r.key key) rs ≡ true)
unfolding record_fault
key_named v index seen [] q key h e there = elim there [ inl a ↦ absurd cc | inr b ↦ absurd cc ]
key_named v index seen (r ∷ rs) q key h e there =
    let k = cond_fault (is_record v seen r) _ (record_fault v (index + 1) (r ∷ seen) rs) h in
    elim (cases_Bool (is_data r && spans (4096 * q) (span_of r))) [
      | inl on ↦ (let same : r.key ≡ key = rw on at e in
          let low : 0 < r.key = (record_key v seen r k.0).0 in
          (subst (λ (n : ℕ). 0 < n) same low, rw (eq-eqb r.key key same) refl))
      | inr off ↦ (let n = key_named v (index + 1) (r ∷ seen) rs q key k.1 (rw off at e)
          (by off there) in (n.0, or_right (eqb r.key key) _ n.1))
    ]
  where
    passed_by : (b c s : Bool) (n : Span → Bool) (x : Span) (xs : List Span) → n x ≡ s
        → ((b || c) && s) ≡ false → list_any n (cond b (x ∷ xs) xs) ≡ true → list_any n xs ≡ true
    passed_by false c s n x xs e off here = here
    passed_by true c true n x xs e off here = absurd cc
    passed_by true c false n x xs e off here = rw e at here

    passed_else : (b c s : Bool) (n : Span → Bool) (x : Span) (xs : List Span) → n x ≡ s
        → ((b || c) && s) ≡ false → list_any n (cond c (x ∷ xs) xs) ≡ true → list_any n xs ≡ true
    passed_else b false s n x xs e off here = here
    passed_else true true true n x xs e off here = absurd cc
    passed_else false true true n x xs e off here = absurd cc
    passed_else b true false n x xs e off here = rw e at here

    by : (is_data r && spans (4096 * q) (span_of r)) ≡ false
        → (covers (λ r. eqb r.kind 2) (4096 * q) (r ∷ rs) ≡ true)
        ⊎ (covers (λ r. eqb r.kind 4) (4096 * q) (r ∷ rs) ≡ true)
        → (covers (λ r. eqb r.kind 2) (4096 * q) rs ≡ true)
        ⊎ (covers (λ r. eqb r.kind 4) (4096 * q) rs ≡ true)
    by off here = elim here [
      | inl a ↦ inl (passed_by (eqb r.kind 2) (eqb r.kind 4) (spans (4096 * q) (span_of r))
          (spans (4096 * q)) (span_of r) (spans_of (λ r. eqb r.kind 2) rs) refl off a)
      | inr b ↦ inr (passed_else (eqb r.kind 2) (eqb r.kind 4) (spans (4096 * q) (span_of r))
          (spans (4096 * q)) (span_of r) (spans_of (λ r. eqb r.kind 4) rs) refl off b)
    ]

-- a heap has the trusted key
heap_key : (v : Bool) → (seen : List Record) (r : Record) → is_record v seen r ≡ true
    → eqb r.kind 4 ≡ true → r.key ≡ 1
heap_key v seen r h four = elim (or_cases (eqb r.key 1) _ (and_parts _ _ h).0) [
  | inl one ↦ eqb-true _ _ one
  | inr more ↦ absurd (let p = (and_parts v _ more).1 in
      let z : not true ≡ true = rw four at (and_parts (not (eqb r.kind 4)) _ p).0 in cc)
]

-- as ranges are apart, the key of a page is the one beside its range of trusted data, or the
-- trusted key in a heap
pub key_beside_data : (v : Bool) → (index : ℕ) (seen rs : List Record) (q : ℕ)
    → record_fault v index seen rs ≡ None
    → key_in rs q ≡ cond (covers (λ r. eqb r.kind 4) (4096 * q) rs) 1
    (key_beside (spans (4096 * q)) (spans_of (λ r. eqb r.kind 2) rs)
    (keys_of (λ r. eqb r.kind 2) rs))
unfolding record_fault
key_beside_data v index seen [] q h = refl
key_beside_data v index seen (r ∷ rs) q h =
    let k = cond_fault (is_record v seen r) _ (record_fault v (index + 1) (r ∷ seen) rs) h in
    let rest = key_beside_data v (index + 1) (r ∷ seen) rs q k.1 in
    elim (cases_Bool (eqb r.kind 2)) [
      | inl two ↦
          (let e : r.kind ≡ 2 = eqb-true _ _ two in
          let four : eqb r.kind 4 ≡ false = rw e refl in
          elim (cases_Bool (spans (4096 * q) (span_of r))) [
            | inr off ↦ rw (two, four, off) rest
            | inl on ↦
                (let none : covers (λ r. eqb r.kind 4) (4096 * q) rs ≡ false =
                false_from_ne_true _ (apart v index seen r rs q k.1 two on) in
                rw (two, four, on, none) refl)
          ])
      | inr n ↦ elim (cases_Bool (eqb r.kind 4)) [
        | inr m ↦ rw (n, m) rest
        | inl four ↦ elim (cases_Bool (spans (4096 * q) (span_of r))) [
          | inr off ↦ rw (n, four, off) rest
          | inl on ↦ rw (n, four, on) (heap_key v seen r k.0 four)
        ]
      ]
    ]
  where
    apart : (v : Bool) (index : ℕ) (seen : List Record) (r : Record) (rs : List Record) (q : ℕ)
        → record_fault v (index + 1) (r ∷ seen) rs ≡ None → eqb r.kind 2 ≡ true
        → spans (4096 * q) (span_of r) ≡ true → covers (λ r. eqb r.kind 4) (4096 * q) rs ≡ true → ⊥
    apart v index seen r rs q h two on here =
        seen_apart v (λ r. eqb r.kind 2) (λ r. eqb r.kind 4) (index + 1) (r ∷ seen) rs (4096 * q)
        (λ x e. let k : x.kind ≡ 2 = eqb-true _ _ e in rw k refl)
        (λ x e. let k : x.kind ≡ 4 = eqb-true _ _ e in rw k refl)
        h (rw (two, on) refl) here

passed : (b : Bool) (a : ℕ) (x : Span) (xs : List Span)
    → list_any (spans a) (cond b (x ∷ xs) xs) ≡ false → list_any (spans a) xs ≡ false
passed true a x xs h = (or_parts (spans a x) (list_any (spans a) xs) h).1
passed false a x xs h = h

off_key : (b s : Bool) (k n : ℕ) → s ≡ false → n ≡ 0 → cond (b && s) k n ≡ 0
off_key true true k n e z = absurd cc
off_key true false k n e z = z
off_key false s k n e z = z

-- no key where there is no data
pub key_none : (rs : List Record) (q : ℕ) → covers (λ r. eqb r.kind 2) (4096 * q) rs ≡ false
    → covers (λ r. eqb r.kind 4) (4096 * q) rs ≡ false → key_in rs q ≡ 0
key_none [] q h k = refl
key_none (r ∷ rs) q h k = elim (cases_Bool (spans (4096 * q) (span_of r))) [
  | inr off ↦ off_key (is_data r) (spans (4096 * q) (span_of r)) r.key (key_in rs q) off
      (key_none rs q (passed (eqb r.kind 2) (4096 * q) (span_of r) _ h)
      (passed (eqb r.kind 4) (4096 * q) (span_of r) _ k))
  | inl on ↦ elim (cases_Bool (eqb r.kind 2)) [
    | inl two ↦ absurd (let z : true ≡ false = rw (two, on) at h in cc)
    | inr n ↦ elim (cases_Bool (eqb r.kind 4)) [
      | inl four ↦ absurd (let z : true ≡ false = rw (four, on) at k in cc)
      | inr m ↦ rw (n, m) (key_none rs q (rw n at h) (rw m at k))
    ]
  ]
]

-- in version 1 each key is 1
pub plain_one : (r : Record) → (eqb r.key 1 || false) ≡ true → r.key ≡ 1
plain_one r e = elim (or_cases (eqb r.key 1) false e) [ inl y ↦ eqb-true _ _ y | inr z ↦ absurd cc ]

pub plain_key : (index : ℕ) (seen rs : List Record) (key : ℕ) → key ≢ 1
    → record_fault false index seen rs ≡ None → list_any (λ r. eqb r.key key) rs ≡ false
unfolding record_fault
plain_key index seen [] key n h = refl
plain_key index seen (r ∷ rs) key n h =
    let k = cond_fault (is_record false seen r) _ (record_fault false (index + 1) (r
    ∷ seen) rs) h in
    let one : r.key ≡ 1 = plain_one r (and_parts _ _ k.0).0 in
    let other : eqb r.key key ≡ false = ne_eqb _ _ (λ e. n (sym e ∙ one)) in
    rw other (plain_key (index + 1) (r ∷ seen) rs key n k.1)

-- an address in the text of a record with another key than 1 is in none
pub plain_text : (rs : List Record) (key a : ℕ) → list_any (holds_at key a) rs ≡ true
    → list_any (λ r. eqb r.key key) rs ≡ true
plain_text [] key a h = absurd cc
plain_text (r ∷ rs) key a h =
    elim (or_cases (holds_at key a r) (list_any (holds_at key a) rs) h) [
      | inl here ↦ (let p = and_parts (is_text r) _ here in
          rw (and_parts (eqb r.key key) _ p.1).0 refl)
      | inr later ↦ or_right (eqb r.key key) (list_any (λ x. eqb x.key key) rs)
          (plain_text rs key a later)
    ]

-- ---- heaps are in user memory

whole_low : (seen : List Record) (r : Record) → is_whole_range seen r ≡ true
    → r.start + r.length ≤ 2 ^ 47
whole_low seen r h =
    let a = and_parts (eqb (r.start % 4096) 0) _ h in
    let b = and_parts (eqb (r.length % 4096) 0) _ a.1 in
    let c = and_parts (ltb 0 r.length) _ b.1 in
    leb-true _ _ (and_parts (leb (r.start + r.length) (2 ^ 47)) _ c.1).0

heap_other : (r : Record) → eqb r.kind 4 ≡ true → has_no_range r ≡ false
heap_other r heap = let four : r.kind ≡ 4 = eqb-true _ _ heap in rw four refl

pub heaps_end_low : (v : Bool) → (index : ℕ) (seen rs : List Record)
    → record_fault v index seen rs ≡ None
    → All (λ (h : Span). h.start + h.length ≤ 2 ^ 47) (spans_of (λ r. eqb r.kind 4) rs)
unfolding record_fault
heaps_end_low v index seen [] h = All-nil (λ (h : Span). h.start + h.length ≤ 2 ^ 47)
heaps_end_low v index seen (r ∷ rs) h =
    let k = cond_fault (is_record v seen r) _ (record_fault v (index + 1) (r ∷ seen) rs) h in
    let rest = heaps_end_low v (index + 1) (r ∷ seen) rs k.1 in
    elim (cases_Bool (eqb r.kind 4)) [
      | inr off ↦ rw off rest
      | inl on ↦ rw on (All-cons (λ (h : Span). h.start + h.length ≤ 2 ^ 47) (span_of r) _
          (whole_low seen r (whole_of v seen r k.0 (heap_other r on))) rest)
    ]
