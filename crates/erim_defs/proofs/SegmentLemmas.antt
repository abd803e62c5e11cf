-- What a segment table without faults says: where pages lie, and what a page on which text may lie
-- asks and holds.
use Rattle.std.proofs.Common.{◌≡◌, ℕ, ◌+◌, ◌/◌, ◌^◌, ◌<◌, ◌≤◌, ◌&&◌, not, Bool, true, false, cond}
use Rattle.std.proofs.Common.{eqb, ltb, leb, List, [], ◌∷◌, Some, None, refl, ◌∙◌, arith, inl, inr}
use Rattle.std.proofs.Common.{eqb-true, leb-true, ltb-true, lt-ltb, sum_by}
use Rattle.std.specs.List.{list_any}
use Rattle.std.proofs.lemmas.Bool.{cases_Bool, and_parts, and_from, or_parts, or_cases, or_right}
use Rattle.std.proofs.lemmas.Bool.{both_ways, false_from_ne_true}
use Rattle.erim_defs.specs.declared.segment.Segment.{Segment}
use Rattle.erim_defs.specs.Inspection.Image.{Header, code_of, end_page, first_page, holds_text}
use Rattle.erim_defs.specs.Inspection.Image.{is_executable, is_in_file, is_in_user, is_loadable}
use Rattle.erim_defs.specs.Inspection.Image.{is_page_of, is_ranged, loadable_segments, header_pages}
use Rattle.erim_defs.specs.Inspection.Image.{is_writable, range_fault, shared_fault, shares_page}
use Rattle.erim_defs.specs.Inspection.Image.{touches}
use Rattle.erim_defs.specs.Machine.Start.{asked_in, asked_of, byte_in, is_stack}
use Rattle.erim_defs.proofs.ImageLemmas.{in_user_view}
use Rattle.erim_defs.proofs.FaultLemmas.{cond_fault, not_true}
use Rattle.erim_defs.proofs.PageLemmas.{apart_page, touches_view}
use Rattle.erim_defs.proofs.PlaceLemmas.{shared_parts, shared_passed}
use Rattle.erim_defs.specs.Machine.Pages.{asks_exec, asks_write}

-- ---- segments lie in user memory and share no page

-- a page of one of the segments
abbrev pub has_page : List Segment → ℕ → Bool
has_page ss q = list_any (λ s. touches s q) ss

-- a page below the end of user memory, and not the stack's
abbrev pub IsUserPage : ℕ → Type 0
IsUserPage q = (q < 2 ^ 35) × (is_stack q ≡ false)

-- a page of a segment in user memory is one
pub user_page : (s : Segment) (q : ℕ) → is_in_user s ≡ true → touches s q ≡ true → IsUserPage q
user_page s q user there =
    let u = in_user_view s user in
    let end = u.user in
    let t = touches_view s q there in
    let low = t.low in
    let high = t.high in
    let a = and_parts (leb s.filesz s.memsz) _ user in
    let b = and_parts (leb 0x10000 s.vaddr) _ a.1 in
    let c = and_parts (leb (s.vaddr + s.memsz) (2 ^ 47)) (not (ltb (first_page s) 0x7FFF0
    && ltb 0x7FFE0 (end_page s))) b.1 in
    let off = not_true (ltb (first_page s) 0x7FFF0 && ltb 0x7FFE0 (end_page s)) c.1 in (
      omega (arith, end, high),
      false_from_ne_true _ (λ stack.
          let p = and_parts _ _ stack in
          let from : 0x7FFE0 ≤ q = leb-true _ _ p.0 in
          let to : q < 0x7FFF0 = ltb-true _ _ p.1 in
          let before : first_page s < 0x7FFF0 = omega (arith, low, to) in
          let after : 0x7FFE0 < end_page s = omega (arith, high, from) in
          both_ways _ off (and_from _ _ (lt-ltb _ _ before) (lt-ltb _ _ after))),
    )

-- a loadable header that is ranged lies in user memory
loadable_user : (file pages : ℕ) (h : Header) → is_loadable h ≡ true → is_ranged file pages h ≡ true
    → is_in_user h.segment ≡ true
loadable_user file pages h load ranged =
    let p = and_parts _ _ load in
    let one : h.kind ≡ 1 = eqb-true _ _ p.0 in
    let some : 0 < h.segment.memsz = ltb-true _ _ p.1 in
    let size : eqb h.segment.memsz 0 ≡ false =
    false_from_ne_true _ (λ e. let z : h.segment.memsz ≡ 0 = eqb-true _ _ e in
    absurd (omega (arith, z, some))) in
    let note : eqb h.kind 4 ≡ false = rw one refl in
    let kind : eqb h.kind 1 ≡ true = rw one refl in
    let whole : (is_in_file file h.segment && (is_in_user h.segment && _)) ≡ true =
    rw (note, kind, size) at ranged in
    (and_parts _ _ (and_parts _ _ whole).1).0

-- the pages of loadable segments are user pages
pub users : (file index : ℕ) (seen hs : List Header) (q : ℕ) → range_fault file index seen hs ≡ None
    → has_page (loadable_segments hs) q ≡ true → IsUserPage q
unfolding range_fault loadable_segments
users file index seen [] q h there = absurd cc
users file index seen (x ∷ hs) q h there =
    let k = cond_fault (is_ranged file (sum_by header_pages seen) x) _
    (range_fault file (index + 1) (x ∷ seen) hs) h in
    elim (cases_Bool (is_loadable x)) [
      | inr off ↦ users file (index + 1) (x ∷ seen) hs q k.1 (rw off at there)
      | inl on ↦ elim (or_cases (touches x.segment q) (has_page (loadable_segments hs) q)
          (rw on at there)) [
            | inl here ↦ user_page x.segment q (loadable_user file
                (sum_by header_pages seen) x on k.0)
                here
            | inr later ↦ users file (index + 1) (x ∷ seen) hs q k.1 later
          ]
    ]

-- a segment apart from all has no page of theirs
apart_pages : (s : Segment) (ss : List Segment) (q : ℕ) → list_any (shares_page s) ss ≡ false
    → has_page ss q ≡ true → touches s q ≡ false
apart_pages s [] q apart there = absurd cc
apart_pages s (t ∷ ts) q apart there =
    let p = or_parts _ _ apart in
    elim (or_cases (touches t q) (has_page ts q) there) [
      | inl here ↦ apart_page s t q p.0 here
      | inr later ↦ apart_pages s ts q p.1 later
    ]

-- a page of a segment so far is no page of those after
page_once : (index : ℕ) (seen hs : List Header) (q : ℕ) → shared_fault index seen hs ≡ None
    → has_page (loadable_segments seen) q ≡ true → has_page (loadable_segments hs) q ≡ false
unfolding loadable_segments
page_once index seen [] q h there = refl
page_once index seen (x ∷ hs) q h there =
    let rest = shared_passed index seen x hs h in
    elim (cases_Bool (is_loadable x)) [
      | inr off ↦ (let before : has_page (loadable_segments (x ∷ seen)) q ≡ true = rw off there in
          rw off (page_once (index + 1) (x ∷ seen) hs q rest before))
      | inl on ↦
          (let k = shared_parts index seen x hs h on in
          let before : has_page (loadable_segments (x ∷ seen)) q ≡ true =
          rw on (or_right (touches x.segment q) (has_page (loadable_segments seen) q) there) in
          rw (on, apart_pages x.segment (loadable_segments seen) q k.0 there)
          (page_once (index + 1) (x ∷ seen) hs q rest before))
    ]

-- a page of segments of which a test holds is a page of them
pub some_page : (test : Segment → Bool) (ss : List Segment) (q : ℕ) → is_page_of test ss q ≡ true
    → has_page ss q ≡ true
some_page test [] q h = h
some_page test (s ∷ ss) q h = elim (or_cases (test s && touches s q) (is_page_of test ss q) h) [
  | inl here ↦ rw (and_parts (test s) (touches s q) here).1 refl
  | inr later ↦ or_right (touches s q) (has_page ss q) (some_page test ss q later)
]

-- ---- what a page of trusted text asks and holds

-- PROT_EXEC is asked by its bit alone
exec_asks : (w x : Bool) → asks_exec (1 + cond w 2 0 + cond x 4 0) ≡ x
exec_asks true true = refl
exec_asks true false = refl
exec_asks false true = refl
exec_asks false false = refl

-- an executable segment asks PROT_EXEC, and no other does
pub asks_exec_is : (s : Segment) → asks_exec (asked_of s) ≡ is_executable s
asks_exec_is s = exec_asks _ _

-- so is PROT_WRITE
write_asks : (w x : Bool) → asks_write (1 + cond w 2 0 + cond x 4 0) ≡ w
write_asks true true = refl
write_asks true false = refl
write_asks false true = refl
write_asks false false = refl

-- a writable segment asks PROT_WRITE, and no other does
pub asks_write_is : (s : Segment) → asks_write (asked_of s) ≡ is_writable s
asks_write_is s = write_asks _ _

-- a page asks PROT_EXEC, and the image code has the bytes that are loaded there
pub record IsTextPage (image : List ℕ) (ss : List Segment) (q : ℕ) : Type 0 where
  pub bits : ℕ
  pub asked : asked_in ss q ≡ Some bits
  pub exec : asks_exec bits ≡ true
  pub sealed : asks_write bits ≡ false
  pub code : (a : ℕ) → a / 4096 ≡ q → code_of image ss a ≡ Some (byte_in image ss a)

-- by the first segment with the page
text_page_here : (image : List ℕ) (s : Segment) (ss : List Segment) (q : ℕ) → touches s q ≡ true
    → is_executable s ≡ true → is_writable s ≡ false → IsTextPage image (s ∷ ss) q
text_page_here image s ss q on exec sealed = record {
  bits = asked_of s;
  asked = rw on refl;
  exec = asks_exec_is s ∙ exec;
  sealed = asks_write_is s ∙ sealed;
  code = λ a e. (let here : touches s (a / 4096) ≡ true = rw e on in rw (here, exec) refl);
}

-- or by those after it
text_page_later : (image : List ℕ) (s : Segment) (ss : List Segment) (q : ℕ) → touches s q ≡ false
    → IsTextPage image ss q → IsTextPage image (s ∷ ss) q
text_page_later image s ss q off w = record {
  bits = w.bits;
  asked = rw off w.asked;
  exec = w.exec;
  sealed = w.sealed;
  code = λ a e. (let here : touches s (a / 4096) ≡ false = rw e off in
      elim (cases_Bool (is_executable s)) [
        | inl x ↦ rw (here, x) (w.code a e)
        | inr x ↦
            rw (here, x) (w.code a e)
      ]);
}

text_page_one : (image : List ℕ) (s : Segment) (ss : List Segment) (q : ℕ)
    → (touches s q ≡ true → has_page ss q ≡ false)
    → (is_page_of holds_text ss q ≡ true → IsTextPage image ss q)
    → is_page_of holds_text (s ∷ ss) q ≡ true → IsTextPage image (s ∷ ss) q
text_page_one image s ss q once rest text =
    elim (or_cases (holds_text s && touches s q) (is_page_of holds_text ss q) text) [
      | inl here ↦ (let p = and_parts (holds_text s) (touches s q) here in
          text_page_here image s ss q p.1 (and_parts _ _ p.0).0
          (not_true (is_writable s) (and_parts _ _ p.0).1))
      | inr later ↦ text_page_later image s ss q
          (false_from_ne_true _ (λ on. both_ways (has_page ss q) (once on)
          (some_page holds_text ss q later))) (rest later)
    ]

pub text_page_in_loadable : (image : List ℕ) (index : ℕ) (seen hs : List Header) (q : ℕ)
    → shared_fault index seen hs ≡ None → is_page_of holds_text (loadable_segments hs) q ≡ true
    → IsTextPage image (loadable_segments hs) q
unfolding loadable_segments
text_page_in_loadable image index seen [] q h text = absurd cc
text_page_in_loadable image index seen (x ∷ hs) q h text =
    let rest = shared_passed index seen x hs h in
    elim (cases_Bool (is_loadable x)) [
      | inr off ↦ rw off (text_page_in_loadable image (index + 1) (x ∷ seen) hs q rest
          (rw off at text))
      | inl on ↦
          rw on (text_page_one image x.segment (loadable_segments hs) q
          (λ here. page_once (index + 1) (x ∷ seen) hs q rest (rw (on, here) refl))
          (λ later. text_page_in_loadable image (index + 1) (x ∷ seen) hs q rest later)
          (rw on at text))
    ]

-- a page of an image
pub asked_page : (ss : List Segment) (q n : ℕ) → asked_in ss q ≡ Some n → has_page ss q ≡ true
asked_page [] q n e = absurd cc
asked_page (s ∷ ss) q n e = elim (cases_Bool (touches s q)) [
  | inl on ↦ rw on refl
  | inr off ↦ rw off (asked_page ss q n (rw off at e))
]

-- and the other way
pub page_asked : (ss : List Segment) (q : ℕ) → has_page ss q ≡ true
    → (n : ℕ) × (asked_in ss q ≡ Some n)
page_asked [] q h = absurd cc
page_asked (s ∷ ss) q h = elim (cases_Bool (touches s q)) [
  | inl on ↦ (asked_of s, rw on refl)
  | inr off ↦ (let rest = page_asked ss q (rw off at h) in (rest.0, rw off rest.1))
]
