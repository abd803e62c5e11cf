-- What an accepted image says of its trusted text, trusted data and trusted heaps: where they lie,
-- what their pages ask, and that the entries lie in trusted text.
use Rattle.std.proofs.Common.{◌≡◌, ℕ, ◌+◌, ◌*◌, ◌/◌, ◌^◌, ◌<◌, ◌≤◌, true, false, List, [], length}
use Rattle.std.proofs.Common.{Some, refl, sym, ◌∙◌, inl, inr}
use Rattle.std.proofs.lemmas.Bool.{both_ways, false_from_ne_true}
use Rattle.std.specs.List.{All}
use Rattle.erim_defs.specs.declared.trust.Span.{Span}
use Rattle.erim_defs.specs.Inspection.Image.{IsAccepted, holds_data, holds_heap, headers}
use Rattle.erim_defs.specs.Inspection.Image.{holds_text, image_code, image_data, image_heaps}
use Rattle.erim_defs.specs.Inspection.Image.{image_trust, is_page_of, records, segments}
use Rattle.erim_defs.specs.Inspection.Trust.{in_text_of, is_entry_of, spans}
use Rattle.erim_defs.specs.Machine.Start.{image_asked, image_byte, is_keyed, is_stack}
use Rattle.erim_defs.proofs.FaultLemmas.{sound, HasNoFault}
use Rattle.erim_defs.proofs.SegmentLemmas.{has_page, users, some_page, IsTextPage}
use Rattle.erim_defs.proofs.SegmentLemmas.{text_page_in_loadable, asked_page, page_asked}
use Rattle.erim_defs.proofs.RecordLemmas.{text_page_in, text_of_records, text_apart, any_append}
use Rattle.erim_defs.proofs.RecordLemmas.{data_placed, heap_placed, data_of_records, any_of_append}
use Rattle.erim_defs.proofs.RecordLemmas.{entry_held, heaps_end_low, held_key, key_at, key_few}
use Rattle.erim_defs.proofs.RecordLemmas.{key_none, no_key_at, plain_key, plain_text, text_key_at}
use Rattle.erim_defs.proofs.RecordLemmas.{key_beside_data, key_named}
use Rattle.erim_defs.specs.Inspection.Trust.{entry_key, flag_at, is_domain, key_beside, text_key}
use Rattle.erim_defs.specs.Inspection.Image.{data_keys, key_flags, record_fault}
use Rattle.erim_defs.specs.Machine.Domains.{opened_domains, is_set_but}
use Rattle.erim_defs.specs.Machine.Start.{page_key}
use Rattle.std.proofs.lemmas.Bool.{cases_Bool, or_right}
use Rattle.std.proofs.Common.{Bool, subst, eqb, eqb-true, arith, None, cond, zero, suc, ◌||◌}
use Rattle.std.specs.List.{list_any}
use Rattle.erim_defs.specs.Machine.Pages.{asks_exec, asks_write}

-- an address is in trusted text exactly where its page is
pub text_page : (image : List ℕ) (a : ℕ) → IsAccepted image
    → in_text_of (image_trust image) (4096 * (a / 4096)) ≡ in_text_of (image_trust image) a
unfolding image_trust
text_page image a h = text_page_in _ 0 [] (records image) a (sound image h).recorded

-- a page of trusted text is none of trusted data or of a trusted heap
text_not_keyed : (image : List ℕ) (q : ℕ) → HasNoFault image
    → in_text_of (image_trust image) (4096 * q) ≡ true → is_keyed image q ≡ false
unfolding image_trust image_data image_heaps
text_not_keyed image q s there =
    any_append (spans (4096 * q)) (image_data image) (image_heaps image)
    (text_apart _ 2 (records image) (4096 * q) (inl refl) s.recorded there)
    (text_apart _ 4 (records image) (4096 * q) (inr refl) s.recorded there)

text_no_key : (image : List ℕ) (q : ℕ) → HasNoFault image
    → in_text_of (image_trust image) (4096 * q) ≡ true → page_key image q ≡ 0
unfolding image_trust
text_no_key image q s there =
    key_none (records image) q
    (text_apart _ 2 (records image) (4096 * q) (inl refl) s.recorded there)
    (text_apart _ 4 (records image) (4096 * q) (inr refl) s.recorded there)

-- keys are few
pub page_key_few : (image : List ℕ) (q : ℕ) → IsAccepted image → page_key image q < 16
page_key_few image q h =
    let few = key_few _ 0 [] (records image) q (sound image h).recorded in omega (arith, few)

flag_of : (test : ℕ → Bool) (key : ℕ) → 0 < key → key ≤ 4 → flag_at (key_flags test) key ≡ test key
flag_of test zero low high = absurd (omega (arith, low))
flag_of test (suc zero) low high = refl
flag_of test (suc (suc zero)) low high = refl
flag_of test (suc (suc (suc zero))) low high = refl
flag_of test (suc (suc (suc (suc zero)))) low high = refl
flag_of test (suc (suc (suc (suc (suc key))))) low high = absurd (omega (arith, high))

-- the key of a page of trusted data or of a trusted heap is a domain
pub keyed_domain : (image : List ℕ) (q : ℕ) → IsAccepted image → is_keyed image q ≡ true
    → is_domain (image_trust image) (page_key image q) ≡ true
unfolding image_trust image_data image_heaps
keyed_domain image q h there =
    let s = sound image h in
    let key = page_key image q in
    let few = key_few _ 0 [] (records image) q s.recorded in
    let named = key_named _ 0 [] (records image) q key s.recorded refl
    (any_of_append (spans (4096 * q)) (image_data image) (image_heaps image) there) in
    flag_of (λ (k : ℕ). eqb k 1 || list_any (λ r. eqb r.key k) (records image)) key named.0 few
    ∙ or_right (eqb key 1) _ named.1

-- the key of a page is the one beside its range of trusted data, or the trusted key in a heap
pub page_key_beside : (image : List ℕ) (q : ℕ) → IsAccepted image
    → page_key image q ≡ cond (list_any (spans (4096 * q)) (image_heaps image)) 1
    (key_beside (spans (4096 * q)) (image_data image) (data_keys image))
unfolding image_data image_heaps data_keys
page_key_beside image q h = key_beside_data _ 0 [] (records image) q (sound image h).recorded

-- a page of trusted data or of a trusted heap is one of the image
keyed_page : (image : List ℕ) (q : ℕ) → HasNoFault image → is_keyed image q ≡ true
    → has_page (segments image) q ≡ true
unfolding image_data image_heaps
keyed_page image q s h =
    elim (any_of_append (spans (4096 * q)) (image_data image) (image_heaps image) h) [
      | inl data_there ↦ some_page holds_data (segments image) q
          (data_of_records _ 2 holds_data 0 0 (segments image) [] (records image) q data_placed
          (inl refl)
          s.recorded s.placed data_there)
      | inr heap_there ↦ some_page holds_heap (segments image) q
          (data_of_records _ 4 holds_heap 0 0 (segments image) [] (records image) q heap_placed
          (inr refl)
          s.recorded s.placed heap_there)
    ]

-- an entry lies in the text of its domain
pub entries_in : (image : List ℕ) (a : ℕ) → IsAccepted image
    → is_entry_of (image_trust image) a ≡ true
    → text_key (image_trust image) a ≡ entry_key (image_trust image) a
unfolding image_trust text_key entry_key
entries_in image a h there =
    let s = sound image h in
    held_key _ 0 [] (records image) (key_at a (records image)) a s.recorded
    (entry_held 0 (records image) [] (records image) a s.entered there)

-- where there is no entry there is no key
pub entries_else : (image : List ℕ) (a : ℕ) → is_entry_of (image_trust image) a ≡ false
    → entry_key (image_trust image) a ≡ 0
unfolding image_trust entry_key
entries_else image a none = no_key_at (records image) a none

-- a note of version 1 has one domain, and in its text a thread is at home
pub plain_at_home : (image : List ℕ) (a p : ℕ) → IsAccepted image
    → (image_trust image).strict ≡ false → is_entry_of (image_trust image) a ≡ true
    → is_set_but (text_key (image_trust image) a) (opened_domains (image_trust image) p) ≡ false
unfolding image_trust text_key is_set_but opened_domains
plain_at_home image a p h plain there =
    let s = sound image h in
    let recorded : record_fault false 0 [] (records image) ≡ None =
    subst (λ (v : Bool). record_fault v 0 [] (records image) ≡ None) plain s.recorded in
    let held = entry_held 0 (records image) [] (records image) a s.entered there in
    let key : text_key_at a (records image) ≡ key_at a (records image) =
    held_key _ 0 [] (records image) (key_at a (records image)) a recorded held in
    let one : key_at a (records image) ≡ 1 = elim (cases_Bool (eqb (key_at a (records image)) 1)) [
      | inl y ↦ eqb-true _ _ y
      | inr n ↦ absurd (both_ways _ (plain_key 0 [] (records image) (key_at a (records image))
          (λ e. let z : true ≡ false = rw e at n in absurd cc) recorded)
          (plain_text (records image) (key_at a (records image)) a held))
    ] in
    let two = plain_key 0 [] (records image) 2 (omega arith) recorded in
    let three = plain_key 0 [] (records image) 3 (omega arith) recorded in
    let four = plain_key 0 [] (records image) 4 (omega arith) recorded in
    rw (key, one, two, three, four) refl

-- the ranges of trusted heap end in user memory
pub heaps_low : (image : List ℕ) → IsAccepted image
    → All (λ (h : Span). h.start + h.length ≤ 2 ^ 47) (image_heaps image)
unfolding image_heaps
heaps_low image h = heaps_end_low _ 0 [] (records image) (sound image h).recorded

-- a page of trusted text of an image
pub record IsText (image : List ℕ) (q : ℕ) : Type 0 where
  pub bits : ℕ
  pub asked : image_asked image q ≡ Some bits
  pub exec : asks_exec bits ≡ true
  pub sealed : asks_write bits ≡ false
  pub keyed : page_key image q ≡ 0
  pub stack : is_stack q ≡ false
  pub code : (a : ℕ) → a / 4096 ≡ q → image_code image a ≡ Some (image_byte image a)

-- as trusted text lies on pages that hold it
text_of : (image : List ℕ) (q : ℕ) → HasNoFault image
    → in_text_of (image_trust image) (4096 * q) ≡ true
    → is_page_of holds_text (segments image) q ≡ true → IsText image q
unfolding image_code
text_of image q s text page =
    let w : IsTextPage image (segments image) q =
    text_page_in_loadable image 0 [] (headers image) q s.shared page in
    record {
      bits = w.bits;
      asked = w.asked;
      exec = w.exec;
      sealed = w.sealed;
      keyed = text_no_key image q s text;
      stack = (users (length image) 0 [] (headers image) q s.ranged
          (some_page holds_text (segments image) q page)).1;
      code = w.code;
    }

holds_page : (image : List ℕ) (q : ℕ) → HasNoFault image
    → in_text_of (image_trust image) (4096 * q) ≡ true
    → is_page_of holds_text (segments image) q ≡ true
unfolding image_trust
holds_page image q s text =
    text_of_records _ 0 0 (segments image) [] (records image) q s.recorded s.texts text

-- what is known of each page of trusted text of an accepted image
pub text_is : (image : List ℕ) (q : ℕ) → IsAccepted image
    → in_text_of (image_trust image) (4096 * q) ≡ true → IsText image q
text_is image q h text = let s = sound image h in text_of image q s text (holds_page image q s text)

-- no page of an accepted image lies past user memory
pub image_low : (image : List ℕ) (q n : ℕ) → IsAccepted image → image_asked image q ≡ Some n
    → q < 2 ^ 35
image_low image q n h asked =
    (users (length image) 0 [] (headers image) q (sound image h).ranged
    (asked_page (segments image) q n asked)).0

-- a page of trusted data or of a trusted heap of an image
pub record IsKeyed (image : List ℕ) (q : ℕ) : Type 0 where
  pub bits : ℕ
  pub asked : image_asked image q ≡ Some bits
  pub stack : is_stack q ≡ false
  pub text : in_text_of (image_trust image) (4096 * q) ≡ false

-- what is known of each such page of an accepted image
pub keyed_is : (image : List ℕ) (q : ℕ) → IsAccepted image → is_keyed image q ≡ true
    → IsKeyed image q
keyed_is image q h keyed =
    let s = sound image h in
    let page = keyed_page image q s keyed in
    let asked = page_asked (segments image) q page in
    record {
      bits = asked.0;
      asked = asked.1;
      stack = (users (length image) 0 [] (headers image) q s.ranged page).1;
      text = false_from_ne_true _
          (λ text. both_ways (is_keyed image q) (text_not_keyed image q s text) keyed);
    }

-- a page of trusted text of an accepted image asks PROT_EXEC
pub text_page_asks : (image : List ℕ) (q n : ℕ) → IsAccepted image
    → in_text_of (image_trust image) (4096 * q) ≡ true → image_asked image q ≡ Some n
    → asks_exec n ≡ true
text_page_asks image q n h text asked =
    let t = text_is image q h text in
    let there : Some t.bits ≡ Some n = sym t.asked ∙ asked in
    let same : t.bits ≡ n = cc in
    rw (sym same) t.exec
