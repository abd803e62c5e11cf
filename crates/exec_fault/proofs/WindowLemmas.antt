-- The code of a window has the bytes of the code with its page, near that page.
use Rattle.std.proofs.Common.{◌≡◌, ◌≢◌, ℕ, ◌+◌, ◌-◌, ◌*◌, ◌/◌, ◌<◌, ◌≤◌, ◌&&◌, Option, Some}
use Rattle.std.proofs.Common.{None, Bool, true, false, cond, List, length, take, drop, refl, sym}
use Rattle.std.proofs.Common.{ap}
use Rattle.std.proofs.Common.{◌∙◌, arith, inl, inr, eqb, eqb-true, eq-eqb, nat_lt, length-drop}
use Rattle.std.specs.Prelude.{slice_get, slice_index, slice_range}
use Rattle.std.proofs.lemmas.Bool.{cases_Bool, cases_lt, lt-ltb, ltb-true, and_parts}
use Rattle.std.proofs.lemmas.List.{get_or-drop, get_or-take, length-take-le}
use Rattle.std.proofs.lemmas.Option.{slice_get-get_or}
use Rattle.erim_defs.specs.Inspection.Code.{laid_at}
use Rattle.erim_defs.specs.Machine.Pages.{RightsMap, ByteMap, code_with, is_published}
use Rattle.erim_defs.proofs.CodeLemmas.{laid_at_place, laid_at_past, laid_at_before}
use Rattle.exec_fault.specs.Verdicts.{AgreesNear, HoldsPages, window_start, window_end, window_base}
use Rattle.exec_fault.specs.Verdicts.{window_from}
use Rattle.exec_fault.proofs.VerdictLemmas.{IsScan}
use Rattle.erim_defs.specs.declared.found.Found.{Found}
use Rattle.erim_defs.specs.Inspection.Trust.{TrustValue}
use Rattle.erim_defs.specs.Inspection.Unsafe.{IsFirstUnsafe}

-- off its page, the code with a page is what is published
code_off : (rights : RightsMap) (bytes : ByteMap) (q a p : ℕ) → a / 4096 ≡ p → p ≢ q
    → code_with rights bytes q a ≡ cond (is_published (rights p)) (Some (bytes a)) None
code_off rights bytes q a p e off = elim (cases_Bool (eqb (a / 4096) q)) [
  | inl on ↦ absurd (off (sym e ∙ eqb-true _ _ on))
  | inr not ↦ rw (not, e) refl
]

code_on : (rights : RightsMap) (bytes : ByteMap) (q a : ℕ) → a / 4096 ≡ q
    → code_with rights bytes q a ≡ Some (bytes a)
code_on rights bytes q a e = let on : eqb (a / 4096) q ≡ true = rw e (eq-eqb q q refl) in rw on refl

-- the byte at a place of a part of a list
part_at : (xs : List ℕ) (from to k : ℕ) → from + k < to → to ≤ length xs
    → slice_get (slice_range xs from to) k ≡ Some (slice_index xs (from + k))
part_at xs from to k l m =
    let n : ℕ = to - from in
    let rest : n ≤ length (drop from xs) = omega (arith, length-drop from xs) in
    let long : length (take n (drop from xs)) ≡ n = length-take-le n (drop from xs) rest in
    slice_get-get_or (take n (drop from xs)) k 0 (omega (arith, long))
    ∙ ap Some (get_or-take n (drop from xs) k 0 (omega arith) ∙ get_or-drop from xs k 0)

-- the byte of the code of a window at an address
laid_part : (xs : List ℕ) (base from to a k : ℕ) → a ≡ base + k → from + k < to → to ≤ length xs
    → laid_at base (slice_range xs from to) a ≡ Some (slice_index xs (from + k))
laid_part xs base from to a k e l m =
    laid_at_place base k a (slice_range xs from to) e ∙ part_at xs from to k l m

part_long : (xs : List ℕ) (from to : ℕ) → from ≤ to → to ≤ length xs
    → length (slice_range xs from to) ≡ to - from
part_long xs from to l m =
    length-take-le (to - from) (drop from xs) (omega (arith, length-drop from xs))

-- ---- the three pages

-- what is published of the pages beside
pub record Beside (rights : RightsMap) (q : ℕ) (before behind : Bool) : Type 0 where
  pub first : before ≡ (nat_lt 0 q && is_published (rights (q - 1)))
  pub last : behind ≡ is_published (rights (q + 1))

page_before : (xs : List ℕ) (rights : RightsMap) (bytes : ByteMap) (q a : ℕ) (before behind : Bool)
    → length xs ≡ 12288 → HoldsPages xs bytes q → Beside rights q before behind
    → 4096 * q ≤ a + 64 → a < 4096 * q
    → laid_at (window_base q before) (slice_range xs (window_start before) (window_end behind)) a
    ≡ code_with rights bytes q a
page_before xs rights bytes q a true behind long h b low high =
    let off : q - 1 ≢ q = omega arith in
    let place : a ≡ 4096 * q - 4096 + (a - (4096 * q - 4096)) = omega arith in
    let some : nat_lt 0 q ≡ true = lt-ltb 0 q (omega arith) in
    let published : is_published (rights (q - 1)) ≡ true = sym (rw some at b.first) in
    let here : 4096 * (q - 1) + (a - (4096 * q - 4096)) ≡ a = omega arith in
    laid_part xs (4096 * q - 4096) 0 (window_end behind) a (a - (4096 * q - 4096)) place
    (end_far behind (a - (4096 * q - 4096)) (omega arith)) (end_in behind long)
    ∙ ap Some (ap (slice_index xs) (omega arith) ∙ h.before (a - (4096 * q - 4096)) (omega arith)
    ∙ ap bytes here)
    ∙ sym (code_off rights bytes q a (q - 1) (omega arith) off ∙ rw published refl)
  where
    end_far : (c : Bool) (k : ℕ) → k < 8192 → 0 + k < window_end c
    end_far true k l = omega arith
    end_far false k l = omega arith

    end_in : (c : Bool) → length xs ≡ 12288 → window_end c ≤ length xs
    end_in true e = omega arith
    end_in false e = omega arith
page_before xs rights bytes q a false behind long h b low high =
    let off : q - 1 ≢ q = omega arith in
    let some : nat_lt 0 q ≡ true = lt-ltb 0 q (omega arith) in
    let published : is_published (rights (q - 1)) ≡ false = sym (rw some at b.first) in
    laid_at_before (4096 * q) a (slice_range xs 4096 (window_end behind)) high
    ∙ sym (code_off rights bytes q a (q - 1) (omega arith) off ∙ rw published refl)

-- where the page stands in the code of the window
in_window : (q a : ℕ) (before : Bool) (i : ℕ) → (before ≡ true → 0 < q) → a ≡ 4096 * q + i
    → (k : ℕ) × (a ≡ window_base q before + k) × (window_start before + k ≡ 4096 + i)
in_window q a true i some e = let positive : 0 < q = some refl in
    (4096 + i, omega arith, omega arith)
in_window q a false i some e = (i, e, refl)

starts_before : (rights : RightsMap) (q : ℕ) (before behind : Bool) → Beside rights q before behind
    → before ≡ true → 0 < q
starts_before rights q before behind b is =
    ltb-true 0 q (and_parts (nat_lt 0 q) (is_published (rights (q - 1))) (sym b.first ∙ is)).0

page_itself : (xs : List ℕ) (rights : RightsMap) (bytes : ByteMap) (q a : ℕ) (before behind : Bool)
    → length xs ≡ 12288 → HoldsPages xs bytes q → Beside rights q before behind → 4096 * q ≤ a
    → a < 4096 * q + 4096
    → laid_at (window_base q before) (slice_range xs (window_start before) (window_end behind)) a
    ≡ code_with rights bytes q a
page_itself xs rights bytes q a before behind long h b low high =
    let i : ℕ = a - 4096 * q in
    let is : a ≡ 4096 * q + i = omega arith in
    let w = in_window q a before i (starts_before rights q before behind b) is in
    laid_part xs (window_base q before) (window_start before) (window_end behind) a w.0 w.1
    (rw w.2 (far behind i (omega arith))) (within behind long)
    ∙ ap Some (ap (slice_index xs) w.2 ∙ h.page i (omega arith) ∙ ap bytes (sym is))
    ∙ sym (code_on rights bytes q a (omega arith))
  where
    far : (c : Bool) (k : ℕ) → k < 4096 → 4096 + k < window_end c
    far true k l = omega arith
    far false k l = omega arith

    within : (c : Bool) → length xs ≡ 12288 → window_end c ≤ length xs
    within true e = omega arith
    within false e = omega arith

page_behind : (xs : List ℕ) (rights : RightsMap) (bytes : ByteMap) (q a : ℕ) (before behind : Bool)
    → length xs ≡ 12288 → HoldsPages xs bytes q → Beside rights q before behind
    → 4096 * q + 4096 ≤ a → a < 4096 * q + 8192
    → laid_at (window_base q before) (slice_range xs (window_start before) (window_end behind)) a
    ≡ code_with rights bytes q a
page_behind xs rights bytes q a before true long h b low high =
    let i : ℕ = a - (4096 * q + 4096) in
    let is : a ≡ 4096 * q + (4096 + i) = omega arith in
    let there : a ≡ 4096 * (q + 1) + i = omega arith in
    let w = in_window q a before (4096 + i) (starts_before rights q before true b) is in
    let place : window_start before + w.0 ≡ 8192 + i = omega (arith, w.2) in
    laid_part xs (window_base q before) (window_start before) 12288 a w.0 w.1
    (rw place (omega arith)) (omega (arith, long))
    ∙ ap Some (ap (slice_index xs) place ∙ h.behind i (omega arith) ∙ ap bytes (sym there))
    ∙ sym (code_off rights bytes q a (q + 1) (omega arith) (omega arith) ∙ rw (sym b.last) refl)
page_behind xs rights bytes q a before false long h b low high =
    let end : window_base q before + (8192 - window_start before) ≡ 4096 * q + 4096 =
    ends before (starts_before rights q before false b) in
    laid_at_past (window_base q before) a (slice_range xs (window_start before) 8192)
    (rw (part_long xs (window_start before) 8192 (starts before) (omega (arith, long)))
    (omega (arith, end)))
    ∙ sym (code_off rights bytes q a (q + 1) (omega arith) (omega arith) ∙ rw (sym b.last) refl)
  where
    starts : (c : Bool) → window_start c ≤ 8192
    starts true = omega arith
    starts false = omega arith

    ends : (c : Bool) → (c ≡ true → 0 < q)
        → window_base q c + (8192 - window_start c) ≡ 4096 * q + 4096
    ends true some = let positive : 0 < q = some refl in omega arith
    ends false some = omega arith

pub window_agrees : (xs : List ℕ) (rights : RightsMap) (bytes : ByteMap) (q : ℕ)
    (before behind : Bool) → length xs ≡ 12288 → HoldsPages xs bytes q
    → Beside rights q before behind
    → AgreesNear (laid_at (window_base q before)
    (slice_range xs (window_start before) (window_end behind))) (code_with rights bytes q) q
window_agrees xs rights bytes q before behind long h b a low high =
    elim (cases_lt a (4096 * q)) [
      | inl one ↦ page_before xs rights bytes q a before behind long h b low one
      | inr past ↦ elim (cases_lt a (4096 * q + 4096)) [
        | inl two ↦ page_itself xs rights bytes q a before behind long h b past two
        | inr three ↦ page_behind xs rights bytes q a before behind long h b three (omega arith)
      ]
    ]

-- ---- a scan of the window

code_starts : (rights : RightsMap) (bytes : ByteMap) (q : ℕ) (before behind : Bool)
    → Beside rights q before behind → (a : ℕ) → 4096 * q ≤ a + 64
    → a < window_base q before + window_from before → code_with rights bytes q a ≡ None
code_starts rights bytes q true behind b a low high =
    let positive : 0 < q = starts_before rights q true behind b refl in absurd (omega arith)
code_starts rights bytes q false behind b a low high =
    let some : nat_lt 0 q ≡ true = lt-ltb 0 q (omega arith) in
    let published : is_published (rights (q - 1)) ≡ false = sym (rw some at b.first) in
    code_off rights bytes q a (q - 1) (omega arith) (omega arith) ∙ rw published refl

from_close : (q : ℕ) (before : Bool) → (before ≡ true → 0 < q)
    → (4096 * q ≤ window_base q before + window_from before + 64)
    × (window_base q before + window_from before ≤ 4096 * q)
from_close q true some = let positive : 0 < q = some refl in (omega arith, omega arith)
from_close q false some = (omega arith, omega arith)

end_late : (q : ℕ) (before behind : Bool) → (before ≡ true → 0 < q)
    → 4096 * q + 4096 ≤ window_base q before + (window_end behind - window_start before)
end_late q true true some = let positive : 0 < q = some refl in omega arith
end_late q true false some = let positive : 0 < q = some refl in omega arith
end_late q false true some = omega arith
end_late q false false some = omega arith

starts_early : (before behind : Bool) → window_start before ≤ window_end behind
starts_early true true = omega arith
starts_early true false = omega arith
starts_early false true = omega arith
starts_early false false = omega arith

ends_within : (xs : List ℕ) (behind : Bool) → length xs ≡ 12288 → window_end behind ≤ length xs
ends_within xs true e = omega arith
ends_within xs false e = omega arith

pub window_scan : (trust : TrustValue) (xs : List ℕ) (rights : RightsMap) (bytes : ByteMap) (q : ℕ)
    (before behind : Bool) (r : Option Found) → length xs ≡ 12288 → HoldsPages xs bytes q
    → Beside rights q before behind
    → (let code = slice_range xs (window_start before) (window_end behind) in
    let w = laid_at (window_base q before) code in
    IsFirstUnsafe trust w (window_base q before + window_from before)
    (window_base q before + length code) r
    → IsScan trust (code_with rights bytes q) w q (window_base q before + window_from before)
    (window_base q before + length code) r)
window_scan trust xs rights bytes q before behind r long h b first =
    let some = starts_before rights q before behind b in
    record {
      agrees = window_agrees xs rights bytes q before behind long h b;
      close = (from_close q before some).0;
      early = (from_close q before some).1;
      late = rw (part_long xs (window_start before) (window_end behind)
          (starts_early before behind) (ends_within xs behind long))
          (end_late q before behind some);
      absent = code_starts rights bytes q before behind b;
      first = first;
    }
