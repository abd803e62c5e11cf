-- What a call may not touch, tested by the spans of trusted text and by the threads.
use Rattle.std.proofs.Common.{◌≡◌, ◌<◌, ◌≤◌, ◌^◌, ℕ, ◌+◌, ◌-◌, ◌*◌, ◌/◌, ◌&&◌, ◌||◌, Bool, true}
use Rattle.std.proofs.Common.{false, nat_lt, nat_le, min, List, [], ◌∷◌, Some, refl, sym, ap, ◌∙◌}
use Rattle.std.proofs.Common.{arith}
use Rattle.std.specs.List.{list_any}
use Rattle.std.specs.Int.{div_ceil}
use Rattle.std.proofs.lemmas.Bool.Decides.{nat_tests}
use Rattle.erim_defs.specs.declared.found.Found.{Found}
use Rattle.erim_defs.specs.declared.machine.Thread.{Thread}
use Rattle.erim_defs.specs.declared.trust.Span.{Span}
use Rattle.erim_defs.specs.Inspection.Trust.{TrustValue, spans}
use Rattle.erim_defs.specs.Machine.MapCalls.{any_page, PageRange, is_pinned, has_byte_on}
use Rattle.erim_defs.specs.Machine.Least.{any_below}
use Rattle.erim_defs.specs.Machine.Pages.{RightsMap}
use Rattle.erim_defs.specs.Machine.MapCalls.{is_denied_page, is_protected}
use Rattle.map_calls.specs.Guards.{meets_span, pins}
use Rattle.map_calls.proofs.RangeLemmas.{any_page_none, any_page_same, any_below_either}

-- ---- trusted text

pub texts_any : (r : PageRange) (texts : List Span)
    → any_page r (λ q. list_any (spans (4096 * q)) texts) ≡ list_any (meets_span r) texts
texts_any r [] = any_page_none r (λ q. false) (λ q low high. refl)
texts_any r (t ∷ ts) =
    any_below_either r.count (λ k. spans (4096 * (r.first + k)) t)
    (λ k. list_any (spans (4096 * (r.first + k))) ts)
    ∙ ap (λ b. meets_span r t || b) (texts_any r ts)

-- whether a range is protected, by the two tests
pub protects_by : (trust : TrustValue) (rights : RightsMap) (pkru : ℕ) (r : PageRange)
    (text keyed : Bool) → text ≡ list_any (meets_span r) trust.texts
    → keyed ≡ any_page r (λ q. is_denied_page trust pkru (rights q))
    → (text || keyed) ≡ is_protected trust rights pkru r
protects_by trust rights pkru r text keyed is_text is_keyed =
    rw (is_text, is_keyed)
    (ap (λ b. b || any_page r (λ q. is_denied_page trust pkru (rights q))) (sym
    (texts_any r trust.texts)))

ceil_le : (x q : ℕ) → nat_le (div_ceil x 4096) q ≡ nat_le x (4096 * q)
ceil_le x q = grind (arith, nat_tests)

ceil_lt : (x q : ℕ) → nat_lt q (div_ceil x 4096) ≡ nat_lt (4096 * q) x
ceil_lt x q = grind (arith, nat_tests)

-- a sum that stays below 2^64 says the same of user memory
capped : (x q : ℕ) → q < 2 ^ 35 → nat_lt (4096 * q) (min x (2 ^ 64 - 1)) ≡ nat_lt (4096 * q) x
capped x q low = grind (arith, nat_tests)

pub span_pages : (r : PageRange) (s : Span) (low sum end : ℕ) → r.first + r.count ≤ 2 ^ 35
    → low ≡ div_ceil s.start 4096 → sum ≡ min (s.start + s.length) (2 ^ 64 - 1)
    → end ≡ div_ceil sum 4096
    → meets_span r s ≡ any_page r (λ q. nat_le low q && nat_lt q end)
span_pages r s low sum end user is_low is_sum is_end =
    any_page_same r (λ q. spans (4096 * q) s) (λ q. nat_le low q && nat_lt q end) (λ q from to.
    let first : nat_le low q ≡ nat_le s.start (4096 * q) =
    ap (λ x. nat_le x q) is_low ∙ ceil_le s.start q in
    let last : nat_lt q end ≡ nat_lt (4096 * q) (s.start + s.length) =
    ap (λ x. nat_lt q x) is_end ∙ (ceil_lt sum q ∙ (ap (λ x. nat_lt (4096 * q) x) is_sum
    ∙ capped (s.start + s.length) q (omega arith))) in
    rw (first, last) refl)

-- ---- origins

all_or_none : (r : PageRange) (b : Bool) (test : ℕ → Bool)
    → any_page r (λ q. b && test q) ≡ (b && any_page r test)
all_or_none r true test = refl
all_or_none r false test = any_page_none r (λ q. false) (λ q low high. refl)

pub pins_any : (r : PageRange) (ts : List Thread)
    → any_page r (is_pinned ts) ≡ list_any (pins r) ts
unfolding is_pinned
pins_any r [] = any_page_none r (λ q. false) (λ q low high. refl)
pins_any r (t ∷ ts) =
    any_below_either r.count (λ k. t.live && has_byte_on t.origin (r.first + k))
    (λ k. is_pinned ts (r.first + k))
    ∙ (ap (λ b. b || any_page r (is_pinned ts)) (all_or_none r t.live (has_byte_on t.origin))
    ∙ ap (λ b. pins r t || b) (pins_any r ts))

last_capped : (x q : ℕ) → q < 2 ^ 35
    → nat_le q ((x - 1) / 4096) ≡ nat_lt q ((min x (2 ^ 64 - 1) - 1) / 4096 + 1)
last_capped x q low = grind (arith, nat_tests)

pub origin_pages : (r : PageRange) (o : Found) (sum last : ℕ) → r.first + r.count ≤ 2 ^ 35
    → sum ≡ min (o.at + o.len) (2 ^ 64 - 1) → last ≡ sum - 1
    → any_page r (has_byte_on (Some o))
    ≡ any_page r (λ q. nat_le (o.at / 4096) q && nat_lt q (last / 4096 + 1))
origin_pages r o sum last user is_sum is_last =
    any_page_same r (has_byte_on (Some o))
    (λ q. nat_le (o.at / 4096) q && nat_lt q (last / 4096 + 1)) (λ q from to.
    let e : last ≡ min (o.at + o.len) (2 ^ 64 - 1) - 1 = omega arith in
    ap (λ b. nat_le (o.at / 4096) q && b) (last_capped (o.at + o.len) q (omega arith)
    ∙ ap (λ x. nat_lt q (x / 4096 + 1)) (sym e)))

-- one page
one_page : (test : ℕ → Bool) (q : ℕ) → any_page (record { first = q; count = 1 }) test ≡ test q
unfolding any_below
one_page test q = let here : q + 0 ≡ q = omega arith in rw here (by (test q))
  where
    by : (b : Bool) → (b || false) ≡ b
    by true = refl
    by false = refl

pub one_pinned : (ts : List Thread) (q : ℕ)
    → list_any (pins (record { first = q; count = 1 })) ts ≡ is_pinned ts q
one_pinned ts q =
    sym (pins_any (record { first = q; count = 1 }) ts) ∙ one_page (is_pinned ts) q
