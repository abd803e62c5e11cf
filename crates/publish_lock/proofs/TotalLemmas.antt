-- The totals of the ledgers are the steps of the workers.
use Rattle.std.proofs.Common.{◌≡◌, ◌≢◌, ◌<◌, ◌≤◌, ◌+◌, ◌-◌, ◌^◌, ◌∷◌, ◌∙◌, ◌&&◌, ℕ, zero, suc}
use Rattle.std.proofs.Common.{List, [], Bool, true, length, get_or, set, refl, sym, ap, arith}
use Rattle.std.proofs.Common.{eq-eqb}
use Rattle.std.proofs.lemmas.Bool.{eqb-true, and_parts}
use Rattle.std.specs.Prelude.{slice_index}
use Rattle.erim_defs.specs.declared.machine.Entry.{Entry}
use Rattle.erim_defs.specs.Output.Report.{steps_of_worker}
use Rattle.publish_lock.specs.Rules.{counts_of}
use Rattle.publish_lock.specs.Totals.{are_counted, total_of, with_steps}

total_at : (first i : ℕ) (totals : List ℕ) (es : List Entry)
    → are_counted first totals es ≡ true → i < length totals
    → get_or totals i 0 ≡ steps_of_worker es (first + i)
total_at first i [] es h low = absurd (omega arith)
total_at first zero (t ∷ ts) es h low =
    let same : first ≡ first + 0 = omega arith in
    eqb-true t (steps_of_worker es first) (and_parts _ _ h).0 ∙ ap (steps_of_worker es) same
total_at first (suc i) (t ∷ ts) es h low =
    let same : suc first + i ≡ first + suc i = omega arith in
    total_at (suc first) i ts es (and_parts _ _ h).1 (omega (arith, low))
    ∙ ap (steps_of_worker es) same

-- where these workers made no step
counted_still : (first : ℕ) (totals : List ℕ) (old new : List Entry)
    → are_counted first totals old ≡ true
    → ((w : ℕ) → first ≤ w → steps_of_worker new w ≡ steps_of_worker old w)
    → are_counted first totals new ≡ true
counted_still first [] old new h same = refl
counted_still first (t ∷ ts) old new h same =
    let head : t ≡ steps_of_worker new first =
    eqb-true t (steps_of_worker old first) (and_parts _ _ h).0
    ∙ sym (same first (omega arith)) in
    rw (eq-eqb t (steps_of_worker new first) head)
    (counted_still (suc first) ts old new (and_parts _ _ h).1
    (λ w later. same w (omega (arith, later))))

-- where one of them did
counted_set : (first i n : ℕ) (totals : List ℕ) (old new : List Entry)
    → are_counted first totals old ≡ true
    → steps_of_worker new (first + i) ≡ steps_of_worker old (first + i) + n
    → ((w : ℕ) → w ≢ first + i → steps_of_worker new w ≡ steps_of_worker old w)
    → are_counted first (set totals i (get_or totals i 0 + n)) new ≡ true
counted_set first i n [] old new h own other = refl
counted_set first zero n (t ∷ ts) old new h own other =
    let same : first + 0 ≡ first = omega arith in
    let before : t ≡ steps_of_worker old first =
    eqb-true t (steps_of_worker old first) (and_parts _ _ h).0 in
    let after : steps_of_worker new first ≡ steps_of_worker old first + n = rw same at own in
    let head : t + n ≡ steps_of_worker new first = omega (arith, before, after) in
    rw (eq-eqb (t + n) (steps_of_worker new first) head)
    (counted_still (suc first) ts old new (and_parts _ _ h).1
    (λ w later. other w (λ is. absurd (omega (arith, later, is)))))
counted_set first (suc i) n (t ∷ ts) old new h own other =
    let same : first + suc i ≡ suc first + i = omega arith in
    let head : t ≡ steps_of_worker new first =
    eqb-true t (steps_of_worker old first) (and_parts _ _ h).0
    ∙ sym (other first (λ is. absurd (omega (arith, is)))) in
    rw (eq-eqb t (steps_of_worker new first) head)
    (counted_set (suc first) i n ts old new (and_parts _ _ h).1 (rw same at own)
    (λ w apart. other w (λ is. apart (is ∙ same))))

-- a worker's total
pub total_is : (totals : List ℕ) (es : List Entry) (w : ℕ) → are_counted 1 totals es ≡ true
    → length totals ≡ 8 → 0 < w → w ≤ 8 → total_of totals w ≡ steps_of_worker es w
total_is totals es w h eight some few =
    let same : 1 + (w - 1) ≡ w = omega (arith, some) in
    total_at 1 (w - 1) totals es h (omega (arith, eight, some, few))
    ∙ ap (steps_of_worker es) same

-- so there is room for the steps that it made
pub total_fits : (totals : List ℕ) (old new : List Entry) (w n : ℕ)
    → are_counted 1 totals old ≡ true → length totals ≡ 8 → 0 < w → w ≤ 8
    → steps_of_worker new w ≡ steps_of_worker old w + n → steps_of_worker new w < 2 ^ 32
    → total_of totals w + n < 2 ^ 32
total_fits totals old new w n h eight some few made fits =
    let total = total_is totals old w h eight some few in
    omega (arith, total, made, fits)

-- and the totals with them are counted
pub counted_more : (totals next : List ℕ) (old new : List Entry) (w n : ℕ)
    → are_counted 1 totals old ≡ true → 0 < w
    → steps_of_worker new w ≡ steps_of_worker old w + n
    → ((v : ℕ) → v ≢ w → steps_of_worker new v ≡ steps_of_worker old v)
    → next ≡ with_steps totals w n → are_counted 1 next new ≡ true
counted_more totals next old new w n h some made other is =
    let same : w ≡ 1 + (w - 1) = omega (arith, some) in
    let own : steps_of_worker new (1 + (w - 1)) ≡ steps_of_worker old (1 + (w - 1)) + n =
    ap (steps_of_worker new) (sym same) ∙ made ∙ ap (λ v. steps_of_worker old v + n) same in
    ap (λ ts. are_counted 1 ts new) is
    ∙ counted_set 1 (w - 1) n totals old new h own (λ v apart. other v (λ e. apart (e ∙ same)))

-- the count of a worker
counts_at : (es : List Entry) (w : ℕ) → w ≤ 8 → slice_index (counts_of es) w ≡ steps_of_worker es w
counts_at es zero low = refl
counts_at es (suc zero) low = refl
counts_at es (suc (suc zero)) low = refl
counts_at es (suc (suc (suc zero))) low = refl
counts_at es (suc (suc (suc (suc zero)))) low = refl
counts_at es (suc (suc (suc (suc (suc zero))))) low = refl
counts_at es (suc (suc (suc (suc (suc (suc zero)))))) low = refl
counts_at es (suc (suc (suc (suc (suc (suc (suc zero))))))) low = refl
counts_at es (suc (suc (suc (suc (suc (suc (suc (suc zero)))))))) low = refl
counts_at es (suc (suc (suc (suc (suc (suc (suc (suc (suc k))))))))) low =
    absurd (omega (arith, low))

-- what a seat has made is the count of its worker
pub seat_counted : (counts totals : List ℕ) (es : List Entry) (w amount : ℕ)
    → counts ≡ counts_of es → are_counted 1 totals es ≡ true → length totals ≡ 8 → 0 < w → w ≤ 8
    → total_of totals w ≡ amount → slice_index counts w ≡ amount
seat_counted counts totals es w amount is h eight some few total =
    ap (λ cs. slice_index cs w) is ∙ counts_at es w few
    ∙ sym (total_is totals es w h eight some few) ∙ total
