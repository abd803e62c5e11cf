-- The test for bytes that no sequence touches.
use Rattle.std.proofs.Common.{◌≡◌, ◌<◌, ◌≤◌, ◌+◌, ◌-◌, ℕ, zero, suc, not, Bool, true, false, Option}
use Rattle.std.proofs.Common.{Some, None, refl, sym, ap, ◌∙◌, arith, inl, inr}
use Rattle.std.proofs.lemmas.Bool.{and_parts, lt-ltb, le-ltb, cases_lt}
use Rattle.erim_defs.specs.declared.found.Found.{Found}
use Rattle.erim_defs.specs.Inspection.Code.{Code}
use Rattle.erim_defs.specs.Inspection.Occurrence.{occurrence_at}
use Rattle.erim_defs.specs.Rewriting.Layout.{goes_past, reaches, none_from, is_untouched}
use Rattle.rewriting_laws.specs.QuietLaws.{UntouchedLaw, TouchedLaw}
use Rattle.erim_defs.proofs.OccurrenceLemmas.{occurrence_facts}

not_true : (b : Bool) → not b ≡ true → b ≡ false
not_true true h = absurd cc
not_true false h = refl

pub none_from_means : (a n : ℕ) (test : ℕ → Bool) → none_from a n test ≡ true → (x : ℕ) → a ≤ x
    → x < a + n → test x ≡ false
unfolding none_from
none_from_means a zero test h x low high = absurd (omega (arith, low, high))
none_from_means a (suc n) test h x low high =
    let p = and_parts (not (test a)) (none_from (suc a) n test) h in
    elim (cases_lt a x) [
      | inl later ↦ none_from_means (suc a) n test p.1 x (omega (arith, later))
          (omega (arith, high))
      | inr here ↦ (let e : x ≡ a = omega (arith, here, low) in rw e (not_true (test a) p.0))
    ]

pub reaches_true : (c : Code) (low : ℕ) (o : Found) → occurrence_at c o.at ≡ Some o
    → low < o.at + o.len → reaches c low o.at ≡ true
reaches_true c low o h lt = rw h (lt-ltb low (o.at + o.len) lt)

pub untouched_means : UntouchedLaw
unfolding is_untouched
untouched_means c low high h a from before t =
    let f = occurrence_facts c t.found.at t.found t.occurs in
    let yes = reaches_true c low t.found t.occurs (omega (arith, t.high, from)) in
    let no = none_from_means (low - 8) (high - (low - 8)) (reaches c low) h t.found.at
    (omega (arith, f.few, t.high, from)) (omega (arith, t.low, before, from)) in
    let e : true ≡ false = sym yes ∙ no in
    absurd cc

none_from_all : (a n : ℕ) (test : ℕ → Bool) → ((x : ℕ) → a ≤ x → x < a + n → test x ≡ false)
    → none_from a n test ≡ true
unfolding none_from
none_from_all a zero test h = refl
none_from_all a (suc n) test h = rw (h a (omega arith) (omega arith))
    (none_from_all (suc a) n test (λ x l u. h x (omega (arith, l)) (omega (arith, u))))

past_view : (low : ℕ) (o : Option Found) → goes_past low o ≡ true → (f : Found) × (o ≡ Some f)
    × (low < f.at + f.len)
past_view low None h = absurd cc
past_view low (Some f) h = elim (cases_lt low (f.at + f.len)) [
  | inl lt ↦ (f, refl, lt)
  | inr le ↦ absurd (let e : true ≡ false = sym h ∙ le-ltb low (f.at + f.len) le in cc)
]

pub touched_means : TouchedLaw
unfolding is_untouched
touched_means c low high some un = none_from_all (low - 8) (high - (low - 8)) (reaches c low)
    (λ x l u. by x (omega (arith, u, l)) (reaches c low x) refl)
  where
    by : (x : ℕ) → x < high → (b : Bool) → reaches c low x ≡ b → reaches c low x ≡ false
    by x before false e = e
    by x before true e =
        let v = past_view low (occurrence_at c x) e in
        let f = occurrence_facts c x v.0 v.1 in
        let occurs : occurrence_at c v.0.at ≡ Some v.0 = ap (occurrence_at c) f.place ∙ v.1 in
        elim (cases_lt x low) [
          | inl less ↦ absurd (un low (omega arith) some
              (record {
                found = v.0;
                occurs = occurs;
                low = omega (arith, f.place, less);
                high =
                    v.2;
              }))
          | inr from ↦ absurd (un x from before (record {
            found = v.0;
            occurs = occurs;
            low =
                omega (arith, f.place);
            high = omega (arith, f.place, f.many);
          }))
        ]
