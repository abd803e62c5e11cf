-- A MOV in two, and when no sequence occurs in bytes.
use Rattle.std.proofs.Common.{◌≡◌, ℕ, zero, suc, ◌+◌, ◌<◌, ◌≤◌, ◌++◌, ◌∙◌, List, length, Option}
use Rattle.std.proofs.Common.{Some, None, Bool, true, false, cond, refl, sym}
use Rattle.std.proofs.Common.{ap, arith, inl, inr, ◌-◌, take, drop, append_assoc}
use Rattle.std.proofs.Math.Seq.{drop-append_seam, take-append_seam}
use Rattle.std.proofs.lemmas.List.{append-nil, length-drop, take_all}
use Rattle.std.specs.Prelude.{is_none, is_some, nat_lt, ◌&&◌}
use Rattle.std.proofs.lemmas.Bool.{cases_lt}
use Rattle.erim_defs.specs.declared.found.Found.{Found}
use Rattle.erim_defs.specs.declared.insn.Insn.{Insn}
use Rattle.erim_defs.specs.Inspection.Code.{Code, laid_at}
use Rattle.erim_defs.specs.Inspection.Occurrence.{occurrence_at, IsFirstFrom}
use Rattle.erim_defs.specs.Inspection.Unsafe.{first_below}
use Rattle.erim_defs.specs.Encoding.Canonical.{canonical_encoding}
use Rattle.erim_defs.specs.Rewriting.Copies.{adding, if_quiet, is_quiet, less, split, split_by}
use Rattle.erim_defs.specs.Rewriting.Copies.{split_with}
use Rattle.erim_defs.proofs.CodeLemmas.{laid_at_past}
use Rattle.erim_defs.proofs.LeastLemmas.{least_found, least_none}
use Rattle.erim_defs.proofs.UnsafeLemmas.{first_below_none, none_first_below}
use Rattle.run_copies.specs.Spelling.{split_bytes}

-- ---- when bytes are quiet

absent : (c : Code) (a : ℕ) → c a ≡ None → occurrence_at c a ≡ None
unfolding occurrence_at
absent c a none = rw none refl

pub quiet_from : (bytes : List ℕ) (o : Option Found) → IsFirstFrom (laid_at 0 bytes) 0 o
    → is_none o ≡ is_quiet bytes
unfolding is_quiet
quiet_from bytes None h =
    rw (none_first_below (length bytes) (occurrence_at (laid_at 0 bytes))
    (λ a l. h a (omega arith)))
    refl
quiet_from bytes (Some o) h =
    by (first_below (length bytes) (occurrence_at (laid_at 0 bytes))) refl
  where
    by : (r : Option Found) → first_below (length bytes) (occurrence_at (laid_at 0 bytes)) ≡ r
        → false ≡ is_none r
    by (Some x) e = refl
    by None e = elim (cases_lt o.at (length bytes)) [
      | inl l ↦
          absurd (let none = first_below_none (length bytes) (occurrence_at (laid_at 0 bytes))
          o.at e l
          in let there = h.1 in cc)
      | inr past ↦
          absurd (let none = absent (laid_at 0 bytes) o.at (laid_at_past 0 o.at bytes
          (omega (arith, past))) in
          let there = h.1 in cc)
    ]

-- ---- a MOV in two by d

pub split_less_none : (insn : Insn) (d : ℕ) → less d insn ≡ None → split_by insn d ≡ None
unfolding split_by
split_less_none insn d h = rw h refl

if_quiet_is : (x y : List ℕ) (b : Bool) → is_quiet (x ++ y) ≡ b
    → if_quiet (x, y) ≡ cond b (Some (x, y)) None
if_quiet_is x y b h = rw h refl

split_if : (insn mov lea : Insn) (d : ℕ) (b : Bool) → less d insn ≡ Some mov
    → lea ≡ adding d insn → is_quiet (canonical_encoding mov ++ canonical_encoding lea) ≡ b
    → split_by insn d ≡ cond b (Some (canonical_encoding mov, canonical_encoding lea)) None
unfolding split_by
split_if insn mov lea d b h is quiet =
    rw (h, ← is) (if_quiet_is (canonical_encoding mov) (canonical_encoding lea) b quiet)

-- ---- the least d

abbrev test : Insn → ℕ → Bool
test insn d = nat_lt 0 d && is_some (split_by insn d)

positive : (d : ℕ) → 0 < d → nat_lt 0 d ≡ true
positive d p = grind (arith, p)

tested : (insn : Insn) (d : ℕ) → 0 < d → test insn d ≡ is_some (split_by insn d)
tested insn d p = rw (positive d p) refl

-- none was found from 1 up to d
pub record NoneBelow (insn : Insn) (d : ℕ) : Type 0 where
  pub none : (k : ℕ) → 0 < k → k < d → is_some (split_by insn k) ≡ false

pub none_at_first : (insn : Insn) → NoneBelow insn 1
none_at_first insn = record { none = λ k p l. absurd (omega (arith, p, l)) }

pub none_more : (insn : Insn) (d : ℕ) → NoneBelow insn d → is_some (split_by insn d) ≡ false
    → NoneBelow insn (d + 1)
none_more insn d below h = record {
  none = λ k p l. elim (cases_lt k d) [
    | inl m ↦ below.none k p m
    | inr m ↦ (let e : k ≡ d = omega (arith, l, m) in rw e h)
  ];
}

fails_below : (insn : Insn) (d k : ℕ) → NoneBelow insn d → k < d → test insn k ≡ false
fails_below insn d zero below l = refl
fails_below insn d (suc k) below l =
    tested insn (suc k) (omega arith) ∙ below.none (suc k) (omega arith) l

pub split_found : (insn : Insn) (d : ℕ) → NoneBelow insn d → 0 < d → d < 128
    → is_some (split_by insn d) ≡ true → split insn ≡ split_by insn d
unfolding split
split_found insn d below p l h =
    ap (split_with insn) (least_found 128 d (test insn) l (tested insn d p ∙ h)
    (λ k b. fails_below insn d k below b))

pub split_never : (insn : Insn) → NoneBelow insn 128 → split insn ≡ None
unfolding split
split_never insn below =
    ap (split_with insn) (least_none 128 (test insn) (λ k l. fails_below insn 128 k below l))

-- ---- after other bytes

-- what stands after the first ones, as a slice
tail_of : (front x y all : List ℕ) (start : ℕ) → all ≡ (front ++ x) ++ y
    → start ≡ length front → take (length all - start) (drop start all) ≡ x ++ y
tail_of front x y all start e s =
    let parts : all ≡ front ++ (x ++ y) = e ∙ append_assoc front x y in
    let behind : drop start all ≡ x ++ y =
    rw (parts, s) (drop-append_seam front (x ++ y)) in
    let enough : length (drop start all) ≤ length all - start = omega (arith, length-drop start all)
    in
    take_all (length all - start) (drop start all) enough ∙ behind

-- MOV and LEA stand after the first ones, and it was asked whether they are quiet
pub split_asked : (insn mov lea : Insn) (d : ℕ) (front b1 b2 all : List ℕ) (start : ℕ)
    (asked b : Bool) → less d insn ≡ Some mov → lea ≡ adding d insn
    → b1 ≡ front ++ canonical_encoding mov → b2 ≡ b1 ++ canonical_encoding lea → all ≡ b2
    → start ≡ length front → asked ≡ is_quiet (take (length all - start) (drop start all))
    → asked ≡ b
    → split_by insn d ≡ cond b (Some (canonical_encoding mov, canonical_encoding lea)) None
split_asked insn mov lea d front b1 b2 all start asked b h is e1 e2 e s q known =
    let both : all ≡ (front ++ canonical_encoding mov) ++ canonical_encoding lea =
    e ∙ (e2 ∙ ap (λ xs. xs ++ canonical_encoding lea) e1) in
    split_if insn mov lea d b h is
    (ap is_quiet (sym (tail_of front (canonical_encoding mov) (canonical_encoding lea) all start
    both s))
    ∙ (sym q ∙ known))

pub front_of : (front b1 b2 x y : List ℕ) (start : ℕ) → b1 ≡ front ++ x → b2 ≡ b1 ++ y
    → start ≡ length front → take start b2 ≡ front
front_of front b1 b2 x y start e1 e2 s =
    rw (e2 ∙ (ap (λ xs. xs ++ y) e1 ∙ append_assoc front x y), s) (take-append_seam front (x ++ y))

pub some_split : (front b1 b2 x y : List ℕ) (o : Option (List ℕ × List ℕ)) → b1 ≡ front ++ x
    → b2 ≡ b1 ++ y → o ≡ Some (x, y) → b2 ≡ front ++ split_bytes o
some_split front b1 b2 x y o e1 e2 h =
    rw h (e2 ∙ (ap (λ xs. xs ++ y) e1 ∙ append_assoc front x y))

pub no_split : (front all : List ℕ) (o : Option (List ℕ × List ℕ)) → all ≡ front → o ≡ None
    → all ≡ front ++ split_bytes o
no_split front all o e h = rw h (e ∙ sym (append-nil front))
