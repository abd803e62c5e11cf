-- What an occurrence is, and which bytes decide it.
use Rattle.std.proofs.Common.{◌≡◌, ℕ, zero, suc, ◌+◌, ◌-◌, ◌/◌, ◌%◌, ◌<◌, ◌≤◌, ◌⊎◌, ◌&&◌, ◌||◌}
use Rattle.std.proofs.Common.{◌==◌, nat_lt, List, length, arith, Option, Some, None, is_some, Bool}
use Rattle.std.proofs.Common.{true, false, cond, refl, sym, ap, ◌∙◌, eqb-true, inl, inr}
use Rattle.std.proofs.lemmas.Bool.{and_parts, and_from, cases_Bool, ltb-true}
use Rattle.erim_defs.specs.declared.found.SeqKind.TheVariants.{Wrpkru, Xrstor}
use Rattle.erim_defs.specs.declared.found.Found.{Found}
use Rattle.erim_defs.specs.Inspection.Code.{Code, has, laid_at, or_else}
use Rattle.erim_defs.specs.Inspection.Occurrence.{occurrence_at, are_present, byte_or_zero}
use Rattle.erim_defs.specs.Inspection.Occurrence.{is_xrstor_modrm, wrpkru_at, xrstor_at}
use Rattle.erim_defs.specs.Inspection.Occurrence.{xrstor_with, xrstor_len}
use Rattle.erim_defs.specs.Encoding.Operand.{has_sib, disp_size}
use Rattle.erim_defs.proofs.CodeLemmas.{laid_at_inside}

-- ---- how long an XRSTOR is

cond_most : (b : Bool) (x y n : ℕ) → x ≤ n → y ≤ n → cond b x y ≤ n
cond_most true x y n h k = h
cond_most false x y n h k = k

disp_size_few : (m sib : ℕ) → disp_size m sib ≤ 4
unfolding disp_size
disp_size_few m sib =
    cond_most (m / 64 == 0) _ _ 4 (cond_most (m % 8 == 5 || (m % 8 == 4 && sib % 8 == 5)) 4 0 4
    (omega arith) (omega arith))
    (cond_most (m / 64 == 1) _ _ 4 (omega arith)
    (cond_most (m / 64 == 2) 4 0 4 (omega arith) (omega arith)))

-- it has 3 to 8 bytes
pub xrstor_few : (m sib : ℕ) → xrstor_len m sib ≤ 8
xrstor_few m sib =
    omega (arith, disp_size_few m sib, cond_most (has_sib m) 1 0 1 (omega arith) (omega arith))

pub xrstor_many : (m sib : ℕ) → 3 ≤ xrstor_len m sib
xrstor_many m sib = omega arith

-- without a SIB byte, the byte after ModRM doesn't matter
pub without_sib : (m s t : ℕ) → is_xrstor_modrm m ≡ true → has_sib m ≡ false
    → xrstor_len m s ≡ xrstor_len m t
unfolding has_sib disp_size
without_sib m s t h none =
    let below : m < 192 = ltb-true m 192 (and_parts (m / 8 % 8 == 5) (nat_lt m 192) h).1 in
    let memory : (m / 64 == 3) ≡ false = grind (arith, below) in
    let four : (m % 8 == 4) ≡ false = rw memory at none in
    rw four refl

-- with one it has 4 bytes at least
with_sib : (m s : ℕ) → has_sib m ≡ true → 4 ≤ xrstor_len m s
with_sib m s h = rw h (omega arith)

-- ---- bytes that are present

-- two codes have the same bytes from an address to another
abbrev pub Agrees : Code → Code → ℕ → ℕ → Type 0
Agrees c d low high = (a : ℕ) → low ≤ a → a < high → c a ≡ d a

are_present_agrees : (c d : Code) (a n : ℕ) → Agrees c d a (a + n)
    → are_present c a n ≡ are_present d a n
unfolding are_present
are_present_agrees c d a zero same = refl
are_present_agrees c d a (suc n) same =
    rw (
      same a (omega arith) (omega arith),
      are_present_agrees c d (suc a) n (λ x low high. same x (omega arith) (omega arith)),
    ) refl

-- each of them
present_at : (c : Code) (a n x : ℕ) → are_present c a n ≡ true → a ≤ x → x < a + n
    → is_some (c x) ≡ true
unfolding are_present
present_at c a zero x h low high = absurd (omega arith)
present_at c a (suc n) x h low high = elim (cases_Bool (x == a)) [
  | inl here ↦ rw (eqb-true _ _ here) (and_parts _ _ h).0
  | inr other ↦
      present_at c (suc a) n x (and_parts _ _ h).1 (grind (arith, other)) (omega arith)
]

-- all of them
pub present_from : (c : Code) (a n : ℕ) → ((x : ℕ) → a ≤ x → x < a + n → is_some (c x) ≡ true)
    → are_present c a n ≡ true
unfolding are_present
present_from c a zero h = refl
present_from c a (suc n) h =
    and_from _ _ (h a (omega arith) (omega arith))
    (present_from c (suc a) n (λ x low high. h x (omega arith) (omega arith)))

-- ---- what an occurrence is

-- what stands after 0F
pub data OccursAs (c : Code) (a : ℕ) (o : Found) : Type 0 where
  AsWrpkru : c (a + 1) ≡ Some 0x01 → c (a + 2) ≡ Some 0xEF
      → o ≡ record { at = a; len = 3; kind = Wrpkru } → OccursAs c a o
  AsXrstor : (m : ℕ) → c (a + 1) ≡ Some 0xAE → c (a + 2) ≡ Some m → is_xrstor_modrm m ≡ true
      → are_present c a (xrstor_len m (byte_or_zero (c (a + 3)))) ≡ true
      → o ≡ record { at = a; len = xrstor_len m (byte_or_zero (c (a + 3))); kind = Xrstor }
      → OccursAs c a o

pub record Occurs (c : Code) (a : ℕ) (o : Found) : Type 0 where
  pub first : c a ≡ Some 0x0F
  pub rest : OccursAs c a o

cond_some : {X : Type 0} (b : Bool) (x : Option X) (o : X) → cond b x None ≡ Some o
    → (b ≡ true) × (x ≡ Some o)
cond_some true x o h = (refl, h)
cond_some false x o h = absurd cc

has_is : (o : Option ℕ) (x : ℕ) → has o x ≡ true → o ≡ Some x
has_is None x h = absurd cc
has_is (Some y) x h = ap Some (eqb-true _ _ h)

else_some : (u v : Option Found) (o : Found) → or_else u v ≡ Some o → (u ≡ Some o) ⊎ (v ≡ Some o)
else_some None v o h = inr h
else_some (Some x) v o h = inl h

wrpkru_view : (c : Code) (a : ℕ) (o : Found) → wrpkru_at c a ≡ Some o → OccursAs c a o
wrpkru_view c a o h =
    let made : Found = record { at = a; len = 3; kind = Wrpkru } in
    let p = cond_some (has (c (a + 1)) 0x01 && has (c (a + 2)) 0xEF) (Some made) o h in
    let both = and_parts _ _ p.0 in
    AsWrpkru (has_is _ _ both.0) (has_is _ _ both.1) (let e : Some made ≡ Some o = p.1 in cc)

xrstor_view : (c : Code) (a : ℕ) (o : Found) → xrstor_at c a ≡ Some o → OccursAs c a o
xrstor_view c a o h =
    let p = cond_some (has (c (a + 1)) 0xAE) (xrstor_with (c (a + 2)) c a) o h in
    by (c (a + 2)) refl (has_is _ _ p.0) p.1
  where
    by : (third : Option ℕ) → c (a + 2) ≡ third → c (a + 1) ≡ Some 0xAE
        → xrstor_with third c a ≡ Some o → OccursAs c a o
    by None e second k = absurd cc
    by (Some m) e second k =
        let made : Found =
        record { at = a; len = xrstor_len m (byte_or_zero (c (a + 3))); kind = Xrstor } in
        let p = cond_some (is_xrstor_modrm m
        && are_present c a (xrstor_len m (byte_or_zero (c (a + 3))))) (Some made) o k in
        let both = and_parts _ _ p.0 in
        AsXrstor m second e both.0 both.1 (let f : Some made ≡ Some o = p.1 in cc)

pub occurrence_view : (c : Code) (a : ℕ) (o : Found) → occurrence_at c a ≡ Some o → Occurs c a o
unfolding occurrence_at
occurrence_view c a o h =
    let p = cond_some (has (c a) 0x0F) (or_else (wrpkru_at c a) (xrstor_at c a)) o h in
    record {
      first = has_is _ _ p.0;
      rest = elim (else_some (wrpkru_at c a) (xrstor_at c a) o p.1) [
        | inl w ↦ wrpkru_view c a o w
        | inr x ↦ xrstor_view c a o x
      ];
    }

pub occurrence_from : (c : Code) (a : ℕ) (o : Found) → Occurs c a o → occurrence_at c a ≡ Some o
unfolding occurrence_at
occurrence_from c a o w = by w.rest
  where
    by : OccursAs c a o → occurrence_at c a ≡ Some o
    by (AsWrpkru second third is) = rw (w.first, second, third) (ap Some (sym is))
    by (AsXrstor m second third memory there is) =
        rw (w.first, second, third, memory, there) (ap Some (sym is))

-- it is where it was looked for
pub occurrence_place : (c : Code) (a : ℕ) (o : Found) → occurrence_at c a ≡ Some o → o.at ≡ a
occurrence_place c a o h = by (occurrence_view c a o h).rest
  where
    by : OccursAs c a o → o.at ≡ a
    by (AsWrpkru second third is) = ap (λ (f : Found). f.at) is
    by (AsXrstor m second third memory there is) = ap (λ (f : Found). f.at) is

-- how long it is
pub record IsFew (n : ℕ) : Type 0 where
  pub many : 3 ≤ n
  pub few : n ≤ 8

few_along : (n m : ℕ) → n ≡ m → 3 ≤ m → m ≤ 8 → IsFew n
few_along n m e low high = record { many = omega arith; few = omega arith }

pub occurrence_few : (c : Code) (a : ℕ) (o : Found) → occurrence_at c a ≡ Some o → IsFew o.len
occurrence_few c a o h = by (occurrence_view c a o h).rest
  where
    by : OccursAs c a o → IsFew o.len
    by (AsWrpkru second third is) =
        few_along o.len 3 (ap (λ (f : Found). f.len) is) (omega arith) (omega arith)
    by (AsXrstor m second third memory there is) =
        few_along o.len (xrstor_len m (byte_or_zero (c (a + 3)))) (ap (λ (f : Found). f.len) is)
        (xrstor_many m _) (xrstor_few m _)

-- where it stands, how it begins, and how long it is
pub record Facts (c : Code) (a : ℕ) (o : Found) : Type 0 where
  pub place : o.at ≡ a
  pub first : c a ≡ Some 0x0F
  pub many : 3 ≤ o.len
  pub few : o.len ≤ 8

pub occurrence_facts : (c : Code) (a : ℕ) (o : Found) → occurrence_at c a ≡ Some o → Facts c a o
occurrence_facts c a o h =
    let long = occurrence_few c a o h in
    record {
      place = occurrence_place c a o h;
      first = (occurrence_view c a o h).first;
      many = long.many;
      few = long.few;
    }

three_there : (c : Code) (a : ℕ) (x y z : ℕ) → c a ≡ Some x → c (a + 1) ≡ Some y
    → c (a + 2) ≡ Some z → (b : ℕ) → a ≤ b → b < a + 3 → is_some (c b) ≡ true
three_there c a x y z first second third b low high = by (b - a) (omega (arith, low)) (omega arith)
  where
    by : (k : ℕ) → b ≡ a + k → k < 3 → is_some (c b) ≡ true
    by zero e l = let p : b ≡ a = omega (arith, e) in rw (p, first) refl
    by (suc zero) e l = rw (e, second) refl
    by (suc (suc zero)) e l = rw (e, third) refl
    by (suc (suc (suc k))) e l = absurd (omega arith)

-- all its bytes are there
pub occurrence_there : (c : Code) (a : ℕ) (o : Found) → occurrence_at c a ≡ Some o → (x : ℕ) → a ≤ x
    → x < a + o.len → is_some (c x) ≡ true
occurrence_there c a o h x low high = let w = occurrence_view c a o h in by w.first w.rest
  where
    by : c a ≡ Some 0x0F → OccursAs c a o → is_some (c x) ≡ true
    by first (AsWrpkru second third is) =
        let long : o.len ≡ 3 = ap (λ (f : Found). f.len) is in
        three_there c a 0x0F 0x01 0xEF first second third x low (omega (arith, long, high))
    by first (AsXrstor m second third memory there is) =
        let long : o.len ≡ xrstor_len m (byte_or_zero (c (a + 3))) =
        ap (λ (f : Found). f.len) is in
        present_at c a (xrstor_len m (byte_or_zero (c (a + 3)))) x there low
        (omega (arith, long, high))

-- nothing occurs where the first byte is absent
pub occurrence_absent : (c : Code) (a : ℕ) → c a ≡ None → occurrence_at c a ≡ None
unfolding occurrence_at
occurrence_absent c a none = rw none refl

-- ---- occurrences in two codes

-- an occurrence is decided by 16 bytes
pub occurrence_agrees : (c d : Code) (a : ℕ) → Agrees c d a (a + 16)
    → occurrence_at c a ≡ occurrence_at d a
unfolding occurrence_at
occurrence_agrees c d a same =
    rw (
      same a (omega arith) (omega arith),
      same (a + 1) (omega arith) (omega arith),
      same (a + 2) (omega arith) (omega arith),
    ) (ap (λ (x : Option Found). cond (has (d a) 0x0F) (or_else (wrpkru_at d a) x) None)
    (ap (λ (x : Option Found). cond (has (d (a + 1)) 0xAE) x None) (by (d (a + 2)))))
  where
    by : (o : Option ℕ) → xrstor_with o c a ≡ xrstor_with o d a
    by None = refl
    by (Some m) =
        let n = xrstor_len m (byte_or_zero (d (a + 3))) in
        let few : n ≤ 8 = xrstor_few m (byte_or_zero (d (a + 3))) in
        rw (
          same (a + 3) (omega arith) (omega arith),
          are_present_agrees c d a n (λ x low high. same x low (omega arith)),
        ) refl

-- an occurrence stays where its own bytes stay
pub occurrence_same : (c d : Code) (a : ℕ) (o : Found) → occurrence_at d a ≡ Some o
    → Agrees c d a (a + o.len) → occurrence_at c a ≡ Some o
occurrence_same c d a o h same =
    let w = occurrence_view d a o h in
    let long = occurrence_few d a o h in
    let at = λ (k : ℕ) (l : k < 3). same (a + k) (omega arith) (omega (arith, long.many, l)) in
    occurrence_from c a o (record {
      first = same a (omega arith) (omega (arith, long.many)) ∙ w.first;
      rest = by w.rest (at 1 (omega arith)) (at 2 (omega arith));
    })
  where
    by : OccursAs d a o → c (a + 1) ≡ d (a + 1) → c (a + 2) ≡ d (a + 2) → OccursAs c a o
    by (AsWrpkru second third is) e f = AsWrpkru (e ∙ second) (f ∙ third) is
    by (AsXrstor m second third memory there is) e f =
        let n : ℕ = xrstor_len m (byte_or_zero (d (a + 3))) in
        let long : o.len ≡ n = ap (λ (x : Found). x.len) is in
        let alike : xrstor_len m (byte_or_zero (c (a + 3))) ≡ n = elim (cases_Bool (has_sib m)) [
          | inl sib ↦
              (let many = with_sib m (byte_or_zero (d (a + 3))) sib in
              ap (λ (x : Option ℕ). xrstor_len m (byte_or_zero x))
              (same (a + 3) (omega arith) (omega (arith, long, many))))
          | inr none ↦ without_sib m _ _ memory none
        ] in
        AsXrstor m (e ∙ second) (f ∙ third) memory
        (rw alike (are_present_agrees c d a n
        (λ x low high. same x low (omega (arith, long, high))) ∙ there)) (rw alike is)

-- ---- occurrences of laid bytes

-- an occurrence lies within a given number of places from base on
pub record IsInside (base places : ℕ) (o : Found) : Type 0 where
  pub low : base ≤ o.at
  pub high : o.at + o.len ≤ base + places
  pub some : 0 < o.len
  pub few : o.len ≤ 8

there_inside : (base a : ℕ) (bytes : List ℕ) (o : Option ℕ) → laid_at base bytes a ≡ o
    → is_some o ≡ true → (base ≤ a) × (a < base + length bytes)
there_inside base a bytes None e h = absurd cc
there_inside base a bytes (Some x) e h = laid_at_inside base a x bytes e

-- an occurrence of laid bytes lies within them
pub occurrence_inside : (base : ℕ) (bytes : List ℕ) (o : Found)
    → occurrence_at (laid_at base bytes) o.at ≡ Some o → IsInside base (length bytes) o
occurrence_inside base bytes o h =
    let long = occurrence_few (laid_at base bytes) o.at o h in
    let there = λ (x : ℕ) (low : o.at ≤ x) (high : x < o.at + o.len).
    there_inside base x bytes (laid_at base bytes x) refl
    (occurrence_there (laid_at base bytes) o.at o h x low high) in
    let first = there o.at (omega arith) (omega (arith, long.many)) in
    let last = there (o.at + (o.len - 1)) (omega arith) (omega (arith, long.many)) in
    record {
      low = first.0;
      high = omega (arith, last.1, long.many);
      some = omega (arith, long.many);
      few = long.few;
    }
