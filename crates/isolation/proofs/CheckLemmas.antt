-- A thread in its check fetches the next instruction of its check.
use Rattle.std.proofs.Common.{◌≡◌, ◌<◌, ◌≤◌, ◌+◌, ◌⊎◌, ℕ, zero, suc, List, [], ◌∷◌, ◌++◌, length}
use Rattle.std.proofs.Common.{Option, Some, None, true, refl, ap, subst, ◌∙◌, arith, inl, inr}
use Rattle.std.proofs.Common.{eqb-true}
use Rattle.std.proofs.lemmas.Bool.{and_parts, and_from}
use Rattle.erim_defs.specs.declared.found.SeqKind.{SeqKind}
use Rattle.erim_defs.specs.declared.found.SeqKind.TheVariants.{Wrpkru, Xrstor}
use Rattle.erim_defs.specs.declared.machine.Thread.{Thread}
use Rattle.erim_defs.specs.declared.insn.Insn.{Insn}
use Rattle.erim_defs.specs.declared.insn.FetchOutcome.TheVariants.{Runs, Need}
use Rattle.erim_defs.specs.Inspection.Code.{Code, allows}
use Rattle.erim_defs.specs.Machine.Pages.{code_bytes, code_bytes_on}
use Rattle.erim_defs.specs.Inspection.Safe.{fits}
use Rattle.erim_defs.specs.Machine.Step.{fetch}
use Rattle.erim_defs.specs.Machine.Isolation.{IsSafeCode, IsInCheck}
use Rattle.isolation.proofs.SequenceLemmas.{check_fits}
use Rattle.isolation.proofs.DecoderFacts.{AllOf, all_behind, Reads, Decoder}
use Rattle.isolation.proofs.ListLemmas.{OfCode, present_all}
use Rattle.erim_defs.specs.Inspection.Trust.{TrustValue}
use Rattle.erim_defs.specs.Inspection.Check.{Position, Compare, Branch, Number, Leave, check_insn}
use Rattle.erim_defs.specs.Inspection.Check.{check_bytes, bytes_before, position_start, check_of}

fits_front : (c : Code) (a : ℕ) (xs ys : List ℕ) → fits c a (xs ++ ys) ≡ true → fits c a xs ≡ true
unfolding fits
fits_front c a [] ys h = refl
fits_front c a (x ∷ xs) ys h =
    and_from _ _ (and_parts _ _ h).0 (fits_front c (suc a) xs ys (and_parts _ _ h).1)

fits_back : (c : Code) (a b : ℕ) (xs ys : List ℕ) → b ≡ a + length xs → fits c a (xs ++ ys) ≡ true
    → fits c b ys ≡ true
unfolding fits
fits_back c a b [] ys e h = let f : b ≡ a = omega (arith, e) in rw f h
fits_back c a b (x ∷ xs) ys e h = fits_back c (suc a) b xs ys (omega (arith, e)) (and_parts _ _ h).1

allows_is : (y x : ℕ) → allows (Some y) x ≡ true → y ≡ x
allows_is y x h = eqb-true _ _ h

-- bytes begin with a text, or are a proper front of it
abbrev Begins : List ℕ → List ℕ → Type 0
Begins b xs = ((r : List ℕ) × (b ≡ xs ++ r))
    ⊎ ((f : List ℕ) × (g : List ℕ) × (xs ≡ f ++ g) × (0 < length g) × (b ≡ f))

begins_more : (x : ℕ) (b xs : List ℕ) → Begins b xs → Begins (x ∷ b) (x ∷ xs)
begins_more x b xs (inl (r, e)) = inl (r, ap (λ l. x ∷ l) e)
begins_more x b xs (inr (f, g, e, l, h)) = inr (x ∷ f, g, ap (λ l. x ∷ l) e, l, ap (λ l. x ∷ l) h)

-- as the present bytes are where none contradicts the text
present_begins : (c : Code) (a n : ℕ) (xs : List ℕ) → fits c a xs ≡ true → length xs ≤ n
    → Begins (code_bytes c a n) xs
unfolding fits code_bytes
present_begins c a n [] h l = inl (code_bytes c a n, refl)
present_begins c a zero (x ∷ xs) h l = absurd (omega arith)
present_begins c a (suc n) (x ∷ xs) h l =
    by_byte (c a) (and_parts _ _ h).0
    (present_begins c (suc a) n xs (and_parts _ _ h).1 (omega arith))
  where
    by_byte : (o : Option ℕ) → allows o x ≡ true → Begins (code_bytes c (suc a) n) xs
        → Begins (code_bytes_on o (code_bytes c (suc a) n)) (x ∷ xs)
    by_byte None k b = inr ([], x ∷ xs, refl, omega arith, refl)
    by_byte (Some y) k b = rw (allows_is y x k) (begins_more x _ xs b)

-- so that the instruction runs, or a byte is missing
reads_fetched : {N : ℕ → Type 0} (c : Code) (rip : ℕ) (text : List ℕ) (insn : Insn)
    → Reads N text insn → AllOf N (code_bytes c rip 15) → fits c rip text ≡ true → length text ≤ 15
    → (fetch c rip ≡ Runs insn (length text) 0) ⊎ ((x : ℕ) × (fetch c rip ≡ Need x))
unfolding fetch
reads_fetched {N} c rip text insn r all h l = elim (present_begins c rip 15 text h l) [
  | inl (rest, e) ↦ inl (rw e (rw (r.whole rest (all_behind N text rest (subst (AllOf N) e all)))
      refl))
  | inr (f, g, e, m, b) ↦ inr (rip + length f, rw b (rw (r.part f g e m) refl))
]

-- the bytes of the instructions after a position
abbrev bytes_behind : TrustValue → SeqKind → ℕ → Position → List ℕ
bytes_behind trust k next Compare =
    check_bytes trust k next Branch
    ++ (check_bytes trust k next Number ++ check_bytes trust k next Leave)
bytes_behind trust k next Branch = check_bytes trust k next Number ++ check_bytes trust k next Leave
bytes_behind trust k next Number = check_bytes trust k next Leave
bytes_behind trust k next Leave = []

-- the check, cut at one of its instructions
record IsCut (trust : TrustValue) (k : SeqKind) (next : ℕ) (p : Position) : Type 0 where
  parts : check_of trust k next ≡ bytes_before trust k next p
      ++ (check_bytes trust k next p ++ bytes_behind trust k next p)
  start : position_start trust k next p ≡ length (bytes_before trust k next p)
  short : length (check_bytes trust k next p) ≤ 5

cut : (trust : TrustValue) (k : SeqKind) (next : ℕ) (p : Position) → IsCut trust k next p
unfolding check_of
cut trust Wrpkru next Compare = record { parts = refl; start = refl; short = omega arith }
cut trust Wrpkru next Branch = record { parts = refl; start = refl; short = omega arith }
cut trust Wrpkru next Number = record { parts = refl; start = refl; short = omega arith }
cut trust Wrpkru next Leave = record { parts = refl; start = refl; short = omega arith }
cut trust Xrstor next Compare = record { parts = refl; start = refl; short = omega arith }
cut trust Xrstor next Branch = record { parts = refl; start = refl; short = omega arith }
cut trust Xrstor next Number = record { parts = refl; start = refl; short = omega arith }
cut trust Xrstor next Leave = record { parts = refl; start = refl; short = omega arith }

-- a thread in its check runs the next instruction of its check, or lacks a byte of it
pub check_fetched : {N : ℕ → Type 0} → Decoder N → (trust : TrustValue) (c : Code) (t : Thread)
    → OfCode N c → IsSafeCode trust c → (w : IsInCheck trust c t)
    → (fetch c t.rip ≡ Runs (check_insn trust w.origin.kind (w.origin.at + w.origin.len) w.position)
    (length (check_bytes trust w.origin.kind (w.origin.at + w.origin.len) w.position))
    0) ⊎ ((x : ℕ) × (fetch c t.rip ≡ Need x))
check_fetched {N} d trust c t of safe w =
    let k = w.origin.kind in
    let p = w.position in
    let behind : ℕ = w.origin.at + w.origin.len in
    let next : ℕ = behind in
    let parts = cut trust k next p in
    let all : fits c behind (check_of trust k next) ≡ true =
    check_fits trust c w.origin safe w.occurs w.gate in
    let split : fits c behind (bytes_before trust k next p
    ++ (check_bytes trust k next p
    ++ bytes_behind trust k next p)) ≡ true = subst (λ (l :
    List ℕ). fits c behind l ≡ true) parts.parts all in
    let e : t.rip ≡ behind + length (bytes_before trust k next p) =
    w.rip ∙ ap (λ n. behind + n) parts.start in
    let here : fits c t.rip (check_bytes trust k next p ++ bytes_behind trust k next p) ≡ true =
    fits_back c behind t.rip (bytes_before trust k next p) (check_bytes trust k next p
    ++ bytes_behind trust k next p) e split in
    let short = parts.short in
    reads_fetched {N = N} c t.rip (check_bytes trust k next p) (check_insn trust k next p)
    (d.reads trust k next p) (present_all N c t.rip 15 of)
    (fits_front c t.rip (check_bytes trust k next p) (bytes_behind trust k next p) here)
    (omega (arith, short))
