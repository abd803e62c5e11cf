-- What is said of each thread: over a thread that is set or added, and over code that changes
-- elsewhere.
use Rattle.std.proofs.Common.{◌≡◌, ◌<◌, ◌≤◌, ◌+◌, ◌-◌, ◌/◌, ◌⊎◌, ◌++◌, ◌&&◌, ℕ, zero, suc, List}
use Rattle.std.proofs.Common.{[], ◌∷◌, Option, Some, None, is_some, true, false, refl, sym, subst}
use Rattle.std.proofs.Common.{◌∙◌, arith, inl, inr}
use Rattle.std.proofs.lemmas.Bool.{and_from, or_parts, le-leb}
use Rattle.std.specs.Prelude.{slice_set, slice_get}
use Rattle.erim_defs.specs.declared.found.Found.{Found}
use Rattle.erim_defs.specs.declared.machine.Thread.{Thread}
use Rattle.erim_defs.specs.Inspection.Code.{Code}
use Rattle.erim_defs.specs.Inspection.Occurrence.{occurrence_at}
use Rattle.erim_defs.specs.Machine.State.{with_origin, is_outside}
use Rattle.erim_defs.specs.Machine.MapCalls.{has_byte_on, is_pinned}
use Rattle.erim_defs.specs.Machine.Isolation.{Each, Stands}
use Rattle.erim_defs.proofs.OccurrenceLemmas.{Agrees, occurrence_same, occurrence_there}
use Rattle.erim_defs.specs.Inspection.Trust.{TrustValue}

pub each_at : (P : Thread → Type 0) (ts : List Thread) (i : ℕ) (t : Thread) → Each P ts
    → slice_get ts i ≡ Some t → P t
each_at P [] i t h e = absurd cc
each_at P (x ∷ ts) zero t h e = let k : x ≡ t = cc in subst P k h.0
each_at P (x ∷ ts) (suc i) t h e = each_at P ts i t h.1 e

pub each_set : (P : Thread → Type 0) (ts : List Thread) (i : ℕ) (t : Thread) → Each P ts → P t
    → Each P (slice_set ts i t)
each_set P [] i t h p = tt
each_set P (x ∷ ts) zero t h p = (p, h.1)
each_set P (x ∷ ts) (suc i) t h p = (h.0, each_set P ts i t h.1 p)

pub each_append : (P : Thread → Type 0) (ts : List Thread) (t : Thread) → Each P ts → P t
    → Each P (ts ++ t ∷ [])
each_append P [] t h p = (p, tt)
each_append P (x ∷ ts) t h p = (h.0, each_append P ts t h.1 p)

pub each_map : (P Q : Thread → Type 0) (ts : List Thread) → ((t : Thread) → P t → Q t) → Each P ts
    → Each Q ts
each_map P Q [] f h = tt
each_map P Q (x ∷ ts) f h = (f x h.0, each_map P Q ts f h.1)

-- a thread stands on where the bytes of its origin stay
pub stands_same : (trust : TrustValue) (c d : Code) (t : Thread)
    → ((o : Found) → t.origin ≡ Some o → occurrence_at d o.at ≡ Some o
    → Agrees c d o.at (o.at + o.len))
    → Stands trust d t → Stands trust c t
stands_same trust c d t f (inl n) = inl n
stands_same trust c d t f (inr w) = inr (record {
  origin = w.origin;
  position = w.position;
  from = w.from;
  occurs = occurrence_same c d w.origin.at w.origin w.occurs (f w.origin w.from w.occurs);
  gate = w.gate;
  rip = w.rip;
  fact = w.fact;
})

-- c changes no byte of a live thread's origin
abbrev pub KeepsOrigins : Code → Code → List Thread → Type 0
KeepsOrigins c d ts = Each (λ t. t.live ≡ true → (o : Found) → t.origin ≡ Some o
    → Agrees c d o.at (o.at + o.len)) ts

-- so that each thread stands on
pub each_kept : (trust : TrustValue) (c d : Code) (ts : List Thread) → KeepsOrigins c d ts
    → Each (λ t. t.live ≡ true → Stands trust d t) ts
    → Each (λ t. t.live ≡ true → Stands trust c t) ts
each_kept trust c d [] k h = tt
each_kept trust c d (t ∷ ts) k h =
    (λ l. stands_same trust c d t (λ o e q. k.0 l o e) (h.0 l), each_kept trust c d ts k.1 h.1)

-- where no byte changes none of an origin does
pub origins_same : (c d : Code) (ts : List Thread) → ((x : ℕ) → c x ≡ d x) → KeepsOrigins c d ts
origins_same c d [] same = tt
origins_same c d (t ∷ ts) same = (λ l o e x low high. same x, origins_same c d ts same)

-- where the bytes that change are on pages that hold none of an origin
has_origin : (t : Thread) (o : Found) (x : ℕ) → t.live ≡ true → t.origin ≡ Some o → o.at ≤ x
    → x < o.at + o.len → (t.live && has_byte_on t.origin (x / 4096)) ≡ true
has_origin t o x l e low high =
    let first : o.at / 4096 ≤ x / 4096 = omega (arith, low) in
    let last : x / 4096 ≤ (o.at + o.len - 1) / 4096 = omega (arith, high) in
    rw (l, e) (and_from _ _ (le-leb _ _ first) (le-leb _ _ last))

pub origins_unpinned : (c d : Code) (ts : List Thread)
    → ((x : ℕ) → (c x ≡ d x) ⊎ (is_pinned ts (x / 4096) ≡ false)) → KeepsOrigins c d ts
unfolding is_pinned
origins_unpinned c d [] h = tt
origins_unpinned c d (t ∷ ts) h = (
  λ l o e x low high. elim (h x) [
    | inl same ↦ same
    | inr n ↦ absurd (let z : false ≡ true = sym (or_parts _ _ n).0
        ∙ has_origin t o x l e low high in cc)
  ],
  origins_unpinned c d ts (λ x. elim (h x) [
    | inl same ↦ inl same
    | inr n ↦ inr (or_parts _ _ n).1
  ]),
)

-- a code that only grows keeps every thread standing
pub each_grown : (trust : TrustValue) (c d : Code) (ts : List Thread)
    → ((x : ℕ) → is_some (d x) ≡ true → c x ≡ d x)
    → Each (λ t. t.live ≡ true → Stands trust d t) ts
    → Each (λ t. t.live ≡ true → Stands trust c t) ts
each_grown trust c d ts g h =
    each_map (λ t. t.live ≡ true → Stands trust d t) (λ t. t.live ≡ true → Stands trust c t) ts
    (λ t f l. stands_same trust c d t
    (λ o e q x low high. g x (occurrence_there d o.at o q x low high)) (f l)) h

-- a settled thread that isn't out has no origin
pub settled_origin : (trust : TrustValue) (made : Option Found) (t : Thread)
    → is_outside trust (with_origin trust made t) ≡ false → (with_origin trust made t).origin ≡ None
settled_origin trust made t h = rw h refl
