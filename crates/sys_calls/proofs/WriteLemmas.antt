-- Readable bytes that are copied one by one.
use Rattle.std.proofs.Common.{length, ◌≡◌, ℕ, suc, ◌+◌, ◌-◌, ◌<◌, ◌≤◌, ◌^◌, ◌%◌, ◌∙◌, ◌++◌, ◌∷◌, []}
use Rattle.std.proofs.Common.{List, Option, Some, None, Bool, sym, ap, refl, arith, inl, inr}
use Rattle.std.proofs.lemmas.Bool.{le-ltb, cases_lt}
use Rattle.std.proofs.lemmas.List.{append-nil, append_assoc, length-append}
use Rattle.erim_defs.specs.declared.machine.Access.{Access}
use Rattle.erim_defs.specs.declared.machine.Access.TheVariants.{Fault}
use Rattle.erim_defs.specs.declared.machine.Cause.TheVariants.{Unmapped}
use Rattle.erim_defs.specs.Machine.Pages.{ByteMap, bytes_of_range}
use Rattle.erim_defs.specs.Machine.Access.{Seen, stop, stop_at}
use Rattle.erim_defs.specs.Inspection.Code.{or_else}
use Rattle.page_store.specs.Answers.{HasBytes, byte_at}
use Rattle.sys_calls.proofs.ReadableLemmas.{stop_next}

none_first : (x y : Option Access) → or_else x y ≡ None → x ≡ None
none_first None y h = refl
none_first (Some s) y h = absurd cc

none_second : (x y : Option Access) → or_else x y ≡ None → y ≡ None
none_second None y h = h
none_second (Some s) y h = absurd cc

-- of readable bytes, the first one is
pub readable_now : (seen : Seen) (w : Bool) (pkru a n i : ℕ) → i < n
    → stop seen w pkru (a + i) (n - i) ≡ None → stop seen w pkru (a + i) 1 ≡ None
unfolding stop
readable_now seen w pkru a n i lt h =
    let first = none_first _ (stop seen w pkru (a + (i + 1)) (n - (i + 1)))
    (sym (stop_next seen w pkru a n i lt) ∙ h) in
    ap (λ o. or_else o None) first

-- and so are the rest
pub readable_then : (seen : Seen) (w : Bool) (pkru a n i : ℕ) → i < n
    → stop seen w pkru (a + i) (n - i) ≡ None → stop seen w pkru (a + (i + 1)) (n - (i + 1)) ≡ None
readable_then seen w pkru a n i lt h =
    none_second (stop_at seen w pkru (a + i)) _ (sym (stop_next seen w pkru a n i lt) ∙ h)

at_high : (seen : Seen) (w : Bool) (pkru a : ℕ) → 2 ^ 47 ≤ a → stop_at seen w pkru a ≡ None → ⊥
at_high seen w pkru a high h =
    absurd (let bad : Some (Fault Unmapped a) ≡ None = rw (le-ltb a (2 ^ 47) high) at h in cc)

-- readable bytes are at user addresses
pub readable_low : (seen : Seen) (w : Bool) (pkru a n i : ℕ) → i < n
    → stop seen w pkru (a + i) (n - i) ≡ None → a + i < 2 ^ 47
readable_low seen w pkru a n i lt h = elim (cases_lt (a + i) (2 ^ 47)) [
  | inl low ↦ low
  | inr high ↦ absurd (at_high seen w pkru (a + i) high
      (none_first _ (stop seen w pkru (a + (i + 1)) (n - (i + 1)))
      (sym (stop_next seen w pkru a n i lt) ∙ h)))
]

-- the byte at i, and then the rest
pub taken_next : (bytes : ByteMap) (a n i : ℕ) → i < n
    → bytes_of_range bytes (a + i) (n - i)
    ≡ bytes (a + i) ∷ bytes_of_range bytes (a + (i + 1)) (n - (i + 1))
unfolding bytes_of_range
taken_next bytes a n i lt =
    let left : n - i ≡ suc (n - (i + 1)) = omega arith in
    let next : suc (a + i) ≡ a + (i + 1) = omega arith in
    rw (left, next) refl

pub taken_nothing : (bytes : ByteMap) (a n i : ℕ) → n ≤ i → bytes_of_range bytes a (n - i) ≡ []
unfolding bytes_of_range
taken_nothing bytes a n i le =
    let left : n - i ≡ 0 = omega arith in
    rw left refl

-- one byte was pushed
pub pushed : (old new total rest all : List ℕ) (x : ℕ) → new ≡ old ++ x ∷ [] → all ≡ x ∷ rest
    → old ++ all ≡ total → new ++ rest ≡ total
pushed old new total rest all x e split h =
    ap (λ xs. xs ++ rest) e ∙ append_assoc old (x ∷ []) rest ∙ sym (ap (λ xs. old ++ xs) split) ∙ h

-- a number that one byte makes
pub only_byte : (bytes : ByteMap) (a v : ℕ) → HasBytes bytes a 1 v → bytes a ≡ v % 256
unfolding byte_at
only_byte bytes a v has =
    let same : a + 0 ≡ a = omega arith in
    sym (ap bytes same) ∙ has 0 (omega arith)

pub ended_at : (out total rest : List ℕ) → rest ≡ [] → out ++ rest ≡ total → out ≡ total
ended_at out total rest e h = sym (ap (λ xs. out ++ xs) e ∙ append-nil out) ∙ h

pub pushed_length : (old new : List ℕ) (x : ℕ) → new ≡ old ++ x ∷ [] → length new ≡ length old + 1
pushed_length old new x e = ap length e ∙ length-append old (x ∷ [])
