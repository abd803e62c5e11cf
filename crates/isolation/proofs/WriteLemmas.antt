-- A write that is made was allowed, and leaves the bytes of pages that can't be written.
use Rattle.std.proofs.Common.{◌≡◌, ◌/◌, ◌%◌, ◌^◌, ℕ, zero, suc, Option, Some, None, true, false}
use Rattle.std.proofs.Common.{eqb, ltb, refl, subst, ◌∙◌, inl, inr, eqb-true}
use Rattle.std.proofs.lemmas.Bool.{cases_Bool}
use Rattle.erim_defs.specs.declared.machine.Rights.{Rights}
use Rattle.erim_defs.specs.declared.machine.Thread.{Thread}
use Rattle.erim_defs.specs.declared.machine.Access.{Access}
use Rattle.erim_defs.specs.declared.machine.Access.TheVariants.{Fault}
use Rattle.erim_defs.specs.declared.machine.Cause.TheVariants.{Unmapped, Write as WriteCause}
use Rattle.erim_defs.specs.Machine.Pages.{RightsMap, ByteMap, with_value_at, with_number}
use Rattle.erim_defs.specs.Machine.Access.{Seen, whole, stop, stop_at, stop_by}
use Rattle.erim_defs.specs.Inspection.Code.{or_else}
use Rattle.erim_defs.specs.Machine.Plan.{Plan, Ask, Give, Refuse, Call, Write, Done, effect}
use Rattle.erim_defs.specs.Machine.Plan.{effect_of_write, bytes_after_write}
use Rattle.erim_defs.proofs.PlanLemmas.{unless_done}

-- ---- a write was allowed

-- if there is a write, it is
abbrev pub IsAllowed : Seen → ℕ → Option Write → Type 0
IsAllowed seen pkru w = (y : Write) → w ≡ Some y → stop seen true pkru y.addr y.count ≡ None

given_allowed : (t new : Thread) (o w : Option Write) (seen : Seen) (pkru : ℕ)
    → effect_of_write t o seen pkru ≡ Done new w → IsAllowed seen pkru w
given_allowed t new None w seen pkru h y e = absurd cc
given_allowed t new (Some x) w seen pkru h y e =
    let u = unless_done (stop seen true pkru x.addr x.count) (Done t (Some x)) new w h in
    let same : x ≡ y = (let done = u.1 in cc) in
    subst (λ (z : Write). stop seen true pkru z.addr z.count ≡ None) same u.0

-- the write with which a plan is done
pub does_allowed : (p : Plan) (seen : Seen) (bytes : ByteMap) (pkru rip : ℕ) (new : Thread)
    (w : Option Write) → effect p seen bytes pkru rip ≡ Done new w → IsAllowed seen pkru w
unfolding effect
does_allowed (Ask a n k) seen bytes pkru rip new w h =
    does_allowed (k _) seen bytes pkru rip new w
    (unless_done (stop seen false pkru a n) _ new w h).1
does_allowed (Give t o) seen bytes pkru rip new w h = given_allowed t new o w seen pkru h
does_allowed Refuse seen bytes pkru rip new w h = absurd cc
does_allowed Call seen bytes pkru rip new w h = absurd cc

-- ---- what a write leaves

-- not mapped, or not writable
abbrev pub IsSealed : Option Rights → Type 0
IsSealed o = (r : Rights) → o ≡ Some r → r.write ≡ false

pub stop_or_none : (x y : Option Access) → or_else x y ≡ None → (x ≡ None) × (y ≡ None)
stop_or_none None y h = (refl, h)
stop_or_none (Some a) y h = absurd cc

stop_by_sealed : (o : Option Rights) (pkru a : ℕ) → IsSealed o
    → stop_by (Some o) true pkru a ≡ None → ⊥
stop_by_sealed None pkru a h s = absurd cc
stop_by_sealed (Some r) pkru a h s =
    let k : Some (Fault WriteCause a) ≡ None = rw (h r refl) at s in
    absurd cc

-- a byte that may be written is on no such page
stop_at_sealed : (rights : RightsMap) (pkru a : ℕ) → IsSealed (rights (a / 4096))
    → stop_at (whole rights) true pkru a ≡ None → ⊥
stop_at_sealed rights pkru a h s = elim (cases_Bool (ltb a (2 ^ 47))) [
  | inl t ↦ stop_by_sealed (rights (a / 4096)) pkru a h (rw t at s)
  | inr f ↦ absurd (let k : Some (Fault Unmapped a) ≡ None = rw f at s in cc)
]

number_same : (rights : RightsMap) (bytes : ByteMap) (pkru a n v x : ℕ)
    → IsSealed (rights (x / 4096)) → stop (whole rights) true pkru a n ≡ None
    → with_number bytes a n v x ≡ bytes x
unfolding stop with_number
number_same rights bytes pkru a zero v x h s = refl
number_same rights bytes pkru a (suc n) v x h s =
    let both = stop_or_none (stop_at (whole rights) true pkru a)
    (stop (whole rights) true pkru (suc a) n) s in
    number_same rights (with_value_at bytes a (v % 256)) pkru (suc a) n (v / 256) x h both.1
    ∙ elim (cases_Bool (eqb x a)) [
      | inr f ↦ rw f refl
      | inl t ↦ absurd (stop_at_sealed rights pkru a
          (subst (λ (y : ℕ). IsSealed (rights (y / 4096))) (eqb-true _ _ t) h) both.0)
    ]

-- a write that is allowed leaves each byte of such a page
pub sealed_same : (rights : RightsMap) (bytes : ByteMap) (pkru : ℕ) (w : Option Write) (x : ℕ)
    → IsSealed (rights (x / 4096)) → IsAllowed (whole rights) pkru w
    → bytes_after_write w bytes x ≡ bytes x
sealed_same rights bytes pkru None x h a = refl
sealed_same rights bytes pkru (Some w) x h a =
    number_same rights bytes pkru w.addr w.count w.value x h (a w refl)
