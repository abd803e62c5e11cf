-- Published and unmapped pages can't be written; code without a first unsafe sequence is safe.
use Rattle.std.proofs.Common.{◌≡◌, ◌<◌, ◌/◌, ◌%◌, ◌^◌, ℕ, zero, suc, Option, Some, None, true}
use Rattle.std.proofs.Common.{false, eqb, refl, sym, subst, ◌∙◌, arith, inl, inr}
use Rattle.std.proofs.lemmas.Bool.{cases_Bool, cases_lt}
use Rattle.erim_defs.specs.declared.machine.Rights.{Rights}
use Rattle.erim_defs.specs.Inspection.Code.{Code}
use Rattle.erim_defs.specs.Machine.Pages.{RightsMap, ByteMap, published_code, is_published}
use Rattle.erim_defs.specs.Machine.Pages.{with_value_at, with_number}
use Rattle.erim_defs.specs.Inspection.Safe.{unsafe_at}
use Rattle.erim_defs.specs.Inspection.Unsafe.{first_unsafe, top, top_is}
use Rattle.erim_defs.specs.Machine.Plan.{Write, bytes_after_write}
use Rattle.erim_defs.specs.Machine.Isolation.{IsSafeCode}
use Rattle.erim_defs.proofs.OccurrenceLemmas.{occurrence_absent}
use Rattle.erim_defs.proofs.UnsafeLemmas.{unsafe_absent, first_below_none}
use Rattle.isolation.proofs.WriteLemmas.{IsSealed}
use Rattle.isolation.proofs.StandLemmas.{IsLow}
use Rattle.erim_defs.specs.Inspection.Trust.{TrustValue}

-- a published page isn't writable
abbrev pub NotWritable : RightsMap → Type 0
NotWritable rights = (q : ℕ) (r : Rights) → rights q ≡ Some r → r.exec ≡ true → r.write ≡ false

-- so a write that is allowed leaves its bytes, and those of an unmapped page
pub published_sealed : (rights : RightsMap) (q : ℕ) → NotWritable rights
    → is_published (rights q) ≡ true → IsSealed (rights q)
published_sealed rights q h p r e =
    h q r e (let P : Option Rights → Type 0 = λ o. is_published o ≡ true in subst P e p)

pub unmapped_sealed : (o : Option Rights) → o ≡ None → IsSealed o
unmapped_sealed o n r e = absurd (let k : None ≡ Some r = sym n ∙ e in cc)

-- what is written are bytes
stored_kind : (N : ℕ → Type 0) (bytes : ByteMap) (a n v : ℕ) → ((x : ℕ) → x < 256 → N x)
    → ((x : ℕ) → N (bytes x)) → (x : ℕ) → N (with_number bytes a n v x)
unfolding with_number
stored_kind N bytes a zero v all h x = h x
stored_kind N bytes a (suc n) v all h x =
    stored_kind N (with_value_at bytes a (v % 256)) (suc a) n (v / 256) all put_kind x
  where
    put_kind : (y : ℕ) → N (with_value_at bytes a (v % 256) y)
    put_kind y = elim (cases_Bool (eqb y a)) [
      | inl t ↦ rw t (all (v % 256) (omega arith))
      | inr f ↦
          rw f (h y)
    ]

pub made_kind : (N : ℕ → Type 0) (bytes : ByteMap) (w : Option Write) → ((x : ℕ) → x < 256 → N x)
    → ((x : ℕ) → N (bytes x)) → (x : ℕ) → N (bytes_after_write w bytes x)
made_kind N bytes None all h x = h x
made_kind N bytes (Some w) all h x = stored_kind N bytes w.addr w.count w.value all h x

-- the code is as it was where the published bytes are
pub code_same : (rights : RightsMap) (bytes next : ByteMap) (x : ℕ)
    → (is_published (rights (x / 4096)) ≡ true → next x ≡ bytes x)
    → published_code rights next x ≡ published_code rights bytes x
code_same rights bytes next x h = elim (cases_Bool (is_published (rights (x / 4096)))) [
  | inl t ↦
      rw (t, h t) refl
  | inr f ↦ rw f refl
]

-- ---- the first unsafe sequence

-- no first unsafe sequence: none at all
pub first_none : (trust : TrustValue) (c : Code) → IsLow c → first_unsafe trust c ≡ None
    → IsSafeCode trust c
unfolding first_unsafe
first_none trust c low h a = elim (cases_lt a (2 ^ 47)) [
  | inl l ↦ first_below_none top (unsafe_at trust c) a h (subst (λ (n : ℕ). a < n) (sym top_is) l)
  | inr l ↦ unsafe_absent trust c a (occurrence_absent c a (low a l))
]
