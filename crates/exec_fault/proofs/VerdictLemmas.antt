-- Where the published code is safe, the code near a page decides what is unsafe with it.
use Rattle.std.proofs.Common.{◌≡◌, ℕ, ◌+◌, ◌*◌, ◌/◌, ◌<◌, ◌≤◌, ◌^◌, ◌⊎◌, Option, Some, None}
use Rattle.std.proofs.Common.{Bool, true, false, nat_lt, refl, sym, ◌∙◌, arith, inl, inr, eqb}
use Rattle.std.proofs.Common.{eqb-true}
use Rattle.std.specs.Prelude.{if◌then◌else◌}
use Rattle.std.proofs.lemmas.Bool.{cases_Bool, cases_lt, ltb-true, ltb-false}
use Rattle.erim_defs.specs.declared.found.Found.{Found}
use Rattle.erim_defs.specs.Inspection.Code.{Code}
use Rattle.erim_defs.specs.Inspection.Safe.{unsafe_at}
use Rattle.erim_defs.specs.Inspection.Trust.{TrustValue}
use Rattle.erim_defs.specs.Inspection.Unsafe.{IsFirstUnsafe, first_unsafe}
use Rattle.erim_defs.specs.Machine.Isolation.{IsSafeCode}
use Rattle.erim_defs.specs.Machine.Pages.{RightsMap, ByteMap, code_with, published_code}
use Rattle.erim_defs.proofs.OccurrenceLemmas.{occurrence_absent}
use Rattle.erim_defs.proofs.UnsafeLemmas.{first_is, unsafe_agrees, unsafe_absent}
use Rattle.exec_fault.specs.Verdicts.{AgreesNear, on_page}

-- off the page its code is the published one
off_page : (rights : RightsMap) (bytes : ByteMap) (q b : ℕ)
    → (b < 4096 * q) ⊎ (4096 * q + 4096 ≤ b)
    → code_with rights bytes q b ≡ published_code rights bytes b
off_page rights bytes q b off = elim (cases_Bool (eqb (b / 4096) q)) [
  | inl on ↦ absurd (let e : b / 4096 ≡ q = eqb-true _ _ on in omega (arith, e, off))
  | inr not ↦ rw not refl
]

-- nothing unsafe begins away from the page
away : (trust : TrustValue) (rights : RightsMap) (bytes : ByteMap) (q a : ℕ)
    → IsSafeCode trust (published_code rights bytes)
    → (a + 64 ≤ 4096 * q) ⊎ (4096 * q + 4096 ≤ a)
    → unsafe_at trust (code_with rights bytes q) a ≡ None
away trust rights bytes q a safe off =
    unsafe_agrees trust (code_with rights bytes q) (published_code rights bytes) a
    (λ b low high. off_page rights bytes q b (elim off [
      | inl before ↦ inl (omega arith)
      | inr behind ↦ inr (omega arith)
    ])) ∙ safe a

-- near it the two codes have the same
near : (trust : TrustValue) (c w : Code) (q a : ℕ) → AgreesNear w c q → 4096 * q ≤ a + 64
    → a < 4096 * q + 4096 → unsafe_at trust w a ≡ unsafe_at trust c a
near trust c w q a agrees low high =
    unsafe_agrees trust w c a (λ b from to. agrees b (omega arith) (omega arith))

-- a scan of a window from 64 bytes before the page on, or from where its code begins
pub record IsScan (trust : TrustValue) (c w : Code) (q from high : ℕ) (r : Option Found)
    : Type 0 where
  pub agrees : AgreesNear w c q
  pub close : 4096 * q ≤ from + 64
  pub early : from ≤ 4096 * q
  pub late : 4096 * q + 4096 ≤ high
  pub absent : (a : ℕ) → 4096 * q ≤ a + 64 → a < from → c a ≡ None
  pub first : IsFirstUnsafe trust w from high r

-- nothing is unsafe before an address of the page, if the scan found nothing before it
none_before : (trust : TrustValue) (rights : RightsMap) (bytes : ByteMap) (w : Code)
    (q from high end : ℕ) (r : Option Found) → IsSafeCode trust (published_code rights bytes)
    → IsScan trust (code_with rights bytes q) w q from high r → end ≤ 4096 * q + 4096
    → ((a : ℕ) → from ≤ a → a < end → unsafe_at trust w a ≡ None)
    → (a : ℕ) → a < end → unsafe_at trust (code_with rights bytes q) a ≡ None
none_before trust rights bytes w q from high end r safe s le none a below =
    let c = code_with rights bytes q in
    elim (cases_lt (a + 63) (4096 * q)) [
      | inl far ↦ away trust rights bytes q a safe (inl (omega arith))
      | inr close ↦ elim (cases_lt a from) [
        | inl early ↦
            unsafe_absent trust c a (occurrence_absent c a (s.absent a (omega arith) early))
        | inr scanned ↦
            sym (near trust c w q a s.agrees (omega arith) (omega arith)) ∙ none a scanned below
      ]
    ]

pub scan_decides : (trust : TrustValue) (rights : RightsMap) (bytes : ByteMap) (w : Code)
    (q from high : ℕ) (r : Option Found) → q < 2 ^ 35
    → IsSafeCode trust (published_code rights bytes)
    → IsScan trust (code_with rights bytes q) w q from high r
    → on_page q r ≡ first_unsafe trust (code_with rights bytes q)
scan_decides trust rights bytes w q from high None user safe s =
    first_is trust (code_with rights bytes q) None
    (λ a low below. elim (cases_lt a (4096 * q + 4096)) [
      | inl on ↦ none_before trust rights bytes w q from high (4096 * q + 4096) None safe s
          (omega arith) (λ b from to. s.first b from (omega (arith, s.late))) a on
      | inr behind ↦ away trust rights bytes q a safe (inr behind)
    ])
scan_decides trust rights bytes w q from high (Some o) user safe s =
    by (nat_lt o.at (4096 * q + 4096)) refl
  where
    c : Code
    c = code_with rights bytes q

    by : (b : Bool) → nat_lt o.at (4096 * q + 4096) ≡ b
        → (if b then Some o else None) ≡ first_unsafe trust (code_with rights bytes q)
    by true is =
        let on : o.at < 4096 * q + 4096 = ltb-true _ _ is in
        first_is trust (code_with rights bytes q) (Some o) (
          omega arith,
          omega arith,
          sym (near trust (code_with rights bytes q) w q o.at s.agrees
              (omega (arith, s.close, s.first.0)) on) ∙ s.first.2,
          λ a low below. none_before trust rights bytes w q from high o.at (Some o) safe s
              (omega arith) s.first.3 a below,
        )
    by false is =
        let off : 4096 * q + 4096 ≤ o.at = ltb-false _ _ is in
        first_is trust (code_with rights bytes q) None (λ a low below.
        elim (cases_lt a (4096 * q + 4096)) [
          | inl on ↦ none_before trust rights bytes w q from high (4096 * q + 4096) (Some o) safe s
              (omega arith) (λ b start to. s.first.3 b start (omega arith)) a on
          | inr behind ↦ away trust rights bytes q a safe (inr behind)
        ])
