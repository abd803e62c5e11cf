-- The parts of the isolation invariant on small pages and threads: which keep it, and which don't.
use Rattle.erim_defs.specs.Inspection.Trust.{pkru_of, plain_trust}
use Rattle.std.proofs.Common.{◌≡◌, ℕ, ◌+◌, [], ◌∷◌, Some, None, true, false, refl, subst, arith}
use Rattle.std.proofs.Common.{lit<, ◌<◌}
use Rattle.erim_defs.specs.declared.found.Found.{Found}
use Rattle.erim_defs.specs.declared.found.SeqKind.TheVariants.{Wrpkru}
use Rattle.erim_defs.specs.declared.machine.Thread.{Thread}
use Rattle.erim_defs.specs.Inspection.Check.{Position, Compare, Branch, Number, Leave}
use Rattle.erim_defs.specs.Inspection.Check.{position_start}
use Rattle.erim_defs.specs.Inspection.Code.{Code, laid_at}
use Rattle.erim_defs.specs.Machine.Isolation.{IsRuled, IsInCheck, PositionFact}
use Rattle.erim_defs.specs.Inspection.Occurrence.{occurrence_at}
use Rattle.erim_defs.specs.Inspection.Trust.{TrustValue}
use Rattle.definition_rows.proofs.SmallMachine.{thread_at, no_flags}

-- ---- the rights of a page

data_page : IsRuled (record { read = true; write = true; exec = false; asked = 3; key = 1 })
data_page = record {
  sealed = λ e. cc;
  exec = λ e. cc;
  read = refl;
  write = λ e. refl;
  sound = (lit< tt, lit< tt);
}

published_page : IsRuled (record { read = true; write = false; exec = true; asked = 7; key = 0 })
published_page = record {
  sealed = λ e. refl;
  exec = λ e. refl;
  read = refl;
  write = λ e. cc;
  sound = (lit< tt, lit< tt);
}

writable_and_published :
    IsRuled (record { read = true; write = true; exec = true; asked = 7; key = 0 }) → ⊥
writable_and_published h = let e : true ≡ false = h.sealed refl in cc

published_unasked :
    IsRuled (record { read = true; write = false; exec = true; asked = 3; key = 0 }) → ⊥
published_unasked h = let e : false ≡ true = h.exec refl in cc

unreadable : IsRuled (record { read = false; write = false; exec = false; asked = 1; key = 0 }) → ⊥
unreadable h = let e : false ≡ true = h.read in cc

readable_unasked :
    IsRuled (record { read = true; write = false; exec = false; asked = 0; key = 0 }) → ⊥
readable_unasked h = let e : true ≡ false = h.read in cc

unwritable : IsRuled (record { read = true; write = false; exec = false; asked = 3; key = 0 }) → ⊥
unwritable h = let e : false ≡ true = h.write refl in cc

writable_unasked :
    IsRuled (record { read = true; write = true; exec = false; asked = 1; key = 0 }) → ⊥
writable_unasked h = let e : true ≡ false = h.write refl in cc

key_above_15 : IsRuled (record { read = true; write = false; exec = false; asked = 1; key = 16 })
    → ⊥
key_above_15 h = let few : 16 < 16 = h.sound.0 in absurd (omega (arith, few))

asked_above_7 : IsRuled (record { read = true; write = false; exec = false; asked = 9; key = 0 })
    → ⊥
asked_above_7 h = let few : 9 < 8 = h.sound.1 in absurd (omega (arith, few))

-- ---- a thread at each instruction of its check: WRPKRU at 0x401000, and the check after it

trust : TrustValue
trust = plain_trust [] []

code : Code
code =
    laid_at 0x401000
    (0x0F ∷ 0x01 ∷ 0xEF ∷ 0x3D ∷ 0x54 ∷ 0x55 ∷ 0x55 ∷ 0x55 ∷ 0x74 ∷ 0x07 ∷ 0xB8 ∷ 0xE7 ∷ 0 ∷ 0
    ∷ 0 ∷ 0x0F ∷ 0x05 ∷ [])

origin : Found
origin = record { at = 0x401000; len = 3; kind = Wrpkru }

-- open, with RAX
opened_at : ℕ → ℕ → Thread
opened_at rip rax = record (thread_at rip rax 0 0) { pkru = 0x55555550; origin = Some origin }

-- EAX isn't 0x55555554
at_the_comparison : IsInCheck trust code (opened_at 0x401003 0x55555550)
unfolding pkru_of trust code origin opened_at occurrence_at
at_the_comparison =
    record {
      origin = origin;
      position = Compare;
      from = refl;
      occurs = refl;
      gate = refl;
      rip = refl;
      fact = λ e. omega (arith, e);
    }

-- ZF is 0
at_the_branch : IsInCheck trust code (opened_at 0x401008 0x55555550)
unfolding pkru_of trust code origin opened_at occurrence_at
at_the_branch =
    record {
      origin = origin;
      position = Branch;
      from = refl;
      occurs = refl;
      gate = refl;
      rip = refl;
      fact = refl;
    }

at_the_number : IsInCheck trust code (opened_at 0x40100A 0x55555550)
unfolding pkru_of trust code origin opened_at occurrence_at
at_the_number =
    record {
      origin = origin;
      position = Number;
      from = refl;
      occurs = refl;
      gate = refl;
      rip = refl;
      fact = tt;
    }

-- RAX is 231
at_the_call : IsInCheck trust code (opened_at 0x40100F 231)
unfolding pkru_of trust code origin opened_at occurrence_at
at_the_call =
    record {
      origin = origin;
      position = Leave;
      from = refl;
      occurs = refl;
      gate = refl;
      rip = refl;
      fact = refl;
    }

-- ---- and threads that aren't in it

-- a thread with that origin is in no check where no position fits
refuted :
    (t : Thread) → t.origin ≡ Some origin
    → ((p : Position) → t.rip ≡ 0x401003 + position_start trust Wrpkru 0x401003 p
    → PositionFact trust Wrpkru 0x401003 p t → ⊥)
    → IsInCheck trust code t → ⊥
unfolding origin
refuted t from none_fits h =
    let e : h.origin ≡ origin = cc in
    let Rip : Found → Type 0 =
    λ o. t.rip ≡ o.at + o.len + position_start trust o.kind (o.at + o.len) h.position in
    let Fact : Found → Type 0 = λ o. PositionFact trust o.kind (o.at + o.len) h.position t in
    none_fits h.position (subst Rip e h.rip) (subst Fact e h.fact)

-- at the comparison with EAX 0x55555554
closed_at_the_comparison : IsInCheck trust code (opened_at 0x401003 0x155555554) → ⊥
unfolding pkru_of trust origin opened_at
closed_at_the_comparison = refuted (opened_at 0x401003 0x155555554) refl by
  where
    by : (p : Position) → 0x401003 ≡ 0x401003 + position_start trust Wrpkru 0x401003 p
        → PositionFact trust Wrpkru 0x401003 p (opened_at 0x401003 0x155555554) → ⊥
    by Compare rip fact = fact refl
    by Branch rip fact = omega (arith, rip)
    by Number rip fact = omega (arith, rip)
    by Leave rip fact = omega (arith, rip)

-- at the branch with ZF 1
equal_at_the_branch :
    let t = record (opened_at 0x401008 0) { flags = record no_flags { zf = true } } in
    IsInCheck trust code t → ⊥
unfolding pkru_of trust origin opened_at
equal_at_the_branch =
    refuted (record (opened_at 0x401008 0) { flags = record no_flags { zf = true } }) refl by
  where
    by : (p : Position) → 0x401008 ≡ 0x401003 + position_start trust Wrpkru 0x401003 p
        → PositionFact trust Wrpkru 0x401003 p
        (record (opened_at 0x401008 0) { flags = record no_flags { zf = true } })
        → ⊥
    by Compare rip fact = omega (arith, rip)
    by Branch rip fact = cc
    by Number rip fact = omega (arith, rip)
    by Leave rip fact = omega (arith, rip)

-- at the call with another number
other_number_at_the_call : IsInCheck trust code (opened_at 0x40100F 60) → ⊥
unfolding pkru_of trust origin opened_at
other_number_at_the_call = refuted (opened_at 0x40100F 60) refl by
  where
    by : (p : Position) → 0x40100F ≡ 0x401003 + position_start trust Wrpkru 0x401003 p
        → PositionFact trust Wrpkru 0x401003 p (opened_at 0x40100F 60) → ⊥
    by Compare rip fact = omega (arith, rip)
    by Branch rip fact = omega (arith, rip)
    by Number rip fact = omega (arith, rip)
    by Leave rip fact = omega (arith, fact)

-- within an instruction
within_the_comparison : IsInCheck trust code (opened_at 0x401004 0) → ⊥
unfolding pkru_of trust origin opened_at
within_the_comparison = refuted (opened_at 0x401004 0) refl by
  where
    by : (p : Position) → 0x401004 ≡ 0x401003 + position_start trust Wrpkru 0x401003 p
        → PositionFact trust Wrpkru 0x401003 p (opened_at 0x401004 0) → ⊥
    by Compare rip fact = omega (arith, rip)
    by Branch rip fact = omega (arith, rip)
    by Number rip fact = omega (arith, rip)
    by Leave rip fact = omega (arith, rip)

-- without an origin
without_origin : IsInCheck trust code (record (opened_at 0x401003 0) { origin = None }) → ⊥
without_origin h = let e : None ≡ Some h.origin = h.from in cc
