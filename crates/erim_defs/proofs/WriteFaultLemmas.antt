-- What holds after an access that stops: at a fault that ends the process, or at a write fault.
use Rattle.std.proofs.Common.{◌≡◌, ◌/◌, ℕ, Option, Some, None, true, false, refl, inl, inr}
use Rattle.std.proofs.lemmas.Bool.{cases_Bool}
use Rattle.erim_defs.specs.declared.machine.Rights.{Rights}
use Rattle.erim_defs.specs.declared.machine.Access.{Access}
use Rattle.erim_defs.specs.declared.machine.Access.TheVariants.{Fault, Missing}
use Rattle.erim_defs.specs.declared.machine.Cause.TheVariants.{Write as WriteCause}
use Rattle.erim_defs.specs.Machine.MapCalls.{is_pinned}
use Rattle.erim_defs.specs.Machine.Pages.{taken_back_rights, with_value_at}
use Rattle.erim_defs.specs.Machine.State.{State}
use Rattle.erim_defs.specs.Machine.Step.{Runner, after_fault, after_stop, after_write_fault}
use Rattle.erim_defs.specs.Machine.Step.{is_write_fault}

-- what holds where a fault ends the process, and at write faults, holds at every access that stops
pub stop_either : (P : State → Type 0) (a : Access) (r : Runner) (s : State) → P (after_fault a r s)
    → ((x : ℕ) → a ≡ Fault WriteCause x → P (after_write_fault (s.rights (x / 4096)) x r s))
    → P (after_stop a r s)
stop_either P (Fault WriteCause x) r s f g = g x refl
stop_either P other r s f g = f

-- what holds at a fault, and of a page that is taken back, holds at a write fault
pub write_either : (P : State → Type 0) (o : Option Rights) (x : ℕ) (t : Runner) (s : State)
    → P (after_fault (Fault WriteCause x) t s) → P s
    → ((r : Rights) → o ≡ Some r → is_write_fault r t.thread.pkru ≡ true
    → is_pinned s.threads (x / 4096) ≡ false
    → P (record s { rights = with_value_at s.rights (x / 4096) (Some (taken_back_rights r)) }))
    → P (after_write_fault o x t s)
write_either P None x t s f same back = f
write_either P (Some r) x t s f same back =
    elim (cases_Bool (is_write_fault r t.thread.pkru)) [
      | inr n ↦ rw n f
      | inl y ↦ elim (cases_Bool (is_pinned s.threads (x / 4096))) [
        | inl p ↦ rw (y, p) same
        | inr p ↦ rw (y, p) (back r refl y p)
      ]
    ]

-- the threads stay
pub stop_threads : (a : Access) (r : Runner) (s : State) → (after_stop a r s).threads ≡ s.threads
stop_threads a r s =
    stop_either (λ x. x.threads ≡ s.threads) a r s (ended a)
    (λ x e. write_either (λ y. y.threads ≡ s.threads) (s.rights (x / 4096)) x r s refl refl
    (λ y m w free. refl))
  where
    ended : (a : Access) → (after_fault a r s).threads ≡ s.threads
    ended (Fault cause x) = refl
    ended (Missing q) = refl
