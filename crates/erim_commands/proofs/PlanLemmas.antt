-- What a plan that was carried out says, for every plan.
use Rattle.std.proofs.Common.{◌≡◌, ◌≢◌, ◌∙◌, ℕ, List, length, Option, Some, refl, sym, subst, arith}
use Rattle.std.proofs.Common.{inl, inr, le-ltb, lt-ltb}
use Rattle.std.specs.Prelude.{◌⊎◌, ◌<◌, ◌≤◌, ⊤}
use Rattle.erim_io.specs.Store.{Name, Files, Holds}
use Rattle.erim_defs.specs.Encoding.Parts.{AreBytes}
use Rattle.erim_commands.specs.declared.reply.Status.{Status}
use Rattle.erim_commands.specs.declared.reply.Status.TheVariants.{Done, AtFault, NotUnderstood}
use Rattle.erim_commands.specs.declared.reply.Status.TheVariants.{ImageRefused, JournalRefused}
use Rattle.erim_commands.specs.declared.reply.Status.TheVariants.{Spent}
use Rattle.erim_commands.specs.declared.reply.Status.TheVariants.{RewriteRefused}
use Rattle.erim_commands.specs.Statuses.{code_of}
use Rattle.erim_commands.specs.Replies.{Reply}
use Rattle.erim_commands.specs.Plans.{Plan, Ask, Tell, end_of}
use Rattle.erim_commands.specs.Delivery.{World, IsUntouched, HasNotLoaded, HasNotKept, IsCutShort}
use Rattle.erim_commands.specs.Delivery.{Answers, Carries}
use Rattle.erim_commands.specs.Promises.{IsReplying, IsReplied, TellsEnd, IsFaultless}
use Rattle.erim_commands.specs.Promises.{TellsFaultless}
use Rattle.erim_commands.specs.Promises.{TellsMemory}

-- no reply has the number of what failed, or that of out of memory
pub code_not_4 : (s : Status) → code_of s ≢ 4
code_not_4 Done e = omega (arith, e)
code_not_4 AtFault e = omega (arith, e)
code_not_4 NotUnderstood e = omega (arith, e)
code_not_4 ImageRefused e = omega (arith, e)
code_not_4 JournalRefused e = omega (arith, e)
code_not_4 Spent e = omega (arith, e)
code_not_4 RewriteRefused e = omega (arith, e)

pub code_not_5 : (s : Status) → code_of s ≢ 5
code_not_5 Done e = omega (arith, e)
code_not_5 AtFault e = omega (arith, e)
code_not_5 NotUnderstood e = omega (arith, e)
code_not_5 ImageRefused e = omega (arith, e)
code_not_5 JournalRefused e = omega (arith, e)
code_not_5 Spent e = omega (arith, e)
code_not_5 RewriteRefused e = omega (arith, e)

-- each file that a plan comes to over these files, and goes on by, has bytes
abbrev pub LoadsBytes : {A : Type 0} → Plan A → Files → Type 0
LoadsBytes (Tell a) files = ⊤
LoadsBytes (Ask name limit too_large next) files =
    (bytes : List ℕ) → files name ≡ Some bytes → length bytes ≤ limit
    → AreBytes bytes × LoadsBytes (next bytes) files

module _ {A : Type 0} (IsAnswer : A → Reply → Type 0) where
  -- a delivery that was no fault is whole
  replied : (a : A) (old new : World) (status : ℕ) → Answers IsAnswer a old new status
      → IsReplying status → IsReplied IsAnswer a old new status
  replied a old new status (reply, is, inl done) replying =
      record { reply = reply; answer = is; code = done.0; whole = done.1 }
  replied a old new status (reply, is, inr (inl failed)) replying = absurd (replying.0 failed.0)
  replied a old new status (reply, is, inr (inr nothing)) replying = absurd (replying.1 nothing.0)

  pub tells_end : (plan : Plan A) (old new : World) (status : ℕ)
      → Carries IsAnswer plan old new status → TellsEnd IsAnswer plan old new status
  unfolding end_of
  tells_end (Tell a) old new status (inl answers) files held replying =
      (a, refl, replied a old new status answers replying)
  tells_end (Tell a) old new status (inr nothing) files held replying =
      absurd (replying.1 nothing.0)
  tells_end (Ask name limit a next) old new status (inl on) files held replying =
      let there : files name ≡ Some on.0 =
      subst (λ (h : Option Files). Holds h name (Some on.0)) held on.1 in
      let rest = tells_end (next on.0) old new status on.4 files held replying in
      (rest.0, rw (there, le-ltb limit (length on.0) on.2) rest.1, rest.2)
  tells_end (Ask name limit a next) old new status (inr (inl (long, answers))) files held replying =
      let there : files name ≡ Some long.0 =
      subst (λ (h : Option Files). Holds h name (Some long.0)) held long.1 in (
        a,
        rw (there, lt-ltb limit (length long.0) long.2) refl,
        replied a old new status answers
            replying,
      )
  tells_end (Ask name limit a next) old new status (inr (inr (inl lost))) files held replying =
      absurd (replying.0 lost.0)
  tells_end (Ask name limit a next) old new status (inr (inr (inr nothing))) files held replying =
      absurd (replying.1 nothing.0)

  -- a plan that was carried out went on by bytes alone
  pub loads_bytes : (plan : Plan A) (old new : World) (status : ℕ) (files : Files)
      → Carries IsAnswer plan old new status → old.held ≡ Some files → IsReplying status
      → LoadsBytes plan files
  loads_bytes (Tell a) old new status files carries held replying = tt
  loads_bytes (Ask name limit a next) old new status files (inl on) held replying =
      λ bytes there within.
      let here : files name ≡ Some on.0 =
      subst (λ (h : Option Files). Holds h name (Some on.0)) held on.1 in
      let same : on.0 ≡ bytes = (let e = sym here ∙ there in cc) in
      let P : List ℕ → Type 0 = λ bs. AreBytes bs × LoadsBytes (next bs) files in
      subst P same
      (on.3, loads_bytes (next on.0) old new status files on.4 held replying)
  loads_bytes (Ask name limit a next) old new status files (inr (inl (long, answers))) held
      replying =
      λ bytes there within.
      let here : files name ≡ Some long.0 =
      subst (λ (h : Option Files). Holds h name (Some long.0)) held long.1 in
      let same : long.0 ≡ bytes = (let e = sym here ∙ there in cc) in
      let over : limit < length bytes = subst (λ (bs : List ℕ). limit < length bs) same long.2 in
      absurd (omega (arith, over, within))
  loads_bytes (Ask name limit a next) old new status files (inr (inr (inl lost))) held replying =
      absurd (replying.0 lost.0)
  loads_bytes (Ask name limit a next) old new status files (inr (inr (inr nothing))) held replying =
      absurd (replying.1 nothing.0)

  untouched_faultless : (old new : World) → IsUntouched old new → IsFaultless old new
  untouched_faultless old new is =
      record { loads = is.store.loads; saves = is.store.saves; puts = is.puts }

  faultless_by : (a : A) (old new : World) (status : ℕ) → Answers IsAnswer a old new status
      → status ≢ 4 → IsFaultless old new
  faultless_by a old new status (reply, is, inl done) other =
      record { loads = done.1.store.loads; saves = done.1.store.saves; puts = done.1.puts }
  faultless_by a old new status (reply, is, inr (inl failed)) other = absurd (other failed.0)
  faultless_by a old new status (reply, is, inr (inr nothing)) other =
      untouched_faultless old new nothing.1

  pub tells_faultless : (plan : Plan A) (old new : World) (status : ℕ)
      → Carries IsAnswer plan old new status → TellsFaultless old new status
  tells_faultless (Tell a) old new status (inl answers) other =
      faultless_by a old new status answers other
  tells_faultless (Tell a) old new status (inr nothing) other =
      untouched_faultless old new nothing.1
  tells_faultless (Ask name limit a next) old new status (inl on) other =
      tells_faultless (next on.0) old new status on.4 other
  tells_faultless (Ask name limit a next) old new status (inr (inl (long, answers))) other =
      faultless_by a old new status answers other
  tells_faultless (Ask name limit a next) old new status (inr (inr (inl lost))) other =
      absurd (other lost.0)
  tells_faultless (Ask name limit a next) old new status (inr (inr (inr nothing))) other =
      untouched_faultless old new nothing.1

  memory_by : (a : A) (old new : World) (status : ℕ) → Answers IsAnswer a old new status
      → status ≡ 5 → IsUntouched old new
  memory_by a old new status (reply, is, inl done) five =
      absurd (code_not_5 reply.status (sym done.0 ∙ five))
  memory_by a old new status (reply, is, inr (inl failed)) five =
      absurd (omega (arith, failed.0, five))
  memory_by a old new status (reply, is, inr (inr nothing)) five = nothing.1

  pub tells_memory : (plan : Plan A) (old new : World) (status : ℕ)
      → Carries IsAnswer plan old new status → TellsMemory old new status
  tells_memory (Tell a) old new status (inl answers) five = memory_by a old new status answers five
  tells_memory (Tell a) old new status (inr nothing) five = nothing.1
  tells_memory (Ask name limit a next) old new status (inl on) five =
      tells_memory (next on.0) old new status on.4 five
  tells_memory (Ask name limit a next) old new status (inr (inl (long, answers))) five =
      memory_by a old new status answers five
  tells_memory (Ask name limit a next) old new status (inr (inr (inl lost))) five =
      absurd (omega (arith, lost.0, five))
  tells_memory (Ask name limit a next) old new status (inr (inr (inr nothing))) five = nothing.1

  -- each name that a plan loads has a property, and so has each of its ends
  abbrev pub Always : (Name → Type 0) → (A → Type 0) → Plan A → Type 0
  Always L P (Tell a) = P a
  Always L P (Ask name limit too_large next) = L name × P too_large × ((bytes : List ℕ)
      → Always L P (next bytes))

  -- an end of the plan was replied
  pub always_replied : (L : Name → Type 0) (P : A
      → Type 0) (plan : Plan A) (old new : World) (status :
      ℕ) → Always L P plan → Carries IsAnswer plan old new status → IsReplying status
      → (a : A) × P a × IsReplied IsAnswer a old new status
  always_replied L P (Tell a) old new status p (inl answers) replying =
      (a, p, replied a old new status answers replying)
  always_replied L P (Tell a) old new status p (inr nothing) replying =
      absurd (replying.1 nothing.0)
  always_replied L P (Ask name limit a next) old new status p (inl on) replying =
      always_replied L P (next on.0) old new status (p.2 on.0) on.4 replying
  always_replied L P (Ask name limit a next) old new status p (inr (inl (long, answers))) replying =
      (a, p.1, replied a old new status answers replying)
  always_replied L P (Ask name limit a next) old new status p (inr (inr (inl lost))) replying =
      absurd (replying.0 lost.0)
  always_replied L P (Ask name limit a next) old new status p (inr (inr (inr nothing))) replying =
      absurd (replying.1 nothing.0)

  -- a load of the plan failed, or the save or a put of one of its ends
  abbrev pub Failure : (Name → Type 0) → (A → Type 0) → World → World → Type 0
  Failure L P old new =
      ((name : Name) × L name × HasNotLoaded name old new)
      ⊎ ((a : A) × P a × ((reply : Reply) × IsAnswer a reply
      × (HasNotKept reply.save old new ⊎ IsCutShort reply old new)))

  failed_by : (L : Name → Type 0) (P : A → Type 0) (a : A) (old new : World) (status : ℕ) → P a
      → Answers IsAnswer a old new status → status ≡ 4 → Failure L P old new
  failed_by L P a old new status p (reply, is, inl done) four =
      absurd (code_not_4 reply.status (sym done.0 ∙ four))
  failed_by L P a old new status p (reply, is, inr (inl failed)) four =
      inr (a, p, (reply, is, failed.1))
  failed_by L P a old new status p (reply, is, inr (inr nothing)) four =
      absurd (omega (arith, nothing.0, four))

  pub always_failed : (L : Name → Type 0) (P : A
      → Type 0) (plan : Plan A) (old new : World) (status :
      ℕ) → Always L P plan → Carries IsAnswer plan old new status → status ≡ 4
      → Failure L P old new
  always_failed L P (Tell a) old new status p (inl answers) four =
      failed_by L P a old new status p answers four
  always_failed L P (Tell a) old new status p (inr nothing) four =
      absurd (omega (arith, nothing.0, four))
  always_failed L P (Ask name limit a next) old new status p (inl on) four =
      always_failed L P (next on.0) old new status (p.2 on.0) on.4 four
  always_failed L P (Ask name limit a next) old new status p (inr (inl (long, answers))) four =
      failed_by L P a old new status p.1 answers four
  always_failed L P (Ask name limit a next) old new status p (inr (inr (inl lost))) four =
      inl (name, p.0, lost.1)
  always_failed L P (Ask name limit a next) old new status p (inr (inr (inr nothing))) four =
      absurd (omega (arith, nothing.0, four))
