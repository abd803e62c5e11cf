-- The laws of one step, together.
use Rattle.std.proofs.Common.{◌≡◌, ℕ, ◌&&◌, List, Option, Some, None, true, ltb, refl, inl, inr}
use Rattle.std.specs.Prelude.{is_none}
use Rattle.std.proofs.lemmas.Bool.{cases_Bool, and_parts}
use Rattle.erim_defs.specs.declared.machine.End.{End}
use Rattle.erim_defs.specs.declared.machine.Entry.{Entry}
use Rattle.erim_defs.specs.declared.machine.Thread.{Thread}
use Rattle.erim_defs.specs.Machine.Isolation.{IsStartable}
use Rattle.erim_defs.specs.Machine.Replay.{replay}
use Rattle.erim_defs.specs.Machine.State.{Setup, State}
use Rattle.erim_defs.specs.Machine.Step.{step, ready_thread, after_step_of}
use Rattle.erim_defs.specs.Machine.Lawful.{IsLawful}
use Rattle.isolation.specs.Laws.{CanStep, LawfulLaw}
use Rattle.isolation.proofs.CheckLaw.{checks_law}
use Rattle.isolation.proofs.KeptLemmas.{runner_is}
use Rattle.isolation.proofs.CloneLemmas.{made_law}
use Rattle.isolation.proofs.OpenLemmas.{open_law}
use Rattle.isolation.proofs.PublishLemmas.{publish_law, refuse_law}
use Rattle.isolation.proofs.TouchLemmas.{touch_law}

none_is : (o : Option End) → is_none o ≡ true → o ≡ None
none_is None h = refl
none_is (Some e) h = absurd cc

-- where a thread can make a step the process hasn't ended
ready_goes : (s : State) (t : ℕ) (old : Thread) → ready_thread s t ≡ Some old → s.end ≡ None
ready_goes s t old e = elim (cases_Bool (is_none s.end && ltb s.steps s.setup.budget)) [
  | inl on ↦ none_is s.end (and_parts (is_none s.end) (ltb s.steps s.setup.budget) on).0
  | inr off ↦ absurd (let none : None ≡ Some old = rw off at e in cc)
]

can_step : (o : Option Thread) (setup : Setup) (entries : List Entry) (s new : State) (t : ℕ)
    → IsStartable setup → replay setup entries ≡ Some s → ready_thread s t ≡ o
    → after_step_of o t s ≡ Some new → (old : Thread) × CanStep s t old
can_step None setup entries s new t h r ready e = absurd cc
can_step (Some old) setup entries s new t h r ready e = (
  old,
  record {
    setup = setup;
    entries = entries;
    startable = h;
    reached = r;
    going = ready_goes s t old ready;
    at = (runner_is s t old ready).0;
    live = (runner_is s t old ready).1;
  },
)

by_law : (s new : State) (t : ℕ) (old : Thread) → CanStep s t old → step t s ≡ Some new
    → IsLawful t s new
by_law s new t old r e = record {
  old = old;
  at = r.at;
  live = r.live;
  touches = λ domain none is touch. touch_law s t old domain r none is touch;
  checks = λ none out. checks_law s new t old r none out e;
  opens = λ i domain a b before after shut opened. open_law s new t i domain a b old r e before
      after
      shut opened;
  makes = λ number u none some. made_law s new t number old u r e none some;
  publishes = λ q before. publish_law s new t q old r e before;
  refuses = λ u q found. refuse_law s new t u q found old r e;
}

pub lawful_law : LawfulLaw
unfolding step
lawful_law setup h entries s new t r e =
    let can = can_step (ready_thread s t) setup entries s new t h r refl e in
    by_law s new t can.0 can.1 e
