-- An open thread outside trusted text goes on in its check, to the end of the process.
use Rattle.std.proofs.Common.{◌≡◌, ◌≢◌, ◌<◌, ◌+◌, ◌%◌, ◌^◌, ◌⊎◌, ℕ, zero, suc, List, [], ◌∷◌}
use Rattle.std.proofs.Common.{length, Some, None, true, false, refl, sym, ap, ◌∙◌, arith, inl, inr}
use Rattle.std.specs.Prelude.{slice_get, slice_set}
use Rattle.erim_defs.specs.declared.found.SeqKind.{SeqKind}
use Rattle.erim_defs.specs.declared.found.SeqKind.TheVariants.{Wrpkru, Xrstor}
use Rattle.erim_defs.specs.declared.machine.Thread.{Thread}
use Rattle.erim_defs.specs.declared.machine.End.TheVariants.{Exit}
use Rattle.erim_defs.specs.declared.insn.Insn.{Insn}
use Rattle.erim_defs.specs.declared.insn.Insn.TheVariants.{Syscall}
use Rattle.erim_defs.specs.declared.insn.FetchOutcome.TheVariants.{Runs}
use Rattle.erim_defs.specs.Machine.Pages.{ByteMap}
use Rattle.erim_defs.specs.Machine.Access.{Seen, whole}
use Rattle.erim_defs.specs.Inspection.Image.{image_trust}
use Rattle.erim_defs.specs.Machine.Plan.{Plan, Give, Effect, Done, Called, effect}
use Rattle.erim_defs.specs.Machine.Registers.{register}
use Rattle.erim_defs.specs.Machine.Meaning.{plan}
use Rattle.erim_defs.specs.Machine.State.{State, code, with_origin, is_outside, trust_of}
use Rattle.erim_defs.specs.Machine.CallResult.{Quit, CallResult}
use Rattle.erim_defs.specs.Machine.Calls.{call_result}
use Rattle.erim_defs.specs.Machine.Step.{after_instruction, after_call, after_fetch, sequence_of}
use Rattle.erim_defs.specs.Machine.Step.{after_syscall, fetch}
use Rattle.erim_defs.specs.Machine.Isolation.{IsInCheck, Stands, PositionFact}
use Rattle.erim_defs.specs.Machine.Lawful.{ChecksOn}
use Rattle.erim_defs.specs.Machine.Lawful.{Faults, GoesOn, Ends}
use Rattle.isolation.specs.Laws.{ChecksLaw}
use Rattle.erim_defs.proofs.OccurrenceLemmas.{occurrence_few, occurrence_there}
use Rattle.isolation.proofs.CheckLemmas.{check_fetched}
use Rattle.isolation.proofs.StandLemmas.{place_after, place_plan, place_moves, is_leave, leave_insn}
use Rattle.isolation.proofs.StandLemmas.{low_at}
use Rattle.isolation.proofs.KeptLemmas.{code_kind, entered_zero, kept_low, reply_quit}
use Rattle.isolation.proofs.AlwaysLemmas.{IsGood}
use Rattle.isolation.proofs.GrammarFacts.{Known, decoder}
use Rattle.isolation.proofs.RunLemmas.{entered_reg, run_good, stands_now, step_moves}
use Rattle.erim_defs.specs.Inspection.Trust.{TrustValue}
use Rattle.erim_defs.specs.Inspection.Check.{Position, Compare, Branch, Number, Leave, check_insn}
use Rattle.erim_defs.specs.Inspection.Check.{check_bytes}

pub set_here : (ts : List Thread) (t : ℕ) (v old : Thread) → slice_get ts t ≡ Some old
    → slice_get (slice_set ts t v) t ≡ Some v
set_here [] t v old h = absurd cc
set_here (x ∷ ts) zero v old h = refl
set_here (x ∷ ts) (suc t) v old h = set_here ts t v old h

does_give : (p : Plan) (new : Thread) (seen : Seen) (bytes : ByteMap) (pkru rip : ℕ)
    → p ≡ Give new None → effect p seen bytes pkru rip ≡ Done new None
unfolding effect
does_give p new seen bytes pkru rip e = rw e refl

does_call : (insn : Insn) (len : ℕ) (t : Thread) (seen : Seen) (bytes : ByteMap) (pkru rip : ℕ)
    → insn ≡ Syscall → effect (plan insn len t) seen bytes pkru rip ≡ Called
unfolding effect plan
does_call insn len t seen bytes pkru rip e = rw e refl

leave_fact : (trust : TrustValue) (k : SeqKind) (next : ℕ) (p : Position) (t : Thread)
    → PositionFact trust k next p t → p ≡ Leave → register t 0 ≡ 231
leave_fact trust Wrpkru next Leave t f e = f
leave_fact trust Wrpkru next Compare t f e = absurd cc
leave_fact trust Wrpkru next Branch t f e = absurd cc
leave_fact trust Wrpkru next Number t f e = absurd cc
leave_fact trust Xrstor next Leave t f e = f
leave_fact trust Xrstor next Compare t f e = absurd cc
leave_fact trust Xrstor next Branch t f e = absurd cc
leave_fact trust Xrstor next Number t f e = absurd cc

-- a step by an instruction that gives a thread without a write
goes_on : (s new : State) (t : ℕ) (old : Thread)
    (w : IsInCheck (image_trust s.setup.image) (code s) old) (insn : Insn) (len : ℕ)
    → insn ≡ check_insn (trust_of s) w.origin.kind (w.origin.at + w.origin.len) w.position
    → len ≡ length (check_bytes (trust_of s) w.origin.kind (w.origin.at + w.origin.len) w.position)
    → IsGood Known s → slice_get s.threads t ≡ Some old → w.position ≢ Leave
    → fetch (code s) old.rip ≡ Runs insn len 0
    → after_fetch (Runs insn len 0) (record { number = t; thread = old })
    (record s { steps = s.steps + 1 }) ≡ new → ChecksOn s new t old
goes_on s new t old w insn len is size g at n runs m =
    let later : State = record s { steps = s.steps + 1 } in
    let next : Thread = place_after (trust_of s) w.origin.kind (w.origin.at + w.origin.len)
    w.position len old in
    let p : plan insn len old ≡ Give next None =
    rw is (place_plan (trust_of s) w.origin.kind (w.origin.at + w.origin.len) w.position len old
    n w.fact) in
    let d : effect (plan insn len old) (whole s.rights) s.bytes old.pkru old.rip ≡ Done next None =
    does_give (plan insn len old) next (whole s.rights) s.bytes old.pkru old.rip p in
    let after : Thread = with_origin (trust_of s)
    (sequence_of (record { insn = insn; len = len; skip = 0 }) old.rip) next in
    let threads : slice_set s.threads t after ≡ new.threads =
    ap (λ (x : Effect). (after_instruction x (record { insn = insn; len = len; skip = 0 })
    (record { number = t; thread = old }) later).threads) (sym d) ∙ ap (λ (x :
    State). x.threads) m in
    let moves = place_moves (trust_of s) w.origin.kind (w.origin.at + w.origin.len) w.position len
    old n in
    let to = moves.rip in
    let long = occurrence_few (code s) w.origin.at w.origin w.occurs in
    let near : w.origin.at < 2 ^ 47 =
    low_at (code s) w.origin.at (kept_low s g.kept)
    (occurrence_there (code s) w.origin.at w.origin w.occurs w.origin.at (omega arith)
    (omega (arith, long.many))) in
    let rip = w.rip in
    let sized = place_moves (trust_of s) w.origin.kind (w.origin.at + w.origin.len) w.position
    (length (check_bytes (trust_of s) w.origin.kind (w.origin.at + w.origin.len) w.position))
    old n in
    let short = sized.short in
    GoesOn w len after n (runs
    ∙ ap (λ (i : Insn). Runs i len 0) is) (ap (λ (ts : List Thread). slice_get ts t)
    (sym threads) ∙ set_here s.threads t after old at) (omega
    (arith, to, long.few, near, rip, short, size))

-- a step by the call of the check
ends : (s new : State) (t : ℕ) (old : Thread) (insn : Insn) (len : ℕ) → insn ≡ Syscall
    → register old 0 ≡ 231 → fetch (code s) old.rip ≡ Runs insn len 0
    → after_fetch (Runs insn len 0) (record { number = t; thread = old })
    (record s { steps = s.steps + 1 }) ≡ new → ChecksOn s new t old
ends s new t old insn len is number runs m =
    let later : State = record s { steps = s.steps + 1 } in
    let d : effect (plan insn len old) (whole s.rights) s.bytes old.pkru old.rip ≡ Called =
    does_call insn len old (whole s.rights) s.bytes old.pkru old.rip is in
    let q : call_result later t (after_syscall len old)
    ≡ Quit (register (after_syscall len old) 7 % 256) =
    reply_quit later t (after_syscall len old) (entered_zero len old ∙ number) in
    let status : register (after_syscall len old) 7 ≡ register old 7 =
    entered_reg len 7 old (omega arith) (omega arith) in
    let over : Some (Exit (register (after_syscall len old) 7 % 256)) ≡ new.end =
    ap (λ (r : CallResult). (after_call r (record { number = t; thread = old })
    (after_syscall len old) later).end) (sym q) ∙ ap (λ (x : Effect). (after_instruction x
    (record { insn = insn; len = len; skip = 0 }) (record { number = t; thread = old })
    later).end) (sym d) ∙ ap (λ (x : State). x.end) m in
    Ends len (runs ∙ ap (λ (i : Insn). Runs i len 0) is) number (sym over
    ∙ ap (λ n. Some (Exit (n % 256))) status)

checks_in : (s new : State) (t : ℕ) (old : Thread) → IsGood Known s
    → slice_get s.threads t ≡ Some old
    → after_fetch (fetch (code s) old.rip) (record { number = t; thread = old })
    (record s { steps = s.steps + 1 }) ≡ new
    → IsInCheck (image_trust s.setup.image) (code s) old → ChecksOn s new t old
checks_in s new t old g at m w =
    elim (check_fetched decoder (image_trust s.setup.image) (code s) old (code_kind Known s g.kind)
    g.kept.safe w) [
      | inr (x, e) ↦ Faults x e
      | inl e ↦ by_place (is_leave w.position) e
          (ap (λ f. after_fetch f (record { number = t; thread = old })
          (record s { steps = s.steps + 1 })) (sym e) ∙ m)
    ]
  where
    by_place : (w.position ≡ Leave) ⊎ (w.position ≢ Leave)
        → fetch (code s) old.rip
        ≡ Runs (check_insn (trust_of s) w.origin.kind (w.origin.at + w.origin.len) w.position)
        (length (check_bytes (trust_of s) w.origin.kind (w.origin.at + w.origin.len) w.position)) 0
        → after_fetch (Runs (check_insn (trust_of s) w.origin.kind (w.origin.at + w.origin.len)
        w.position) (length (check_bytes (trust_of s) w.origin.kind (w.origin.at + w.origin.len)
        w.position)) 0) (record { number = t; thread = old }) (record s { steps = s.steps + 1 })
        ≡ new → ChecksOn s new t old
    by_place (inl l) e k =
        ends s new t old (check_insn (trust_of s) w.origin.kind (w.origin.at + w.origin.len)
        w.position) (length (check_bytes (trust_of s) w.origin.kind (w.origin.at + w.origin.len)
        w.position)) (leave_insn (trust_of
        s) w.origin.kind (w.origin.at + w.origin.len) w.position l) (leave_fact (trust_of
        s) w.origin.kind (w.origin.at + w.origin.len) w.position old w.fact l) e k
    by_place (inr n) e k = goes_on s new t old w
        (check_insn (trust_of s) w.origin.kind (w.origin.at + w.origin.len) w.position)
        (length (check_bytes (trust_of s) w.origin.kind (w.origin.at + w.origin.len) w.position))
        refl refl g at n e k

checks_by : (s new : State) (t : ℕ) (old : Thread) → IsGood Known s
    → slice_get s.threads t ≡ Some old
    → after_fetch (fetch (code s) old.rip) (record { number = t; thread = old })
    (record s { steps = s.steps + 1 }) ≡ new
    → is_outside (trust_of s) old ≡ true → Stands (trust_of s) (code s) old → ChecksOn s new t old
checks_by s new t old g at m out (inl n) = absurd (let z : false ≡ true = sym n ∙ out in cc)
checks_by s new t old g at m out (inr w) = checks_in s new t old g at m w

pub checks_law : ChecksLaw
checks_law s new t old r e out step =
    checks_by s new t old (run_good s t old r) r.at (step_moves t s new old r.at step) out
    (stands_now s t old r e)
