-- A thread stands in trusted text, in its check, or is closed: over an instruction, and over a
-- call.
use Rattle.std.proofs.Common.{◌≡◌, ◌≢◌, ◌<◌, ◌≤◌, ◌+◌, ◌-◌, ◌%◌, ◌^◌, ◌⊎◌, ℕ, List, length, Option}
use Rattle.std.proofs.Common.{Some, None, is_some, Bool, true, false, not, ◌&&◌, refl, sym, ap}
use Rattle.std.proofs.Common.{subst, ◌∙◌}
use Rattle.std.proofs.Common.{arith, inl, inr, ne_eqb, get_or-set_same}
use Rattle.std.specs.Prelude.{slice_index}
use Rattle.std.specs.Int.{w32}
use Rattle.std.proofs.lemmas.Bool.{cases_Bool, cases_lt}
use Rattle.erim_defs.specs.declared.found.SeqKind.{SeqKind}
use Rattle.erim_defs.specs.declared.found.SeqKind.TheVariants.{Wrpkru as WrpkruKind}
use Rattle.erim_defs.specs.declared.found.SeqKind.TheVariants.{Xrstor as XrstorKind}
use Rattle.erim_defs.specs.declared.found.Found.{Found}
use Rattle.erim_defs.specs.declared.machine.Thread.{Thread}
use Rattle.erim_defs.specs.declared.machine.Flags.{Flags}
use Rattle.erim_defs.specs.declared.insn.Insn.{Insn}
use Rattle.erim_defs.specs.declared.insn.Insn.TheVariants.{Syscall, Wrpkru, Xrstor}
use Rattle.erim_defs.specs.declared.insn.AluOp.TheVariants.{Cmp}
use Rattle.erim_defs.specs.declared.insn.Decoded.{Decoded}
use Rattle.erim_defs.specs.declared.insn.Decoded.TheVariants as answers
use Rattle.erim_defs.specs.declared.insn.FetchOutcome.TheVariants.{Runs, Need}
use Rattle.erim_defs.specs.Inspection.Code.{Code, or_else}
use Rattle.erim_defs.specs.Machine.Pages.{ByteMap, code_bytes}
use Rattle.erim_defs.specs.Machine.Access.{Seen}
use Rattle.erim_defs.specs.Machine.Domains.{is_set_but, opened_domains}
use Rattle.erim_defs.specs.Machine.Operands.{immediate}
use Rattle.erim_defs.specs.declared.insn.Width.TheVariants.{W4}
use Rattle.erim_defs.proofs.DomainLemmas.{outside_open, pkru_at_home, pkru_closed, pkru_few}
use Rattle.std.specs.Int.{cast_signed}
use Rattle.std.proofs.lemmas.Int.{to_z_pos}
use Rattle.std.proofs.Common.{cond}
use Rattle.erim_defs.specs.Encoding.Decoding.{decode}
use Rattle.erim_defs.specs.Machine.Plan.{Plan, Give, Write, Done, Called, effect}
use Rattle.erim_defs.specs.Machine.Registers.{onward, with_register, eax, register}
use Rattle.erim_defs.specs.Machine.Alu.{alu, bt, condition}
use Rattle.erim_defs.specs.Machine.Meaning.{plan, plan_alu, plan_bt, plan_jcc, plan_mov}
use Rattle.erim_defs.specs.Machine.State.{with_origin, is_escape, is_outside, is_open}
use Rattle.erim_defs.specs.Machine.Step.{writes_pkru, sequence_of, fetch, fetch_as}
use Rattle.erim_defs.specs.Machine.Isolation.{IsSafeCode, IsInCheck, Stands, PositionFact}
use Rattle.erim_defs.proofs.OccurrenceLemmas.{occurrence_few, occurrence_there}
use Rattle.encoding_laws.proofs.SequenceEncodings.{insn_kind}
use Rattle.isolation.proofs.DecoderFacts.{Decoder}
use Rattle.isolation.proofs.ListLemmas.{OfCode, IsSequence, sequence_fact}
use Rattle.isolation.proofs.CheckLemmas.{check_fetched}
use Rattle.erim_defs.proofs.PlanLemmas.{Goes, done_goes}
use Rattle.erim_defs.specs.Inspection.Trust.{TrustValue, entry_key, is_entry_of, pkru_of, text_key}
use Rattle.erim_defs.specs.Inspection.Check.{Position, Compare, Branch, Number, Leave, check_insn}
use Rattle.erim_defs.specs.Inspection.Check.{check_bytes, position_start, compared_value, pkru_bit}
use Rattle.erim_defs.specs.Inspection.Safe.{opens_gate}
use Rattle.erim_defs.specs.Bits.{has_bit}

-- no byte of a code stands from 2^47 on
abbrev pub IsLow : Code → Type 0
IsLow c = (a : ℕ) → 2 ^ 47 ≤ a → c a ≡ None

-- the entries of a setup lie in the text of their domain; where an entry is enough, a thread is at
-- home there
pub record EntriesIn (trust : TrustValue) : Type 0 where
  pub home : (a : ℕ) → (text_key trust a ≡ entry_key trust a) ⊎ (entry_key trust a ≡ 0)
  pub plain : trust.strict ≡ false → (a p : ℕ) → is_entry_of trust a ≡ true
      → is_set_but (text_key trust a) (opened_domains trust p) ≡ false

pub low_at : (c : Code) (a : ℕ) → IsLow c → is_some (c a) ≡ true → a < 2 ^ 47
low_at c a l h = elim (cases_lt a (2 ^ 47)) [
  | inl e ↦ e
  | inr e ↦
      absurd (let k : false ≡ true = rw (l a e) at h in cc)
]

fetched_is : (d : Decoded) (x : ℕ) (insn : Insn) (len skip : ℕ) → fetch_as d x ≡ Runs insn len skip
    → d ≡ answers.Insn insn len skip
fetched_is (answers.Insn i l k) x insn len skip h = let e : i ≡ insn = cc in let f : l ≡ len = cc in
    let g : k ≡ skip = cc in rw (e, f, g) refl
fetched_is answers.Undefined x insn len skip h = absurd cc
fetched_is answers.Short x insn len skip h = absurd cc

-- what runs was decoded
pub fetched_decoded : (c : Code) (rip : ℕ) (insn : Insn) (len skip : ℕ)
    → fetch c rip ≡ Runs insn len skip → decode (code_bytes c rip 15) ≡ answers.Insn insn len skip
unfolding fetch
fetched_decoded c rip insn len skip h = fetched_is (decode (code_bytes c rip 15)) _ insn len skip h

-- a thread that isn't out stands, and so does its settled form
pub stands_in : (trust : TrustValue) (c : Code) (made : Option Found) (t : Thread)
    → is_outside trust t ≡ false → Stands trust c (with_origin trust made t)
stands_in trust c made t h = inl h

settled_from : (trust : TrustValue) (made : Option Found) (t : Thread) → is_outside trust t ≡ true
    → (with_origin trust made t).origin ≡ or_else made t.origin
settled_from trust made t h = rw h refl

settled_fact : (trust : TrustValue) (made : Option Found) (t : Thread) (k : SeqKind) (next : ℕ)
    (p : Position) → PositionFact trust k next p t
    → PositionFact trust k next p (with_origin trust made t)
settled_fact trust made t WrpkruKind next Compare h = h
settled_fact trust made t WrpkruKind next Branch h = h
settled_fact trust made t WrpkruKind next Number h = h
settled_fact trust made t WrpkruKind next Leave h = h
settled_fact trust made t XrstorKind next Compare h = h
settled_fact trust made t XrstorKind next Branch h = h
settled_fact trust made t XrstorKind next Number h = h
settled_fact trust made t XrstorKind next Leave h = h

-- a thread in its check stands when it is settled
settled_check : (trust : TrustValue) (c : Code) (t : Thread) → IsInCheck trust c t
    → Stands trust c (with_origin trust None t)
settled_check trust c t w = elim (cases_Bool (is_outside trust t)) [
  | inr f ↦ stands_in trust c None t f
  | inl o ↦ inr (record {
    origin = w.origin;
    position = w.position;
    from = settled_from trust None t o ∙ w.from;
    occurs = w.occurs;
    gate = w.gate;
    rip = w.rip;
    fact = settled_fact trust None t w.origin.kind (w.origin.at + w.origin.len) w.position w.fact;
  })
]

-- ---- after a sequence

-- the value that the check compares with brings home, or closes
compared_home : (trust : TrustValue) (next : ℕ) → EntriesIn trust
    → is_set_but (text_key trust next) (opened_domains trust (compared_value trust next)) ≡ false
compared_home trust next ent = by trust.strict
  where
    at : (o : ℕ) → (text_key trust next ≡ o) ⊎ (o ≡ 0)
        → is_set_but (text_key trust next) (opened_domains trust (pkru_of trust o)) ≡ false
    at o (inl same) = subst (λ (k : ℕ). is_set_but k (opened_domains trust (pkru_of trust o))
        ≡ false)
        (sym same) (pkru_at_home trust o)
    at o (inr none) = subst (λ (k : ℕ). is_set_but (text_key trust next)
        (opened_domains trust (pkru_of trust k)) ≡ false) (sym none) (pkru_closed trust
        (text_key trust next))

    by : (b : Bool) → is_set_but (text_key trust next)
        (opened_domains trust (pkru_of trust (cond b (entry_key trust next) 0))) ≡ false
    by true = at (entry_key trust next) (ent.home next)
    by false = pkru_closed trust (text_key trust next)

no_gate : (trust : TrustValue) (t : Thread) (a : ℕ) → EntriesIn trust → is_outside trust t ≡ true
    → t.rip ≡ a → (not trust.strict && is_entry_of trust a) ≡ false
no_gate trust t a h out e = elim (cases_Bool trust.strict) [
  | inl strict ↦ rw strict refl
  | inr plain ↦ elim (cases_Bool (is_entry_of trust a)) [
    | inr n ↦ rw (plain, n) refl
    | inl y ↦ absurd (let k = h.plain plain a t.pkru y in
        let g : is_set_but (text_key trust a) (opened_domains trust t.pkru) ≡ true =
        subst (λ (b : ℕ). is_set_but (text_key trust b) (opened_domains trust t.pkru)
        ≡ true) e out in
        let z : false ≡ true = sym k ∙ g in cc)
  ]
]

-- an instruction that is free of escape is a sequence
pub free_kind : (insn : Insn) (t : Thread) → writes_pkru insn t ≡ true
    → (k : SeqKind) × (insn_kind insn ≡ Some k)
free_kind Wrpkru t f = (WrpkruKind, refl)
free_kind (Xrstor m) t f = (XrstorKind, refl)
free_kind other t f = absurd cc

pub made_of : (insn : Insn) (k : SeqKind) (len skip rip : ℕ) → insn_kind insn ≡ Some k
    → sequence_of (record { insn = insn; len = len; skip = skip }) rip
    ≡ Some (record { at = rip + skip; len = len - skip; kind = k })
made_of Wrpkru WrpkruKind len skip rip is = refl
made_of Wrpkru XrstorKind len skip rip is = absurd cc
made_of (Xrstor m) XrstorKind len skip rip is = refl
made_of (Xrstor m) WrpkruKind len skip rip is = absurd cc
made_of other k len skip rip is = absurd cc

-- what is known where its check begins
first_fact : (trust : TrustValue) (insn : Insn) (k : SeqKind) (next len : ℕ) (t new : Thread)
    → EntriesIn trust → new.rip ≡ next
    → insn_kind insn ≡ Some k → writes_pkru insn t ≡ true → Goes insn len t new
    → is_outside trust new ≡ true → PositionFact trust k next Compare new
first_fact trust Wrpkru WrpkruKind next len t new ent at is free g out = λ e.
    let same : eax new ≡ eax t = ap (λ (r : List ℕ). slice_index r 0 % 2 ^ 32) (g.same refl) in
    let p : new.pkru ≡ compared_value trust next = g.value refl ∙ sym same ∙ e in
    let z : is_set_but (text_key trust next) (opened_domains trust (compared_value trust next))
    ≡ true =
    ap (λ (a : ℕ). is_set_but (text_key trust a) (opened_domains trust
    (compared_value trust next))) (sym at)
    ∙ ap (λ (q : ℕ). is_set_but (text_key trust new.rip) (opened_domains trust q)) (sym p) ∙ out in
    let y : false ≡ true = sym (compared_home trust next ent) ∙ z in
    absurd cc
first_fact trust (Xrstor m) XrstorKind next len t new ent at is free g out =
    let same : eax new ≡ eax t = ap (λ (r : List ℕ). slice_index r 0 % 2 ^ 32) (g.same free) in
    rw same free
first_fact trust Wrpkru XrstorKind next len t new ent at is free g out = absurd cc
first_fact trust (Xrstor m) WrpkruKind next len t new ent at is free g out = absurd cc
first_fact trust other k next len t new ent at is free g out = absurd cc

-- an entry after it would be in trusted text
first_gate : (trust : TrustValue) (k : SeqKind) (a : ℕ) (t : Thread) → EntriesIn trust
    → is_outside trust t ≡ true → t.rip ≡ a → opens_gate trust k a ≡ false
first_gate trust WrpkruKind a t h f e = no_gate trust t a h f e
first_gate trust XrstorKind a t h f e = refl

-- where the thread stands after it
pub behind_sequence : (c : Code) (rip new len skip : ℕ) (k : SeqKind) → IsLow c
    → IsSequence k c rip len skip → new ≡ (rip + len) % 2 ^ 64
    → new ≡ rip + skip + (len - skip)
behind_sequence c rip new len skip k low q e =
    let o : Found = record { at = rip + skip; len = len - skip; kind = k } in
    let long = occurrence_few c (rip + skip) o q.occurs in
    let near : rip + skip < 2 ^ 47 =
    low_at c (rip + skip) low (occurrence_there c (rip + skip) o q.occurs (rip + skip)
    (omega arith) (omega (arith, long.many))) in
    omega (arith, e, q.within, q.short, near)

-- after a step that is no escape the thread stands, whatever it was: out, it is at the start of its
-- check
pub free_stands : {N : ℕ → Type 0} → Decoder N
    → (trust : TrustValue) (c : Code) (insn : Insn) (len skip : ℕ) (t new : Thread)
    → EntriesIn trust → OfCode N c → IsLow c
    → fetch c t.rip ≡ Runs insn len skip → writes_pkru insn t ≡ true → Goes insn len t new
    → Stands trust c (with_origin trust
    (sequence_of (record { insn = insn; len = len; skip = skip }) t.rip) new)
free_stands d trust c insn len skip t new ent of low f free g =
    elim (cases_Bool (is_outside trust new)) [
      | inr n ↦ stands_in trust c
          (sequence_of (record { insn = insn; len = len; skip = skip }) t.rip) new n
      | inl out ↦
          (let kind = free_kind insn t free in
          let k : SeqKind = kind.0 in
          let q = sequence_fact d k c t.rip insn len skip kind.1 of
          (fetched_decoded c t.rip insn len skip f) in
          let o : Found = record { at = t.rip + skip; len = len - skip; kind = k } in
          let to : new.rip ≡ o.at + o.len =
          behind_sequence c t.rip new.rip len skip k low q (g.next free) in
          rw (made_of insn k len skip t.rip kind.1) (inr (record {
            origin = o;
            position = Compare;
            from = settled_from trust (Some o) new out;
            occurs = q.occurs;
            gate = first_gate trust k (o.at + o.len) new ent out to;
            rip = start_at trust k new.rip (o.at + o.len) to;
            fact = settled_fact trust (Some o) new k (o.at + o.len) Compare
                (first_fact trust insn k (o.at + o.len) len t new ent to kind.1 free g out);
          })))
    ]
  where
    start_at : (trust : TrustValue) (k : SeqKind) (rip next : ℕ) → rip ≡ next
        → rip ≡ next + position_start trust k next Compare
    start_at trust WrpkruKind rip next e = omega arith
    start_at trust XrstorKind rip next e = omega arith

-- ---- in its check

-- the thread after an instruction of the check
abbrev pub place_after : TrustValue → SeqKind → ℕ → Position → ℕ → Thread → Thread
place_after trust WrpkruKind next Compare len t =
    record (onward len t) {
      flags = (alu Cmp w32 (eax t)
          (compared_value trust next) t.flags).flags;
    }
place_after trust WrpkruKind next Branch len t = onward len t
place_after trust WrpkruKind next Number len t = with_register (onward len t) 0 231
place_after trust WrpkruKind next Leave len t = t
place_after trust XrstorKind next Compare len t =
    record (onward len t) { flags = bt w32 (eax t) pkru_bit t.flags }
place_after trust XrstorKind next Branch len t = onward len t
place_after trust XrstorKind next Number len t = with_register (onward len t) 0 231
place_after trust XrstorKind next Leave len t = t

-- the number that a comparison is encoded with
immediate_is : (v : ℕ) → v < 2 ^ 31 → immediate W4 (cast_signed w32 v) ≡ v
immediate_is v few = rw (to_z_pos w32 v few) (mod_low v few)
  where
    mod_low : (n : ℕ) → n < 2 ^ 31 → n % 2 ^ 32 ≡ n
    mod_low n l = omega (arith, l)

compared_few : (trust : TrustValue) (next : ℕ) → compared_value trust next < 2 ^ 31
compared_few trust next = pkru_few trust (cond trust.strict (entry_key trust next) 0)

pub place_plan : (trust : TrustValue) (k : SeqKind) (next : ℕ) (p : Position) (len : ℕ) (t : Thread)
    → p ≢ Leave → PositionFact trust k next p t
    → plan (check_insn trust k next p) len t ≡ Give (place_after trust k next p len t) None
unfolding plan plan_alu plan_bt plan_jcc plan_mov condition
place_plan trust WrpkruKind next Compare len t n f =
    rw (immediate_is (compared_value trust next) (compared_few trust next)) refl
place_plan trust WrpkruKind next Branch len t n f = rw f refl
place_plan trust WrpkruKind next Number len t n f = refl
place_plan trust WrpkruKind next Leave len t n f = absurd (n refl)
place_plan trust XrstorKind next Compare len t n f = refl
place_plan trust XrstorKind next Branch len t n f = rw f refl
place_plan trust XrstorKind next Number len t n f = refl
place_plan trust XrstorKind next Leave len t n f = absurd (n refl)

abbrev place_next : Position → Position
place_next Compare = Branch
place_next Branch = Number
place_next Number = Leave
place_next Leave = Leave

-- numbers that differ aren't equal when they are compared
compared_not : (a v : ℕ) (f : Flags) → a < 2 ^ 32 → v < 2 ^ 31 → a ≢ v
    → (alu Cmp w32 a v f).flags.zf ≡ false
unfolding alu
compared_not a v f low few n = ne_eqb _ _ (λ e. absurd (omega (arith, low, few, n, e)))

-- a bit that is set is carried when it is tested
tested_bit : (a : ℕ) (f : Flags) → has_bit a pkru_bit ≡ true → (bt w32 a pkru_bit f).cf ≡ true
unfolding bt
tested_bit a f h = h

-- the facts lead on
place_fact : (trust : TrustValue) (k : SeqKind) (next : ℕ) (p : Position) (len : ℕ) (t : Thread)
    → p ≢ Leave → length t.regs ≡ 16 → PositionFact trust k next p t
    → PositionFact trust k next (place_next p) (place_after trust k next p len t)
place_fact trust WrpkruKind next Compare len t n l f =
    compared_not (eax t) (compared_value trust next) t.flags (omega arith)
    (compared_few trust next) f
place_fact trust WrpkruKind next Branch len t n l f = tt
place_fact trust WrpkruKind next Number len t n l f = let h : 0 < length t.regs =
    omega (arith, l) in get_or-set_same t.regs 0 231 0 h
place_fact trust WrpkruKind next Leave len t n l f = absurd (n refl)
place_fact trust XrstorKind next Compare len t n l f = tested_bit (eax t) t.flags f
place_fact trust XrstorKind next Branch len t n l f = tt
place_fact trust XrstorKind next Number len t n l f = let h : 0 < length t.regs =
    omega (arith, l) in get_or-set_same t.regs 0 231 0 h
place_fact trust XrstorKind next Leave len t n l f = absurd (n refl)

pub record Moves (trust : TrustValue) (k : SeqKind) (next : ℕ) (p : Position) (len : ℕ)
    (t : Thread) : Type 0 where
  pub rip : (place_after trust k next p len t).rip ≡ (t.rip + len) % 2 ^ 64
  pub origin : (place_after trust k next p len t).origin ≡ t.origin
  pub start : position_start trust k next (place_next p)
      ≡ position_start trust k next p + length (check_bytes trust k next p)
  pub short : position_start trust k next p + length (check_bytes trust k next p) ≤ 14

pub place_moves : (trust : TrustValue) (k : SeqKind) (next : ℕ) (p : Position) (len : ℕ)
    (t : Thread) → p ≢ Leave → Moves trust k next p len t
place_moves trust WrpkruKind next Compare len t n =
    record { rip = refl; origin = refl; start = refl; short = omega arith }
place_moves trust WrpkruKind next Branch len t n =
    record { rip = refl; origin = refl; start = refl; short = omega arith }
place_moves trust WrpkruKind next Number len t n =
    record { rip = refl; origin = refl; start = refl; short = omega arith }
place_moves trust WrpkruKind next Leave len t n = absurd (n refl)
place_moves trust XrstorKind next Compare len t n =
    record { rip = refl; origin = refl; start = refl; short = omega arith }
place_moves trust XrstorKind next Branch len t n =
    record { rip = refl; origin = refl; start = refl; short = omega arith }
place_moves trust XrstorKind next Number len t n =
    record { rip = refl; origin = refl; start = refl; short = omega arith }
place_moves trust XrstorKind next Leave len t n = absurd (n refl)

-- the check goes on
check_next : (trust : TrustValue) (c : Code) (t : Thread) → IsLow c → length t.regs ≡ 16
    → (w : IsInCheck trust c t) → w.position ≢ Leave
    → IsInCheck trust c (place_after trust w.origin.kind (w.origin.at + w.origin.len) w.position
    (length (check_bytes trust w.origin.kind (w.origin.at + w.origin.len) w.position)) t)
check_next trust c t low regs w n =
    let m = place_moves trust w.origin.kind (w.origin.at + w.origin.len) w.position
    (length (check_bytes trust w.origin.kind (w.origin.at + w.origin.len) w.position)) t n in
    let long = occurrence_few c w.origin.at w.origin w.occurs in
    let near : w.origin.at < 2 ^ 47 =
    low_at c w.origin.at low (occurrence_there c w.origin.at w.origin w.occurs w.origin.at
    (omega arith) (omega (arith, long.many))) in
    let r = w.rip in
    let to = m.rip in
    let start = m.start in
    let short = m.short in
    record {
      origin = w.origin;
      position = place_next w.position;
      from = m.origin ∙ w.from;
      occurs = w.occurs;
      gate = w.gate;
      rip = omega (arith, r, long.few, near, to, start, short);
      fact = place_fact trust w.origin.kind (w.origin.at + w.origin.len) w.position
          (length (check_bytes trust w.origin.kind (w.origin.at + w.origin.len) w.position)) t n
          regs w.fact;
    }

done_is : (t new : Thread) (w : Option Write) (p : Plan) (seen : Seen) (bytes : ByteMap)
    (pkru rip : ℕ) → p ≡ Give t None → effect p seen bytes pkru rip ≡ Done new w → new ≡ t
unfolding effect
done_is t new w p seen bytes pkru rip e h = let k : Done t None ≡ Done new w = rw e at h in cc

-- what runs is one instruction
pub runs_same : (i j : Insn) (l m k n : ℕ) → Runs i l k ≡ Runs j m n → (i ≡ j) × (l ≡ m)
runs_same i j l m k n h = (cc, cc)

pub leave_insn : (trust : TrustValue) (k : SeqKind) (next : ℕ) (p : Position) → p ≡ Leave
    → check_insn trust k next p ≡ Syscall
leave_insn trust WrpkruKind next p e = rw e refl
leave_insn trust XrstorKind next p e = rw e refl

syscall_not : (len : ℕ) (t new : Thread) (wr : Option Write) (seen : Seen) (bytes : ByteMap)
    (pkru rip : ℕ) → effect (plan Syscall len t) seen bytes pkru rip ≡ Done new wr → ⊥
unfolding effect plan
syscall_not len t new wr seen bytes pkru rip h = absurd cc

leave_not : (trust : TrustValue) (k : SeqKind) (next : ℕ) (p : Position) (insn : Insn) (len : ℕ)
    (t new : Thread) (wr : Option Write) (seen : Seen) (bytes : ByteMap) (pkru rip : ℕ) → p ≡ Leave
    → insn ≡ check_insn trust k next p
    → effect (plan insn len t) seen bytes pkru rip ≡ Done new wr → ⊥
leave_not trust k next p insn len t new wr seen bytes pkru rip e j h =
    let f : insn ≡ Syscall = j ∙ leave_insn trust k next p e in
    syscall_not len t new wr seen bytes pkru rip (rw f at h)

place_made : (trust : TrustValue) (k : SeqKind) (next : ℕ) (p : Position) (rip len skip : ℕ)
    → sequence_of (record { insn = (check_insn trust k next p); len = len; skip = skip }) rip ≡ None
place_made trust WrpkruKind next Compare rip len skip = refl
place_made trust WrpkruKind next Branch rip len skip = refl
place_made trust WrpkruKind next Number rip len skip = refl
place_made trust WrpkruKind next Leave rip len skip = refl
place_made trust XrstorKind next Compare rip len skip = refl
place_made trust XrstorKind next Branch rip len skip = refl
place_made trust XrstorKind next Number rip len skip = refl
place_made trust XrstorKind next Leave rip len skip = refl

pub is_leave : (p : Position) → (p ≡ Leave) ⊎ (p ≢ Leave)
is_leave Leave = inl refl
is_leave Compare = inr (λ e. absurd cc)
is_leave Branch = inr (λ e. absurd cc)
is_leave Number = inr (λ e. absurd cc)

-- what a thread in its check does: it goes on in its check
check_stands : {N : ℕ → Type 0} → Decoder N
    → (trust : TrustValue) (c : Code) (t new : Thread) (wr : Option Write) (insn : Insn)
    (len skip : ℕ) (seen : Seen) (bytes : ByteMap) (pkru rip : ℕ)
    → OfCode N c → IsSafeCode trust c → IsLow c → length t.regs ≡ 16 → (w : IsInCheck trust c t)
    → fetch c t.rip ≡ Runs insn len skip
    → effect (plan insn len t) seen bytes pkru rip ≡ Done new wr
    → Stands trust c (with_origin trust
    (sequence_of (record { insn = insn; len = len; skip = skip }) t.rip) new)
check_stands d trust c t new wr insn len skip seen bytes pkru rip of safe low regs w f h =
    elim (check_fetched d trust c t of safe w) [
      | inr (x, e) ↦ absurd (let k : Need x ≡ Runs insn len skip = sym e ∙ f in cc)
      | inl e ↦
          (let k = runs_same insn (check_insn trust w.origin.kind (w.origin.at + w.origin.len)
          w.position) len (length (check_bytes trust w.origin.kind (w.origin.at + w.origin.len)
          w.position)) skip 0 (sym f ∙ e) in
          by_place (is_leave w.position) k.0 k.1)
    ]
  where
    by_place : (w.position ≡ Leave) ⊎ (w.position ≢ Leave)
        → insn ≡ check_insn trust w.origin.kind (w.origin.at + w.origin.len) w.position
        → len ≡ length (check_bytes trust w.origin.kind (w.origin.at + w.origin.len) w.position)
        → Stands trust c (with_origin trust
        (sequence_of (record { insn = insn; len = len; skip = skip }) t.rip) new)
    by_place (inl x) j l = absurd (leave_not trust w.origin.kind (w.origin.at + w.origin.len)
        w.position insn len t new wr seen bytes pkru rip x j h)
    by_place (inr n) j l =
        let p : plan insn len t ≡ Give (place_after trust w.origin.kind (w.origin.at + w.origin.len)
        w.position (length (check_bytes trust w.origin.kind (w.origin.at + w.origin.len)
        w.position)) t) None =
        rw (j, l) (place_plan trust w.origin.kind (w.origin.at + w.origin.len) w.position _ t n
        w.fact) in
        let e = done_is (place_after trust w.origin.kind (w.origin.at + w.origin.len) w.position
        (length (check_bytes trust w.origin.kind (w.origin.at + w.origin.len) w.position))
        t) new wr (plan insn len t) seen bytes pkru rip p h in
        let none : sequence_of (record { insn = insn; len = len; skip = skip }) t.rip ≡ None =
        rw j (place_made trust w.origin.kind (w.origin.at + w.origin.len) w.position t.rip len
        skip) in
        rw (none, e) (settled_check trust c
        (place_after trust w.origin.kind (w.origin.at + w.origin.len) w.position
        (length (check_bytes trust w.origin.kind (w.origin.at + w.origin.len) w.position))
        t) (check_next trust c t low regs w n))

-- ---- over a step

-- a thread that was inside and is out has escaped
leaves : (trust : TrustValue) (free : Bool) (old new : Thread) → free ≡ false
    → is_outside trust old ≡ false → is_outside trust new ≡ true
    → opened_domains trust new.pkru ≡ opened_domains trust old.pkru
    → is_escape trust free old new ≡ true
leaves trust free old new f o n p =
    let wide : is_open trust old.pkru ≡ true =
    ap (is_set_but 0) (sym p) ∙ outside_open trust new.pkru (text_key trust new.rip) n in
    rw (f, n, wide, o) refl

-- over an instruction that was done
pub did_stands : {N : ℕ → Type 0} → Decoder N
    → (trust : TrustValue) (c : Code) (t new : Thread) (wr : Option Write) (insn : Insn)
    (len skip : ℕ) (seen : Seen) (bytes : ByteMap) (pkru rip : ℕ)
    → EntriesIn trust → OfCode N c → IsSafeCode trust c → IsLow c → length t.regs ≡ 16
    → Stands trust c t
    → fetch c t.rip ≡ Runs insn len skip
    → effect (plan insn len t) seen bytes pkru rip ≡ Done new wr
    → is_escape trust (writes_pkru insn t) t new ≡ false
    → Stands trust c (with_origin trust
    (sequence_of (record { insn = insn; len = len; skip = skip }) t.rip) new)
did_stands d trust c t new wr insn len skip seen bytes pkru rip ent of safe low regs st f h esc =
    elim (cases_Bool (writes_pkru insn t)) [
      | inl e ↦ free_stands d trust c insn len skip t new ent of low f e goes
      | inr e ↦ elim (cases_Bool (is_outside trust new)) [
        | inr n ↦ stands_in trust c (sequence_of (record { insn = insn; len = len; skip = skip })
            t.rip)
            new n
        | inl o ↦ elim st [
          | inr w ↦ check_stands d trust c t new wr insn len skip seen bytes pkru rip of safe low
              regs w
              f h
          | inl m ↦ absurd (let k = leaves trust (writes_pkru insn t) t new e m o
              (ap (opened_domains trust) (goes.pkru e)) in let z : false ≡ true = sym esc ∙ k in cc)
        ]
      ]
    ]
  where
    goes : Goes insn len t new
    goes = done_goes insn len t new wr seen bytes pkru rip h

done_not : (t : Thread) (p : Plan) (seen : Seen) (bytes : ByteMap) (pkru rip : ℕ) → p ≡ Give t None
    → effect p seen bytes pkru rip ≡ Called → ⊥
unfolding effect
done_not t p seen bytes pkru rip e h = let k : Done t None ≡ Called = rw e at h in absurd cc

-- a thread in its check makes no call but exit_group
pub called_check : {N : ℕ → Type 0} → Decoder N
    → (trust : TrustValue) (c : Code) (t : Thread) (insn : Insn) (len skip : ℕ) (seen : Seen)
    (bytes : ByteMap) (pkru rip : ℕ)
    → OfCode N c → IsSafeCode trust c → IsInCheck trust c t → fetch c t.rip ≡ Runs insn len skip
    → effect (plan insn len t) seen bytes pkru rip ≡ Called → register t 0 ≡ 231
called_check d trust c t insn len skip seen bytes pkru rip of safe w f h =
    elim (check_fetched d trust c t of safe w) [
      | inr (x, e) ↦ absurd (let k : Need x ≡ Runs insn len skip = sym e ∙ f in cc)
      | inl e ↦
          (let k = runs_same insn (check_insn trust w.origin.kind (w.origin.at + w.origin.len)
          w.position) len (length (check_bytes trust w.origin.kind (w.origin.at + w.origin.len)
          w.position)) skip 0 (sym f ∙ e) in
          by_place w.origin.kind (w.origin.at + w.origin.len) w.position (is_leave w.position)
          w.fact
          (rw k.0 at h))
    ]
  where
    by_place : (k : SeqKind) (next : ℕ) (p : Position) → (p ≡ Leave) ⊎ (p ≢ Leave)
        → PositionFact trust k next p t
        → effect (plan (check_insn trust k next p) len t) seen bytes pkru rip ≡ Called
        → register t 0 ≡ 231
    by_place k next p (inr n) f e =
        absurd (done_not (place_after trust k next p len t) (plan (check_insn trust k next p) len t)
        seen bytes pkru rip (place_plan trust k next p len t n f) e)
    by_place WrpkruKind next Leave (inl x) f e = f
    by_place WrpkruKind next Compare (inl x) f e = absurd cc
    by_place WrpkruKind next Branch (inl x) f e = absurd cc
    by_place WrpkruKind next Number (inl x) f e = absurd cc
    by_place XrstorKind next Leave (inl x) f e = f
    by_place XrstorKind next Compare (inl x) f e = absurd cc
    by_place XrstorKind next Branch (inl x) f e = absurd cc
    by_place XrstorKind next Number (inl x) f e = absurd cc

-- over a call: the caller isn't out, unless it escaped
pub called_stands : {N : ℕ → Type 0} → Decoder N
    → (trust : TrustValue) (c : Code) (t new : Thread) (insn : Insn) (len skip : ℕ) (seen : Seen)
    (bytes : ByteMap) (pkru rip : ℕ)
    → OfCode N c → IsSafeCode trust c → Stands trust c t → fetch c t.rip ≡ Runs insn len skip
    → effect (plan insn len t) seen bytes pkru rip ≡ Called → (register t 0 ≡ 231 → ⊥)
    → opened_domains trust new.pkru ≡ opened_domains trust t.pkru
    → is_escape trust false t new ≡ false
    → is_outside trust new ≡ false
called_stands d trust c t new insn len skip seen bytes pkru rip of safe (inr w) f h n p esc =
    absurd (n (called_check d trust c t insn len skip seen bytes pkru rip of safe w f h))
called_stands d trust c t new insn len skip seen bytes pkru rip of safe (inl m) f h n p esc =
    elim (cases_Bool (is_outside trust new)) [
      | inr o ↦ o
      | inl o ↦ absurd (let z : false ≡ true = sym esc ∙ leaves trust false t new refl m o p in cc)
    ]
