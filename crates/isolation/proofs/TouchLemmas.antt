-- Before an escape, trusted memory is touched by threads that are open in trusted text alone.
use Rattle.std.proofs.Common.{◌≡◌, ◌≢◌, ◌<◌, ◌≤◌, ◌+◌, ◌*◌, ◌/◌, ◌%◌, ◌^◌, ◌⊎◌, ◌++◌, ℕ, zero}
use Rattle.std.proofs.Common.{suc, length, Option, Some, None, Bool, true, false, cond, eqb, ltb}
use Rattle.std.proofs.Common.{not, is_some, refl, sym, ap, subst, ◌∙◌, arith, inl, inr, eqb-true}
use Rattle.std.proofs.Common.{eq-eqb}
use Rattle.std.proofs.lemmas.Bool.{cases_Bool, eqb-false}
use Rattle.erim_defs.specs.declared.found.SeqKind.{SeqKind}
use Rattle.erim_defs.specs.declared.found.SeqKind.TheVariants.{Wrpkru, Xrstor}
use Rattle.erim_defs.specs.declared.machine.Rights.{Rights}
use Rattle.erim_defs.specs.declared.machine.Thread.{Thread}
use Rattle.erim_defs.specs.declared.machine.Access.{Access}
use Rattle.erim_defs.specs.declared.machine.Access.TheVariants.{Fault}
use Rattle.erim_defs.specs.declared.machine.Cause.TheVariants.{Unmapped, Read, Write as WriteCause}
use Rattle.erim_defs.specs.declared.machine.Cause.TheVariants.{Key}
use Rattle.erim_defs.specs.declared.insn.Insn.{Insn}
use Rattle.erim_defs.specs.declared.insn.FetchOutcome.TheVariants.{Runs, Need}
use Rattle.erim_defs.specs.Machine.Pages.{RightsMap, ByteMap, word, bytes_of_range}
use Rattle.erim_defs.specs.Machine.Access.{Seen, stop, stop_at, stop_by, stop_on, whole, opens}
use Rattle.erim_defs.specs.Machine.Access.{opens_write}
use Rattle.erim_defs.specs.Inspection.Image.{image_trust}
use Rattle.erim_defs.specs.Machine.Plan.{Plan, Ask, Give, Refuse, Call}
use Rattle.erim_defs.specs.Machine.Registers.{register}
use Rattle.erim_defs.specs.Machine.Meaning.{plan}
use Rattle.erim_defs.specs.Machine.State.{State, code, is_outside, trust_of}
use Rattle.erim_defs.specs.Machine.CallResult.{Change, Answer, Quit, no_change}
use Rattle.erim_defs.specs.Machine.Calls.{write_result}
use Rattle.erim_defs.specs.Machine.Calls.{call_result}
use Rattle.erim_defs.specs.Machine.MapCalls.{has_key, PageRange, is_in, with_pages}
use Rattle.erim_defs.specs.Machine.MapCalls.{with_prot, is_denied_key, mmap_result}
use Rattle.erim_defs.specs.Machine.MapCalls.{munmap_result, mprotect_result}
use Rattle.erim_defs.specs.Machine.MapCalls.{pkey_mprotect_result}
use Rattle.erim_defs.specs.Machine.Step.{after_syscall, fetch}
use Rattle.erim_defs.specs.Machine.Isolation.{IsKept, Stands, PositionFact}
use Rattle.erim_defs.specs.Machine.Lawful.{Reaches, Changes, MakesCall, Touches}
use Rattle.erim_defs.specs.Machine.Lawful.{PageRights, PageBytes}
use Rattle.erim_defs.specs.Machine.Lawful.{ByInsn, ByWrite, ByCall}
use Rattle.isolation.specs.Laws.{TouchLaw}
use Rattle.isolation.proofs.CheckLemmas.{check_fetched}
use Rattle.isolation.proofs.WriteLemmas.{stop_or_none}
use Rattle.isolation.proofs.StandLemmas.{called_check, is_leave, place_after, place_plan, runs_same}
use Rattle.isolation.proofs.KeptLemmas.{code_kind, entered_zero, reply_quit}
use Rattle.isolation.proofs.AnswerLemmas.{refuse_answer, answer_is, row_answer, none_of}
use Rattle.isolation.proofs.AnswerLemmas.{LeavesPages, row_here}
use Rattle.isolation.proofs.MapCallLemmas.{Remaps, Protects, anew_of, anew_key, mmap_remaps}
use Rattle.isolation.proofs.MapCallLemmas.{munmap_remaps, mprotect_protects, IsNew, IsApart}
use Rattle.isolation.proofs.MapCallLemmas.{pkey_mprotect_protects, pkey_alloc_leaves}
use Rattle.isolation.proofs.MapCallLemmas.{pkey_free_leaves}
use Rattle.isolation.proofs.ThreadCallLemmas.{clone_leaves, gettid_leaves, sched_yield_leaves}
use Rattle.isolation.proofs.HeapCallLemmas.{talloc_leaves, tfree_leaves}
use Rattle.isolation.proofs.AlwaysLemmas.{IsGood}
use Rattle.isolation.proofs.GrammarFacts.{Known, decoder}
use Rattle.isolation.proofs.RunLemmas.{entered_reg, run_good, stands_now}
use Rattle.erim_defs.specs.Inspection.Trust.{TrustValue, is_domain, is_integrity, text_key}
use Rattle.erim_defs.specs.Machine.Domains.{opens_domain}
use Rattle.erim_defs.proofs.DomainLemmas.{domain_range, set_but_key}
use Rattle.erim_defs.specs.Machine.Plan.{Done, Stopped, effect}
use Rattle.erim_defs.specs.Machine.Pages.{asks_write}
use Rattle.std.proofs.lemmas.Bool.{and_parts}
use Rattle.erim_defs.specs.Machine.Lawful.{Counts, IsOwner}
use Rattle.erim_defs.specs.Machine.Lawful.{ByFault}
use Rattle.isolation.proofs.MapCallLemmas.{not_denied}
use Rattle.erim_defs.specs.Inspection.Check.{Position, Leave, check_insn, check_bytes}

-- ---- an access that is allowed is open for its key

write_opens : (pkru k : ℕ) → opens_write pkru k ≡ true → opens pkru k ≡ true
unfolding opens opens_write
write_opens pkru k h =
    let e : (pkru / 2 ^ (2 * k)) % 4 ≡ 0 = eqb-true _ _ h in
    let f : (pkru / 2 ^ (2 * k)) % 2 ≡ 0 = omega (arith, e) in
    eq-eqb _ 0 f

-- a byte that may be read or written, of a page of a domain: the domain is open, where that counts
owned : (trust : TrustValue) (write : Bool) (pkru domain : ℕ) → Counts trust write domain
    → is_domain trust domain ≡ true → cond write (opens_write pkru domain) (opens pkru domain)
    ≡ true
    → opens_domain trust pkru domain ≡ true
owned trust true pkru domain counts is h = rw is (by (is_integrity trust domain))
  where
    by : (i : Bool) → cond i (opens_write pkru domain) (opens pkru domain) ≡ true
    by true = h
    by false = write_opens pkru domain h
owned trust false pkru domain (inl e) is h = absurd cc
owned trust false pkru domain (inr plain) is h = rw (is, plain) h

some_not : (b : Bool) (x y : Access) → cond b (Some x) (Some y) ≡ None → ⊥
some_not true x y h = absurd cc
some_not false x y h = absurd cc

abbrev may : Bool → ℕ → ℕ → Bool
may write pkru k = cond write (opens_write pkru k) (opens pkru k)

on_opens : (r : Rights) (write : Bool) (pkru a : ℕ) → stop_on r write pkru a ≡ None
    → may write pkru r.key ≡ true
on_opens r true pkru a h = elim (cases_Bool (opens_write pkru r.key)) [
  | inl y ↦ y
  | inr n ↦ absurd (some_not r.write (Fault Key a) (Fault WriteCause a) (rw n at h))
]
on_opens r false pkru a h = elim (cases_Bool (opens pkru r.key)) [
  | inl y ↦ y
  | inr n ↦ absurd (some_not r.read (Fault Key a) (Fault Read a) (rw n at h))
]

by_opens : (o : Option Rights) (write : Bool) (pkru a k : ℕ) → stop_by (Some o) write pkru a ≡ None
    → has_key o k ≡ true → may write pkru k ≡ true
by_opens None write pkru a k h e = absurd cc
by_opens (Some r) write pkru a k h e = let z : r.key ≡ k = eqb-true _ _ e in
    subst (λ (n : ℕ). may write pkru n ≡ true) z (on_opens r write pkru a h)

at_opens : (rights : RightsMap) (write : Bool) (pkru a k : ℕ)
    → stop_at (whole rights) write pkru a ≡ None → has_key (rights (a / 4096)) k ≡ true
    → may write pkru k ≡ true
at_opens rights write pkru a k h e = elim (cases_Bool (ltb a (2 ^ 47))) [
  | inl t ↦ by_opens (rights (a / 4096)) write pkru a k (rw t at h) e
  | inr f ↦ absurd (let z : Some (Fault Unmapped a) ≡ None = rw f at h in cc)
]

stop_opens : (rights : RightsMap) (write : Bool) (pkru a n x k : ℕ)
    → stop (whole rights) write pkru a n ≡ None → a ≤ x → x < a + n
    → has_key (rights (x / 4096)) k ≡ true → may write pkru k ≡ true
unfolding stop
stop_opens rights write pkru a zero x k h l m e = absurd (omega arith)
stop_opens rights write pkru a (suc n) x k h l m e =
    let p = stop_or_none (stop_at (whole rights) write pkru a)
    (stop (whole rights) write pkru (suc a) n) h in
    elim (cases_Bool (eqb x a)) [
      | inl t ↦ (let z : x ≡ a = eqb-true _ _ t in at_opens rights write pkru a k p.0 (rw z at e))
      | inr t ↦ (let z : x ≢ a = eqb-false _ _ t in
          stop_opens rights write pkru (suc a) n x k p.1 (omega (arith, z)) (omega arith) e)
    ]

reaches_opens : (write : Bool) (p : Plan) (rights : RightsMap) (bytes : ByteMap) (pkru x k : ℕ)
    → Reaches write p (whole rights) bytes pkru x → has_key (rights (x / 4096)) k ≡ true
    → may write pkru k ≡ true
reaches_opens write (Ask a n f) rights bytes pkru x k (s, inl (w, l, m)) e =
    rw w (stop_opens rights false pkru a n x k s l m e)
reaches_opens write (Ask a n f) rights bytes pkru x k (s, inr r) e =
    reaches_opens write (f (word bytes a n)) rights bytes pkru x k r e
reaches_opens write (Give t None) rights bytes pkru x k r e = absurd r
reaches_opens write (Give t (Some w)) rights bytes pkru x k (s, y, l, m) e =
    rw y (stop_opens rights true pkru w.addr w.count x k s l m e)
reaches_opens write Refuse rights bytes pkru x k r e = absurd r
reaches_opens write Call rights bytes pkru x k r e = absurd r

-- ---- a thread in its check touches nothing

home_from : (s : State) (t : Thread) (domain : ℕ) → is_outside (trust_of s) t ≡ false
    → is_domain (trust_of s) domain ≡ true → opens_domain (trust_of s) t.pkru domain ≡ true
    → IsOwner (trust_of s) t domain
home_from s t domain n is o =
    (o, set_but_key s.setup.image (text_key (trust_of s) t.rip) t.pkru domain n is o)

give_reaches : (write : Bool) (p : Plan) (t : Thread) (seen : Seen) (bytes : ByteMap) (pkru x : ℕ)
    → p ≡ Give t None → Reaches write p seen bytes pkru x → ⊥
give_reaches write p t seen bytes pkru x e r = let P : Plan
    → Type 0 = λ q. Reaches write q seen bytes pkru x in subst P e r

leave_reaches : (write : Bool) (trust : TrustValue) (k : SeqKind) (next len : ℕ) (t : Thread)
    (seen : Seen)
    (bytes : ByteMap) (pkru x : ℕ)
    → Reaches write (plan (check_insn trust k next Leave) len t) seen bytes pkru x → ⊥
unfolding plan
leave_reaches write trust Wrpkru next len t seen bytes pkru x r = r
leave_reaches write trust Xrstor next len t seen bytes pkru x r = r

place_reaches : (write : Bool) (trust : TrustValue) (k : SeqKind) (next : ℕ) (p : Position)
    (len : ℕ) (t : Thread)
    (seen : Seen) (bytes : ByteMap) (pkru x : ℕ) → PositionFact trust k next p t
    → Reaches write (plan (check_insn trust k next p) len t) seen bytes pkru x → ⊥
place_reaches write trust k next p len t seen bytes pkru x f r = elim (is_leave p) [
  | inl l ↦ leave_reaches write trust k next len t seen bytes pkru x (let P : Position
      → Type 0 = λ q. Reaches write (plan (check_insn trust k next q) len t) seen bytes pkru x in
      subst P l r)
  | inr n ↦ give_reaches write (plan (check_insn trust k next p) len t)
      (place_after trust k next p len t)
      seen bytes pkru x (place_plan trust k next p len t n f) r
]

insn_inside : (write : Bool) (domain : ℕ) (s : State) (old : Thread) (insn : Insn)
    (len skip x : ℕ) → IsGood Known s
    → Stands (trust_of s) (code s) old
    → fetch (code s) old.rip ≡ Runs insn len skip
    → Reaches write (plan insn len old) (whole s.rights) s.bytes old.pkru x
    → is_domain (trust_of s) domain ≡ true → opens_domain (trust_of s) old.pkru domain ≡ true
    → IsOwner (trust_of s) old domain
insn_inside write domain s old insn len skip x g (inl n) f r is o = home_from s old domain n is o
insn_inside write domain s old insn len skip x g (inr w) f r is o =
    elim (check_fetched decoder (image_trust s.setup.image) (code s) old (code_kind Known s g.kind)
    g.kept.safe w) [
      | inr (y, e) ↦ absurd (let k : Need y ≡ Runs insn len skip = sym e ∙ f in cc)
      | inl e ↦
          absurd (let k = runs_same insn
          (check_insn (trust_of s) w.origin.kind (w.origin.at + w.origin.len) w.position) len
          (length (check_bytes (trust_of s) w.origin.kind (w.origin.at + w.origin.len) w.position))
          skip 0 (sym f ∙ e) in
          let q : Reaches write (plan (check_insn (trust_of s) w.origin.kind
          (w.origin.at + w.origin.len)
          w.position) len old) (whole s.rights) s.bytes old.pkru x = subst (λ (i :
          Insn). Reaches write (plan i len old) (whole s.rights) s.bytes old.pkru x) k.0 r in
          place_reaches write (trust_of s) w.origin.kind
          (w.origin.at + w.origin.len) w.position len old
          (whole s.rights) s.bytes old.pkru x w.fact q)
    ]

-- an instruction of a check isn't stopped
give_stops : (p : Plan) (t : Thread) (a : Access) (seen : Seen) (bytes : ByteMap) (pkru rip : ℕ)
    → p ≡ Give t None → effect p seen bytes pkru rip ≡ Stopped a → ⊥
unfolding effect
give_stops p t a seen bytes pkru rip e h = let k : Done t None ≡ Stopped a = rw e at h in absurd cc

leave_stops : (trust : TrustValue) (k : SeqKind) (next len : ℕ) (t : Thread) (a : Access)
    (seen : Seen) (bytes : ByteMap) (pkru rip : ℕ)
    → effect (plan (check_insn trust k next Leave) len t) seen bytes pkru rip ≡ Stopped a → ⊥
unfolding effect plan
leave_stops trust Wrpkru next len t a seen bytes pkru rip h = absurd cc
leave_stops trust Xrstor next len t a seen bytes pkru rip h = absurd cc

place_stops : (trust : TrustValue) (k : SeqKind) (next : ℕ) (p : Position) (len : ℕ) (t : Thread)
    (a : Access) (seen : Seen) (bytes : ByteMap) (pkru rip : ℕ) → PositionFact trust k next p t
    → effect (plan (check_insn trust k next p) len t) seen bytes pkru rip ≡ Stopped a → ⊥
place_stops trust k next p len t a seen bytes pkru rip f h = elim (is_leave p) [
  | inl l ↦ leave_stops trust k next len t a seen bytes pkru rip (let P : Position
      → Type 0 = λ q. effect (plan (check_insn trust k next q) len t) seen bytes pkru rip
      ≡ Stopped a in subst P l h)
  | inr n ↦ give_stops (plan (check_insn trust k next p) len t) (place_after trust k next p len t) a
      seen bytes pkru rip (place_plan trust k next p len t n f) h
]

stop_inside : (domain : ℕ) (s : State) (old : Thread) (insn : Insn) (len skip : ℕ) (a : Access)
    → IsGood Known s → Stands (trust_of s) (code s) old
    → fetch (code s) old.rip ≡ Runs insn len skip
    → effect (plan insn len old) (whole s.rights) s.bytes old.pkru old.rip ≡ Stopped a
    → is_domain (trust_of s) domain ≡ true → opens_domain (trust_of s) old.pkru domain ≡ true
    → IsOwner (trust_of s) old domain
stop_inside domain s old insn len skip a g (inl n) f h is o = home_from s old domain n is o
stop_inside domain s old insn len skip a g (inr w) f h is o =
    elim (check_fetched decoder (image_trust s.setup.image) (code s) old (code_kind Known s g.kind)
    g.kept.safe w) [
      | inr (y, e) ↦ absurd (let k : Need y ≡ Runs insn len skip = sym e ∙ f in cc)
      | inl e ↦
          absurd (let k = runs_same insn
          (check_insn (trust_of s) w.origin.kind (w.origin.at + w.origin.len) w.position) len
          (length (check_bytes (trust_of s) w.origin.kind (w.origin.at + w.origin.len) w.position))
          skip 0 (sym f ∙ e) in
          let q : effect (plan (check_insn (trust_of s) w.origin.kind (w.origin.at + w.origin.len)
          w.position) len old) (whole s.rights) s.bytes old.pkru old.rip ≡ Stopped a =
          subst (λ (i : Insn). effect (plan i len old) (whole s.rights) s.bytes old.pkru old.rip
          ≡ Stopped a) k.0 h in
          place_stops (trust_of s) w.origin.kind (w.origin.at + w.origin.len) w.position len old a
          (whole s.rights) s.bytes old.pkru old.rip w.fact q)
    ]

call_inside : (domain : ℕ) (s : State) (t : ℕ) (old : Thread) (len v : ℕ) (c : Change)
    → IsGood Known s
    → Stands (trust_of s) (code s) old → MakesCall s t old v c len
    → is_domain (trust_of s) domain ≡ true → opens_domain (trust_of s) old.pkru domain ≡ true
    → IsOwner (trust_of s) old domain
call_inside domain s t old len v c g (inl n) m is o = home_from s old domain n is o
call_inside domain s t old len v c g (inr w) m is o =
    absurd (let e = called_check decoder (trust_of s) (code s) old m.insn len m.skip
    (whole s.rights) s.bytes old.pkru old.rip (code_kind Known s g.kind) g.kept.safe w m.runs
    m.called in
    let q = reply_quit s t (after_syscall len old) (entered_zero len old ∙ e) in
    let z : Quit (register (after_syscall len old) 7 % 256) ≡ Answer v c = sym q ∙ m.answered in
    cc)

-- ---- what calls touch: one lemma a call

-- memory of a domain is changed by a thread that opens it
abbrev Opens : State → Thread → ℕ → Change → Type 0
Opens s t q c = (domain : ℕ) → is_domain (trust_of s) domain ≡ true → Changes s c q
    → (has_key (s.rights q) domain ≡ true) ⊎ (has_key (c.rights q) domain ≡ true)
    → opens_domain (trust_of s) t.pkru domain ≡ true

-- a change that leaves the pages touches nothing
left_open : (s : State) (t : Thread) (q : ℕ) (c : Change) → c.rights ≡ s.rights → c.bytes ≡ s.bytes
    → Opens s t q c
left_open s t q c r b d is (PageRights n) k = absurd (n (ap (λ (f : RightsMap). f q) r))
left_open s t q c r b d is (PageBytes a e n) k = absurd (n (ap (λ (f : ByteMap). f a) b))

-- what write reads, and that it leaves the pages
record WriteReads (s : State) (t : Thread) (buf n : ℕ) (c : Change) : Type 0 where
  allowed : stop (whole s.rights) false t.pkru buf n ≡ None
  rights : c.rights ≡ s.rights
  bytes : c.bytes ≡ s.bytes

write_reads : (s : State) (t : Thread) (fd buf n v : ℕ) (c : Change)
    → write_result s t fd buf n ≡ Answer v c → WriteReads s t buf n c
unfolding write_result
write_reads s t fd buf n v c e =
    let made : Change = (let x = no_change s t in
    record x { output = s.output ++ bytes_of_range s.bytes buf n }) in
    let a = refuse_answer (not (eqb (fd % 2 ^ 32) 1)) 9 v _ c e in
    let b = refuse_answer (is_some (stop (whole s.rights) false t.pkru buf n)) 14 v _ c a.1 in
    let d = refuse_answer (ltb 1048576 (length s.output + n)) 28 v (Answer n made) c b.1 in
    let z : made ≡ c = answer_is n v made c d.1 in
    record {
      allowed = none_of (stop (whole s.rights) false t.pkru buf n) b.0;
      rights = sym (ap (λ (x : Change). x.rights) z);
      bytes = sym (ap (λ (x : Change). x.bytes) z);
    }

write_open : (s : State) (t : Thread) (fd buf n v q : ℕ) (c : Change)
    → write_result s t fd buf n ≡ Answer v c → Opens s t q c
write_open s t fd buf n v q c e = let w = write_reads s t fd buf n v c e in
    left_open s t q c w.rights w.bytes

-- a range that is mapped anew or unmapped
pages_open : (s : State) (t : Thread) (q : ℕ) (r : PageRange) (rights : Option Rights)
    → IsNew rights → IsApart s t r → Opens s t q (with_pages s t r rights)
pages_open s t q r rights new apart d is ch k = elim (cases_Bool (is_in r q)) [
  | inl i ↦ elim k [
    | inl before ↦ apart.keyed q d i is before
    | inr after ↦ absurd (new_key rights new d is (rw i at after))
  ]
  | inr o ↦ absurd (outside ch o)
]
  where
    new_key : (x : Option Rights) → IsNew x → (d : ℕ) → is_domain (trust_of s) d ≡ true
        → has_key x d ≡ true → ⊥
    new_key None n d is e = absurd cc
    new_key (Some x) n d is e =
        let z : x.key ≡ d = eqb-true _ _ e in
        let w : x.key ≡ 0 = (n x refl).plain in
        let low : 1 ≤ d = (domain_range s.setup.image d is).0 in
        omega (arith, z, w, low)

    outside : Changes s (with_pages s t r rights) q → is_in r q ≡ false → ⊥
    outside (PageRights n) o = n (rw o refl)
    outside (PageBytes a e n) o =
        n (let p : is_in r (a / 4096) ≡ false = rw e o in rw p refl)

remaps_open : (s : State) (t : Thread) (q : ℕ) (c : Change) → Remaps s t c → Opens s t q c
remaps_open s t q c m = subst (Opens s t q) m.is
    (pages_open s t q m.range m.rights m.new m.apart)

mmap_open : (s : State) (t : Thread) (addr len prot flags v q : ℕ) (c : Change) → IsKept s
    → mmap_result s t addr len prot flags ≡ Answer v c → Opens s t q c
mmap_open s t addr len prot flags v q c h e =
    remaps_open s t q c (mmap_remaps s t addr len prot flags v c h e)

munmap_open : (s : State) (t : Thread) (addr len v q : ℕ) (c : Change)
    → munmap_result s t addr len ≡ Answer v c → Opens s t q c
munmap_open s t addr len v q c e = remaps_open s t q c (munmap_remaps s t addr len v c e)

-- a page that is asked anew has its key or one that the caller may give
anew_open : (s : State) (t : Thread) (prot : ℕ) (key : Option ℕ) (o : Option Rights) (d : ℕ)
    → is_domain (trust_of s) d ≡ true → is_denied_key (trust_of s) t.pkru key ≡ false
    → (has_key o d ≡ true → opens_domain (trust_of s) t.pkru d ≡ true)
    → has_key (anew_of prot key o) d ≡ true → opens_domain (trust_of s) t.pkru d ≡ true
anew_open s t prot key None d is p before after = absurd cc
anew_open s t prot None (Some r) d is p before after =
    before (ap (λ k. eqb k d) (sym (anew_key prot r.key r)) ∙ after)
anew_open s t prot (Some j) (Some r) d is p before after =
    let one : eqb j d ≡ true = ap (λ k. eqb k d) (sym (anew_key prot j r)) ∙ after in
    not_denied (trust_of s) t.pkru j d p one is

prot_open : (s : State) (t : Thread) (q : ℕ) (r : PageRange) (prot : ℕ) (key : Option ℕ)
    → is_denied_key (trust_of s) t.pkru key ≡ false → IsApart s t r
    → Opens s t q (with_prot s t r prot key)
prot_open s t q r prot key plain apart d is ch k = elim (cases_Bool (is_in r q)) [
  | inl i ↦ elim k [
    | inl before ↦ apart.keyed q d i is before
    | inr after ↦ anew_open s t prot key (s.rights q) d is plain (apart.keyed q d i is)
        (rw i at after)
  ]
  | inr o ↦ absurd (outside ch o)
]
  where
    outside : Changes s (with_prot s t r prot key) q → is_in r q ≡ false → ⊥
    outside (PageRights n) o = n (rw o refl)
    outside (PageBytes a e n) o = n refl

protects_open : (s : State) (t : Thread) (q : ℕ) (c : Change) → Protects s t c → Opens s t q c
protects_open s t q c p = subst (Opens s t q) p.is
    (prot_open s t q p.range p.prot p.key p.plain p.apart)

mprotect_open : (s : State) (t : Thread) (addr len prot v q : ℕ) (c : Change)
    → mprotect_result s t addr len prot ≡ Answer v c → Opens s t q c
mprotect_open s t addr len prot v q c e =
    protects_open s t q c (mprotect_protects s t addr len prot v c e)

pkey_mprotect_open : (s : State) (t : Thread) (addr len prot key v q : ℕ) (c : Change)
    → pkey_mprotect_result s t addr len prot key ≡ Answer v c → Opens s t q c
pkey_mprotect_open s t addr len prot key v q c e =
    protects_open s t q c (pkey_mprotect_protects s t addr len prot key v c e)

-- what leaves the pages
leaves_open : (s : State) (t : Thread) (q : ℕ) (c : Change) → LeavesPages s t c → Opens s t q c
leaves_open s t q c l = left_open s t q c l.rights l.bytes

-- a row a call
reply_open : (s : State) (v q number : ℕ) (t : Thread) (c : Change) → IsKept s
    → call_result s number t ≡ Answer v c → Opens s t q c
unfolding call_result
reply_open s v q number t c h e =
    row_answer (Opens s t q c) (eqb (register t 0) 1) _ _ v c
    (write_open s t (register t 7) (register t 6) (register t 2) v q c)
    (row_answer (Opens s t q c) (eqb (register t 0) 9) _ _ v c
    (mmap_open s t (register t 7) (register t 6) (register t 2) (register t 10) v q c h)
    (row_answer (Opens s t q c) (eqb (register t 0) 10) _ _ v c
    (mprotect_open s t (register t 7) (register t 6) (register t 2) v q c)
    (row_answer (Opens s t q c) (eqb (register t 0) 11) _ _ v c
    (munmap_open s t (register t 7) (register t 6) v q c)
    (row_answer (Opens s t q c) (eqb (register t 0) 24) _ _ v c
    (λ k. leaves_open s t q c (sched_yield_leaves s t v c h k))
    (row_here (Opens s t q c) (eqb (register t 0) 56) _ _ v c
    (λ n k. leaves_open s t q c (clone_leaves s t (register t 7) (register t 6) v c h n k))
    (row_answer (Opens s t q c) (eqb (register t 0) 60) _ _ v c
    (λ k. absurd cc)
    (row_answer (Opens s t q c) (eqb (register t 0) 186) _ _ v c
    (λ k. leaves_open s t q c (gettid_leaves s number t v c h k))
    (row_answer (Opens s t q c) (eqb (register t 0) 231) _ _ v c
    (λ k. absurd cc)
    (row_answer (Opens s t q c) (eqb (register t 0) 329) _ _ v c
    (pkey_mprotect_open s t (register t 7) (register t 6) (register t 2) (register t 10) v q c)
    (row_answer (Opens s t q c) (eqb (register t 0) 330) _ _ v c
    (λ k. leaves_open s t q c (pkey_alloc_leaves s t (register t 7) (register t 6) v c h k))
    (row_answer (Opens s t q c) (eqb (register t 0) 331) _ _ v c
    (λ k. leaves_open s t q c (pkey_free_leaves s t (register t 7) v c h k))
    (row_answer (Opens s t q c) (eqb (register t 0) 1000) _ _ v c
    (λ k. leaves_open s t q c (talloc_leaves s t (register t 7) v c h k))
    (row_answer (Opens s t q c) (eqb (register t 0) 1001) _ _ v c
    (λ k. leaves_open s t q c (tfree_leaves s t (register t 7) v c h k))
    (λ k. absurd cc)))))))))))))) e

reply_write : (s : State) (number : ℕ) (t : Thread) → register t 0 ≡ 1
    → call_result s number t ≡ write_result s t (register t 7) (register t 6) (register t 2)
unfolding call_result
reply_write s number t e = rw e refl

-- ---- all of it

touch_by : (s : State) (t : ℕ) (old : Thread) (d : ℕ) → IsGood Known s
    → Stands (trust_of s) (code s) old → is_domain (trust_of s) d ≡ true → Touches s t old d
    → IsOwner (trust_of s) old d
touch_by s t old d g st is (ByInsn write insn len skip x f r n k) =
    insn_inside write d s old insn len skip x g st f r is
    (owned (trust_of s) write old.pkru d n is
    (reaches_opens write (plan insn len old) s.rights s.bytes old.pkru x d r k))
touch_by s t old d g st is (ByWrite len v x c m one l h n k) =
    let at : register (after_syscall len old) 6 ≡ register old 6 =
    entered_reg len 6 old (omega arith) (omega arith) in
    let count : register (after_syscall len old) 2 ≡ register old 2 =
    entered_reg len 2 old (omega arith) (omega arith) in
    let z : write_result s (after_syscall len old) (register (after_syscall len old) 7)
    (register (after_syscall len old) 6) (register (after_syscall len old) 2) ≡ Answer v c =
    sym (reply_write s t (after_syscall len old) (entered_zero len old ∙ one)) ∙ m.answered in
    let w = write_reads s (after_syscall len old) (register (after_syscall len old) 7)
    (register (after_syscall len old) 6) (register (after_syscall len old) 2) v c z in
    call_inside d s t old len v c g st m is
    (owned (trust_of s) false old.pkru d n is
    (stop_opens s.rights false old.pkru (register (after_syscall len old) 6)
    (register (after_syscall len old) 2) x d w.allowed (omega (arith, at, l))
    (omega (arith, at, count, h)) k))
touch_by s t old d g st is (ByCall len v q c m ch k) =
    call_inside d s t old len v c g st m is (reply_open s v q t (after_syscall len old) c g.kept
    m.answered d is ch k)
touch_by s t old d g st is (ByFault insn len skip x held f h at w key) =
    let both = and_parts (asks_write held.asked) _ (and_parts held.exec _ w).1 in
    let may : opens_write old.pkru d ≡ true =
    subst (λ (k : ℕ). opens_write old.pkru k ≡ true) key both.1 in
    stop_inside d s old insn len skip (Fault WriteCause x) g st f h is
    (owned (trust_of s) true old.pkru d (inl refl) is may)

pub touch_law : TouchLaw
touch_law s t old d r e is touch =
    touch_by s t old d (run_good s t old r) (stands_now s t old r e) is touch
