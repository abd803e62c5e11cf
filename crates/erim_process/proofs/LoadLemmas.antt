-- Loading a page: what its writes leave.
use Rattle.std.proofs.Common.{◌≡◌, ◌≢◌, ℕ, ◌+◌, ◌-◌, ◌*◌, ◌/◌, ◌%◌, ◌<◌, ◌≤◌, ◌^◌, ◌&&◌, Bool, true}
use Rattle.std.proofs.Common.{cond, eqb, ltb, Option, Some, None, refl, sym, ap, ◌∙◌, arith, inl}
use Rattle.std.proofs.Common.{inr, eqb-true, lt-ltb, List, get_or}
use Rattle.std.proofs.Math.Nat.{zero-div}
use Rattle.std.proofs.Math.Path.{fun_ext}
use Rattle.std.proofs.lemmas.Bool.{cases_Bool, eqb-false}
use Rattle.std.proofs.lemmas.Bool.Decides.{nat_tests}
use Rattle.erim_defs.specs.declared.machine.Rights.{Rights}
use Rattle.erim_defs.specs.declared.machine.Access.{Access}
use Rattle.erim_defs.specs.Machine.Pages.{RightsMap, ByteMap, with_value_at, with_number}
use Rattle.erim_defs.specs.Machine.Pages.{with_zero_page}
use Rattle.erim_defs.specs.Machine.Access.{Seen, whole, opens_write, stop}
use Rattle.erim_defs.specs.Machine.Access.{rights_in}
use Rattle.page_store.specs.Answers.{bytes_unless, bytes_after_store}
use Rattle.erim_defs.specs.declared.segment.Segment.{Segment}
use Rattle.erim_defs.specs.Inspection.Image.{first_page, end_page, loaded_byte, touches}
use Rattle.erim_defs.specs.Machine.Start.{is_stack}
use Rattle.erim_defs.proofs.PageLemmas.{touches_from}
use Rattle.erim_process.specs.ImagePages.{AllUnmapped, IsWritable, is_between, rights_over}
use Rattle.erim_process.specs.ImagePages.{bytes_over}

-- PKRU 0 permits writes under every key
pub opens_all : (key : ℕ) → opens_write 0 key ≡ true
unfolding opens_write
opens_all key = rw (zero-div (2 ^ (2 * key))) refl

-- a write of one byte to a page that may be written
stops_none : (o : Option Rights) (a : ℕ) (seen : Seen) → seen (a / 4096) ≡ Some o → a < 2 ^ 47
    → IsWritable o → stop seen true 0 a 1 ≡ None
unfolding stop
stops_none None a seen e low h = absurd h
stops_none (Some r) a seen e low h = rw (lt-ltb a (2 ^ 47) low, e, h, opens_all r.key) refl

pub stop_none : (seen : Seen) (a : ℕ) → seen ≡ whole (rights_in seen) → a < 2 ^ 47
    → IsWritable (rights_in seen (a / 4096)) → stop seen true 0 a 1 ≡ None
stop_none seen a all low h =
    stops_none (rights_in seen (a / 4096)) a seen (ap (λ (f : Seen). f (a / 4096)) all) low h

stored_one : (b : ByteMap) (a v : ℕ) → with_number b a 1 v ≡ with_value_at b a (v % 256)
unfolding with_number
stored_one b a v = refl

-- the bytes after such a write
pub store_one : (seen : Seen) (b : ByteMap) (a v : ℕ) → seen ≡ whole (rights_in seen) → a < 2 ^ 47
    → IsWritable (rights_in seen (a / 4096)) → v < 256
    → bytes_after_store seen b 0 a 1 v ≡ with_value_at b a v
store_one seen b a v all low h small =
    let same : v % 256 ≡ v = omega arith in
    ap (λ (s : Option Access). bytes_unless s (with_number b a 1 v) b) (stop_none seen a all low h)
    ∙ stored_one b a v ∙ ap (with_value_at b a) same

-- the second value stays
pub put_put : {X : Type 0} (m : ℕ → X) (p : ℕ) (x y : X)
    → with_value_at (with_value_at m p x) p y ≡ with_value_at m p y
put_put m p x y = fun_ext (λ q. elim (cases_Bool (eqb q p)) [
  | inl t ↦ rw t refl
  | inr f ↦ rw f refl
])

-- the bytes of a page are new below an address
abbrev pub bytes_below : ℕ → ℕ → ByteMap → ByteMap → ByteMap
bytes_below page end new old = λ a. cond (eqb (a / 4096) page && ltb a end) (new a) (old a)

-- one more byte
pub below_next : (page end : ℕ) (new old : ByteMap) → end / 4096 ≡ page
    → with_value_at (bytes_below page end new old) end (new end)
    ≡ bytes_below page (end + 1) new old
below_next page end new old h = fun_ext (λ a. elim (cases_Bool (eqb a end)) [
  | inl t ↦ (let same : a ≡ end = eqb-true a end t in
      let both : (eqb (a / 4096) page && ltb a (end + 1)) ≡ true = grind (arith, nat_tests) in
      rw (t, both, same) refl)
  | inr f ↦ (let other : a ≢ end = eqb-false a end f in
      let both : ltb a end ≡ ltb a (end + 1) = grind (arith, nat_tests, other) in
      rw (f, both) refl)
])

-- the file's bytes
pub loaded_inside : (bytes : List ℕ) (s : Segment) (a : ℕ) → s.vaddr ≤ a → a < s.vaddr + s.filesz
    → get_or bytes (s.offset + (a - s.vaddr)) 0 ≡ loaded_byte bytes s a
loaded_inside bytes s a low high = grind (arith, nat_tests)

between_next : (first end q : ℕ) → q ≢ end → is_between first end q ≡ is_between first (end + 1) q
between_next first end q other = grind (arith, nat_tests, other)

pub rights_other : (first end q : ℕ) (new : ℕ → Rights) (old : RightsMap) → end ≤ q
    → rights_over (is_between first end) new old q ≡ old q
rights_other first end q new old h = grind (arith, nat_tests)

-- the next page isn't mapped yet
pub unmapped_next : (test : ℕ → Bool) (first page : ℕ) (new : ℕ → Rights) (old now : RightsMap)
    → now ≡ rights_over (is_between first page) new old → AllUnmapped test old → test page ≡ true
    → now page ≡ None
unmapped_next test first page new old now h none here =
    let same : page ≤ page = omega arith in
    ap (λ (m : RightsMap). m page) h ∙ rights_other first page page new old same ∙ none page here

-- one more page
pub rights_next : (first end : ℕ) (new : ℕ → Rights) (old : RightsMap) → first ≤ end
    → with_value_at (rights_over (is_between first end) new old) end (Some (new end))
    ≡ rights_over (is_between first (end + 1)) new old
rights_next first end new old h = fun_ext (λ q. elim (cases_Bool (eqb q end)) [
  | inl t ↦ (let same : q ≡ end = eqb-true q end t in
      let both : is_between first (end + 1) q ≡ true = grind (arith, nat_tests) in
      rw (t, both, same) refl)
  | inr f ↦ (let other : q ≢ end = eqb-false q end f in rw (f, between_next first end q other) refl)
])

pub bytes_next : (first end : ℕ) (new old : ByteMap) → first ≤ end
    → bytes_over (λ q. eqb q end) new (bytes_over (is_between first end) new old)
    ≡ bytes_over (is_between first (end + 1)) new old
bytes_next first end new old h = fun_ext (λ a. elim (cases_Bool (eqb (a / 4096) end)) [
  | inl t ↦ (let same : a / 4096 ≡ end = eqb-true (a / 4096) end t in
      let both : is_between first (end + 1) (a / 4096) ≡ true = grind (arith, nat_tests) in
      rw (t, both) refl)
  | inr f ↦ (let other : a / 4096 ≢ end = eqb-false (a / 4096) end f in
      rw (f, between_next first end (a / 4096) other) refl)
])

-- the pages of a segment
pub between_touches : (s : Segment) (end : ℕ) → 0 < s.memsz → end ≡ end_page s
    → is_between (first_page s) end ≡ touches s
between_touches s end some e = fun_ext (λ q. rw (lt-ltb 0 s.memsz some, e) refl)

pub touches_page : (s : Segment) (q : ℕ) → 0 < s.memsz → first_page s ≤ q → q < end_page s
    → touches s q ≡ true
touches_page s q some low high = touches_from s q (record { some = some; low = low; high = high })

-- zeros where zeros stand
pub zeroed_kept : (b : ByteMap) (q : ℕ) → ((a : ℕ) → a / 4096 ≡ q → b a ≡ 0)
    → with_zero_page b q ≡ b
zeroed_kept b q zeros = fun_ext (λ a. elim (cases_Bool (eqb (a / 4096) q)) [
  | inl t ↦ rw t (sym (zeros a (eqb-true (a / 4096) q t)))
  | inr f ↦ rw f refl
])

pub stack_test : (q : ℕ) → 0x7FFE0 ≤ q → q < 0x7FFF0 → is_stack q ≡ true
stack_test q low high = grind (arith, nat_tests)
