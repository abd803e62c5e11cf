-- mmap, by its tests.
use Rattle.std.proofs.Common.{◌≡◌, ◌≢◌, ℕ, ◌<◌, ◌≤◌, ◌+◌, ◌*◌, ◌/◌, ◌%◌, ◌==◌, ◌||◌, not}
use Rattle.std.proofs.Common.{nat_lt, Bool, true, false, Some, cond, refl, sym, ap}
use Rattle.std.proofs.Common.{◌∙◌, arith, ne_eqb}
use Rattle.std.specs.Int.{div_ceil}
use Rattle.std.proofs.lemmas.Bool.{lt-ltb, le-ltb}
use Rattle.erim_defs.specs.declared.linux.TheConstants.{EPERM, EAGAIN, EINVAL, ENOMEM, LOWEST_FIXED}
use Rattle.erim_defs.specs.declared.linux.TheConstants.{MAP_ANYWHERE, MAP_AT}
use Rattle.erim_defs.specs.declared.machine.Thread.{Thread}
use Rattle.erim_defs.specs.Machine.CallResult.{CallResult, Refusal, Answer, or_refuse}
use Rattle.erim_defs.specs.Machine.Count.{mapped_pages}
use Rattle.erim_defs.specs.Machine.MapCalls.{PageRange, range_of, ends_past_user, is_protected}
use Rattle.erim_defs.specs.Machine.MapCalls.{has_pin}
use Rattle.erim_defs.specs.Machine.MapCalls.{mapped_in, mmap_at, mmap_anywhere, mmap_from}
use Rattle.erim_defs.specs.Machine.MapCalls.{mmap_result}
use Rattle.erim_defs.specs.Machine.MapCalls.{new_rights, with_pages, lowest_free}
use Rattle.erim_defs.specs.Machine.Pages.{RightsMap}
use Rattle.erim_defs.specs.Machine.State.{State, trust_of}
use Rattle.map_calls.proofs.CallLemmas.{passes, refuses}

-- ---- mmap_at

abbrev pub is_misplaced : ℕ → ℕ → Bool
is_misplaced addr len =
    not (addr % 4096 == 0) || (nat_lt addr LOWEST_FIXED || ends_past_user (range_of addr len))

placed_all : (a b p : Bool) → a ≡ true → b ≡ false → p ≡ false → (not a || (b || p)) ≡ false
placed_all a b p h i j = rw (h, i, j) refl

pub is_placed : (addr len : ℕ) → (addr % 4096 == 0) ≡ true → LOWEST_FIXED ≤ addr
    → ends_past_user (range_of addr len) ≡ false → is_misplaced addr len ≡ false
is_placed addr len a b p =
    placed_all (addr % 4096 == 0) (nat_lt addr LOWEST_FIXED) (ends_past_user (range_of addr len)) a
    (le-ltb addr LOWEST_FIXED b) p

-- what decides a fixed range
pub record Settled (s : State) (t : Thread) (addr len : ℕ) (guarded short pinned : Bool)
    : Type 0 where
  pub placed : is_misplaced addr len ≡ false
  pub guard : is_protected (trust_of s) s.rights t.pkru (range_of addr len) ≡ guarded
  pub room : nat_lt (s.setup.frames + mapped_in s.rights (range_of addr len))
      (mapped_pages s.rights + (range_of addr len).count) ≡ short
  pub pin : has_pin s (range_of addr len) ≡ pinned

pub mmap_at_is : (s : State) (t : Thread) (addr len prot : ℕ) (guarded short pinned : Bool)
    → Settled s t addr len guarded short pinned
    → mmap_at s t addr (range_of addr len) prot
    ≡ or_refuse guarded EPERM (or_refuse short ENOMEM (or_refuse pinned EAGAIN
    (Answer addr (with_pages s t (range_of addr len) (new_rights prot)))))
mmap_at_is s t addr len prot guarded short pinned d =
    let done : CallResult = Answer addr (with_pages s t (range_of addr len) (new_rights prot)) in
    passes (is_misplaced addr len) EINVAL _ d.placed
    ∙ decided (is_protected (trust_of s) s.rights t.pkru (range_of addr len)) guarded
    (nat_lt (s.setup.frames + mapped_in s.rights (range_of addr len))
    (mapped_pages s.rights + (range_of addr len).count)) short (has_pin s
    (range_of addr len)) pinned done
    d.guard d.room d.pin
  where
    decided : (a b c d e f : Bool) (done : CallResult) → a ≡ b → c ≡ d → e ≡ f
        → or_refuse a EPERM (or_refuse c ENOMEM (or_refuse e EAGAIN done))
        ≡ or_refuse b EPERM (or_refuse d ENOMEM (or_refuse f EAGAIN done))
    decided a b c d e f done p q r = rw (p, q, r) refl

enough : (free m frames counted count : ℕ) → free + m ≡ frames → count ≤ counted + free
    → nat_lt (frames + counted) (m + count) ≡ false
enough free m frames counted count sum fits =
    le-ltb (frames + counted) (m + count) (omega (arith, sum, fits))

-- there are frames enough for a fixed range
pub room_seen : (s : State) (r span : PageRange) (rights : RightsMap) (frames free counted : ℕ)
    → s.rights ≡ rights → s.setup.frames ≡ frames → span ≡ r → free + mapped_pages rights ≡ frames
    → counted ≡ mapped_in rights span → span.count ≤ counted + free
    → nat_lt (s.setup.frames + mapped_in s.rights r) (mapped_pages s.rights + r.count) ≡ false
room_seen s r span rights frames free counted is_rights is_frames same sum is_counted fits =
    ap (λ (x : RightsMap). nat_lt (s.setup.frames + mapped_in x r)
    (mapped_pages x + r.count)) is_rights
    ∙ (ap (λ n. nat_lt (n + mapped_in rights r) (mapped_pages rights + r.count)) is_frames
    ∙ (sym (ap (λ (x : PageRange). nat_lt (frames + mapped_in rights x)
    (mapped_pages rights + x.count)) same)
    ∙ (sym (ap (λ n. nat_lt (frames + n) (mapped_pages rights + span.count)) is_counted)
    ∙ enough free (mapped_pages rights) frames counted span.count sum fits)))

-- ---- mmap_anywhere

pub mmap_anywhere_is : (s : State) (t : Thread) (count prot first frames free : ℕ)
    (rights : RightsMap) → s.rights ≡ rights → s.setup.frames ≡ frames
    → free + mapped_pages rights ≡ frames → count ≤ free → lowest_free rights count ≡ Some first
    → mmap_anywhere s t count prot
    ≡ Answer (4096 * first)
    (with_pages s t (record { first = first; count = count }) (new_rights prot))
mmap_anywhere_is s t count prot first frames free rights is_rights is_frames sum fits found =
    let room : nat_lt s.setup.frames (mapped_pages s.rights + count) ≡ false =
    ap (λ (x : RightsMap). nat_lt s.setup.frames (mapped_pages x + count)) is_rights
    ∙ (ap (λ n. nat_lt n (mapped_pages rights + count)) is_frames
    ∙ le-ltb frames (mapped_pages rights + count) (omega (arith, sum, fits))) in
    let lowest : lowest_free s.rights count ≡ Some first =
    ap (λ (x : RightsMap). lowest_free x count) is_rights ∙ found in
    passes (nat_lt s.setup.frames (mapped_pages s.rights + count)) ENOMEM
    (mmap_from s t count prot (lowest_free s.rights count)) room
    ∙ ap (mmap_from s t count prot) lowest

-- ---- mmap

abbrev pub is_unasked : ℕ → ℕ → ℕ → Bool
is_unasked len prot flags =
    len == 0 || (nat_lt 7 prot || not (flags == MAP_ANYWHERE || flags == MAP_AT))

any_second : (a b c : Bool) → b ≡ true → (a || (b || c)) ≡ true
any_second true b c h = refl
any_second false b c h = rw h refl

any_third : (a b c : Bool) → c ≡ true → (a || (b || c)) ≡ true
any_third true b c h = refl
any_third false true c h = refl
any_third false false c h = h

none_asked : (a b c : Bool) → a ≡ false → b ≡ false → c ≡ false → (a || (b || c)) ≡ false
none_asked a b c h i j = rw (h, i, j) refl

pub mmap_unasked : (s : State) (t : Thread) (addr len prot flags : ℕ)
    → is_unasked len prot flags ≡ true → mmap_result s t addr len prot flags ≡ Refusal EINVAL
unfolding mmap_result
mmap_unasked s t addr len prot flags h = refuses (is_unasked len prot flags) EINVAL _ h

pub mmap_no_length : (s : State) (t : Thread) (addr len prot flags : ℕ) → len ≡ 0
    → mmap_result s t addr len prot flags ≡ Refusal EINVAL
mmap_no_length s t addr len prot flags h =
    mmap_unasked s t addr len prot flags (rw h refl)

pub mmap_no_prot : (s : State) (t : Thread) (addr len prot flags : ℕ) → 7 < prot
    → mmap_result s t addr len prot flags ≡ Refusal EINVAL
mmap_no_prot s t addr len prot flags h =
    mmap_unasked s t addr len prot flags (any_second (len == 0) (nat_lt 7 prot)
    (not (flags == MAP_ANYWHERE || flags == MAP_AT)) (lt-ltb 7 prot h))

neither : (a b : Bool) → a ≡ false → b ≡ false → not (a || b) ≡ true
neither a b h i = rw (h, i) refl

pub mmap_no_flags : (s : State) (t : Thread) (addr len prot flags : ℕ) → flags ≢ MAP_ANYWHERE
    → flags ≢ MAP_AT → mmap_result s t addr len prot flags ≡ Refusal EINVAL
mmap_no_flags s t addr len prot flags h i =
    mmap_unasked s t addr len prot flags (any_third (len == 0) (nat_lt 7 prot)
    (not (flags == MAP_ANYWHERE || flags == MAP_AT)) (neither (flags == MAP_ANYWHERE)
    (flags == MAP_AT) (ne_eqb flags MAP_ANYWHERE h) (ne_eqb flags MAP_AT i)))

pub mmap_fixed : (s : State) (t : Thread) (addr len prot flags : ℕ) → len ≢ 0 → prot ≤ 7
    → flags ≡ MAP_AT
    → mmap_result s t addr len prot flags ≡ mmap_at s t addr (range_of addr len) prot
unfolding mmap_result
mmap_fixed s t addr len prot flags l p f =
    passes (is_unasked len prot flags) EINVAL _ (none_asked (len == 0) (nat_lt 7 prot)
    (not (flags == MAP_ANYWHERE || flags == MAP_AT)) (ne_eqb len 0 l) (le-ltb 7 prot p) (rw f refl))
    ∙ ap (λ n. cond (n == MAP_AT) (mmap_at s t addr (range_of addr len) prot)
    (mmap_anywhere s t (range_of addr len).count prot)) f

ceil_is : (n : ℕ) → div_ceil n 4096 ≡ (n + 4095) / 4096
ceil_is n = omega arith

pub mmap_free : (s : State) (t : Thread) (addr len prot flags count : ℕ) → len ≢ 0 → prot ≤ 7
    → flags ≡ MAP_ANYWHERE → count ≡ div_ceil len 4096
    → mmap_result s t addr len prot flags ≡ mmap_anywhere s t count prot
unfolding mmap_result
mmap_free s t addr len prot flags count l p f c =
    passes (is_unasked len prot flags) EINVAL _ (none_asked (len == 0) (nat_lt 7 prot)
    (not (flags == MAP_ANYWHERE || flags == MAP_AT)) (ne_eqb len 0 l) (le-ltb 7 prot p) (rw f refl))
    ∙ (ap (λ n. cond (n == MAP_AT) (mmap_at s t addr (range_of addr len) prot)
    (mmap_anywhere s t (range_of addr len).count prot)) f
    ∙ sym (ap (λ n. mmap_anywhere s t n prot) (c ∙ ceil_is len)))
