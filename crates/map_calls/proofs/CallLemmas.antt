-- What a call sees, and how its refusals follow each other.
use Rattle.std.proofs.Common.{◌≡◌, ℕ, ◌<◌, ◌+◌, ◌%◌, ◌==◌, ◌&&◌, ◌||◌, not, nat_lt, Bool, true}
use Rattle.std.proofs.Common.{false}
use Rattle.std.proofs.Common.{Option, Some, None, is_none, List, refl, sym, ap, ◌∙◌, arith, inl}
use Rattle.std.proofs.Common.{inr}
use Rattle.std.proofs.lemmas.Bool.{cases_lt, lt-ltb, le-ltb}
use Rattle.std.specs.List.{list_any}
use Rattle.erim_defs.specs.declared.linux.TheConstants.{EPERM, EAGAIN, EINVAL, ENOMEM}
use Rattle.erim_defs.specs.declared.machine.Keys.{Keys}
use Rattle.erim_defs.specs.declared.machine.Rights.{Rights}
use Rattle.erim_defs.specs.declared.machine.Thread.{Thread}
use Rattle.erim_defs.specs.Inspection.Trust.{TrustValue}
use Rattle.erim_defs.specs.Machine.CallResult.{CallResult, Refusal, Answer, Change, no_change}
use Rattle.erim_defs.specs.Machine.CallResult.{or_refuse}
use Rattle.erim_defs.specs.Machine.MapCalls.{PageRange, range_of, ends_past_user, is_protected}
use Rattle.erim_defs.specs.Machine.MapCalls.{has_pin}
use Rattle.erim_defs.specs.Machine.MapCalls.{any_page, is_foreign, is_denied_key, munmap_result}
use Rattle.erim_defs.specs.Machine.MapCalls.{protect, with_pages, with_prot}
use Rattle.erim_defs.specs.Machine.Pages.{RightsMap, ByteMap, asks_exec}
use Rattle.erim_defs.specs.Machine.State.{State, trust_of}
use Rattle.map_calls.specs.Guards.{pins}
use Rattle.map_calls.specs.Keys.{SeesKeys, is_unheld}
use Rattle.map_calls.specs.Ranges.{anew, rights_within, zeros_within}
use Rattle.map_calls.proofs.GuardLemmas.{pins_any}

-- a test of a range by what a call sees is the definition's
pub protected_seen : (s : State) (t : Thread) (r span : PageRange) (trust : TrustValue)
    (rights : RightsMap) (pkru : ℕ) (b : Bool) → trust_of s ≡ trust → s.rights ≡ rights
    → t.pkru ≡ pkru → span ≡ r → b ≡ is_protected trust rights pkru span
    → is_protected (trust_of s) s.rights t.pkru r ≡ b
protected_seen s t r span trust rights pkru b is_trust is_rights is_pkru same tested =
    ap (λ x. is_protected x s.rights t.pkru r) is_trust
    ∙ (ap (λ x. is_protected trust x t.pkru r) is_rights
    ∙ (ap (λ x. is_protected trust rights x r) is_pkru
    ∙ sym (tested ∙ ap (is_protected trust rights pkru) same)))

pub pinned_seen : (s : State) (r span : PageRange) (threads : List Thread) (b : Bool)
    → s.threads ≡ threads → span ≡ r → b ≡ list_any (pins span) threads → has_pin s r ≡ b
pinned_seen s r span threads b h same tested =
    pins_any r s.threads ∙ (ap (list_any (pins r)) h
    ∙ sym (tested ∙ ap (λ x. list_any (pins x) threads) same))

pub refuses : (b : Bool) (e : ℕ) (rest : CallResult) → b ≡ true → or_refuse b e rest ≡ Refusal e
refuses b e rest h = rw h refl

pub passes : (b : Bool) (e : ℕ) (rest : CallResult) → b ≡ false → or_refuse b e rest ≡ rest
passes b e rest h = rw h refl

-- a state with other rights and bytes
abbrev pub seen_change : State → Thread → RightsMap → ByteMap → Change
seen_change s t rights bytes =
    (let c = no_change s t in record c { rights = rights; bytes = bytes })

pub same_change : (s : State) (t : Thread) (m new : RightsMap) (b fresh : ByteMap) → m ≡ new
    → b ≡ fresh → seen_change s t m b ≡ seen_change s t new fresh
same_change s t m new b fresh e f =
    ap (λ x. seen_change s t x b) e ∙ ap (λ x. seen_change s t new x) f

-- the change of a range to these rights and zeros
pub change_seen : (s : State) (t : Thread) (r span : PageRange) (x : Option Rights)
    (rights new : RightsMap) (bytes fresh : ByteMap) → s.rights ≡ rights → s.bytes ≡ bytes
    → span ≡ r → new ≡ rights_within rights span.first (span.first + span.count) (λ _. x)
    → fresh ≡ zeros_within bytes span.first (span.first + span.count)
    → with_pages s t r x ≡ seen_change s t new fresh
change_seen s t r span x rights new bytes fresh is_rights is_bytes same is_new is_fresh =
    same_change s t (rights_within s.rights r.first (r.first + r.count) (λ _. x)) new
    (zeros_within s.bytes r.first (r.first + r.count)) fresh
    (ap (λ m. rights_within m r.first (r.first + r.count) (λ _. x)) is_rights
    ∙ sym (is_new
    ∙ ap (λ (y : PageRange). rights_within rights y.first (y.first + y.count) (λ _. x)) same))
    (ap (λ b. zeros_within b r.first (r.first + r.count)) is_bytes
    ∙ sym (is_fresh ∙ ap (λ (y : PageRange). zeros_within bytes y.first (y.first + y.count)) same))

-- ---- munmap

abbrev pub is_invalid : ℕ → ℕ → Bool
is_invalid addr len = not (addr % 4096 == 0) || (len == 0 || ends_past_user (range_of addr len))

invalid_any : (a l p : Bool) → l ≡ true → (not a || (l || p)) ≡ true
invalid_any true l p h = rw h refl
invalid_any false l p h = refl

pub no_length : (addr len : ℕ) → len ≡ 0 → is_invalid addr len ≡ true
no_length addr len h =
    invalid_any (addr % 4096 == 0) (len == 0) (ends_past_user (range_of addr len)) (rw h refl)

invalid_past : (a l p : Bool) → (not a || p) ≡ true → (not a || (l || p)) ≡ true
invalid_past true true p h = refl
invalid_past true false p h = h
invalid_past false l p h = refl

pub no_range : (addr len : ℕ)
    → (not (addr % 4096 == 0) || ends_past_user (range_of addr len)) ≡ true
    → is_invalid addr len ≡ true
no_range addr len h = invalid_past (addr % 4096 == 0) (len == 0) (ends_past_user
    (range_of addr len)) h

valid_all : (a l p : Bool) → a ≡ true → l ≡ false → p ≡ false → (not a || (l || p)) ≡ false
valid_all a l p h i j = rw (h, i, j) refl

pub is_valid : (addr len : ℕ) → (addr % 4096 == 0) ≡ true → (len == 0) ≡ false
    → ends_past_user (range_of addr len) ≡ false → is_invalid addr len ≡ false
is_valid addr len a l p =
    valid_all (addr % 4096 == 0) (len == 0) (ends_past_user (range_of addr len)) a l p

pub munmap_invalid : (s : State) (t : Thread) (addr len : ℕ) → is_invalid addr len ≡ true
    → munmap_result s t addr len ≡ Refusal EINVAL
unfolding munmap_result
munmap_invalid s t addr len h = refuses (is_invalid addr len) EINVAL _ h

pub munmap_protected : (s : State) (t : Thread) (addr len : ℕ) → is_invalid addr len ≡ false
    → is_protected (trust_of s) s.rights t.pkru (range_of addr len) ≡ true
    → munmap_result s t addr len ≡ Refusal EPERM
unfolding munmap_result
munmap_protected s t addr len v p =
    passes (is_invalid addr len) EINVAL _ v
    ∙ refuses (is_protected (trust_of s) s.rights t.pkru (range_of addr len)) EPERM _ p

pub munmap_pinned : (s : State) (t : Thread) (addr len : ℕ) → is_invalid addr len ≡ false
    → is_protected (trust_of s) s.rights t.pkru (range_of addr len) ≡ false
    → has_pin s (range_of addr len) ≡ true
    → munmap_result s t addr len ≡ Refusal EAGAIN
unfolding munmap_result
munmap_pinned s t addr len v p n =
    passes (is_invalid addr len) EINVAL _ v
    ∙ (passes (is_protected (trust_of s) s.rights t.pkru (range_of addr len)) EPERM _ p
    ∙ refuses (has_pin s (range_of addr len)) EAGAIN _ n)

pub munmap_done : (s : State) (t : Thread) (addr len : ℕ) → is_invalid addr len ≡ false
    → is_protected (trust_of s) s.rights t.pkru (range_of addr len) ≡ false
    → has_pin s (range_of addr len) ≡ false
    → munmap_result s t addr len ≡ Answer 0 (with_pages s t (range_of addr len) None)
unfolding munmap_result
munmap_done s t addr len v p n =
    passes (is_invalid addr len) EINVAL _ v
    ∙ (passes (is_protected (trust_of s) s.rights t.pkru (range_of addr len)) EPERM _ p
    ∙ passes (has_pin s (range_of addr len)) EAGAIN _ n)

-- ---- mprotect and pkey_mprotect

abbrev pub is_wrong : State → ℕ → ℕ → ℕ → Option ℕ → Bool
is_wrong s addr len prot key =
    not (addr % 4096 == 0) || (nat_lt 7 prot || (ends_past_user (range_of addr len)
    || is_foreign s key))

right_all : (a p q f : Bool) → a ≡ true → p ≡ false → q ≡ false → f ≡ false
    → (not a || (p || (q || f))) ≡ false
right_all a p q f h i j k = rw (h, i, j, k) refl

pub is_right : (s : State) (addr len prot : ℕ) (key : Option ℕ) → (addr % 4096 == 0) ≡ true
    → prot < 8 → ends_past_user (range_of addr len) ≡ false → is_foreign s key ≡ false
    → is_wrong s addr len prot key ≡ false
is_right s addr len prot key a p q f =
    right_all (addr % 4096 == 0) (nat_lt 7 prot) (ends_past_user (range_of addr len))
    (is_foreign s key) a
    (le-ltb 7 prot (omega arith)) q f

wrong_range : (a p q f : Bool) → (not a || q) ≡ true → (not a || (p || (q || f))) ≡ true
wrong_range false p q f h = refl
wrong_range true true q f h = refl
wrong_range true false q f h = rw h refl

wrong_prot : (a p q f : Bool) → p ≡ true → (not a || (p || (q || f))) ≡ true
wrong_prot false p q f h = refl
wrong_prot true p q f h = rw h refl

wrong_key : (a p q f : Bool) → f ≡ true → (not a || (p || (q || f))) ≡ true
wrong_key false p q f h = refl
wrong_key true true q f h = refl
wrong_key true false true f h = refl
wrong_key true false false f h = h

protect_wrong : (s : State) (t : Thread) (addr len prot : ℕ) (key : Option ℕ)
    → is_wrong s addr len prot key ≡ true
    → protect s t addr (range_of addr len) prot key ≡ Refusal EINVAL
protect_wrong s t addr len prot key w = refuses (is_wrong s addr len prot key) EINVAL _ w

pub protect_no_range : (s : State) (t : Thread) (addr len prot : ℕ) (key : Option ℕ)
    → (not (addr % 4096 == 0) || ends_past_user (range_of addr len)) ≡ true
    → protect s t addr (range_of addr len) prot key ≡ Refusal EINVAL
protect_no_range s t addr len prot key h =
    protect_wrong s t addr len prot key (wrong_range (addr % 4096 == 0) (nat_lt 7 prot)
    (ends_past_user (range_of addr len)) (is_foreign s key) h)

pub protect_no_prot : (s : State) (t : Thread) (addr len prot : ℕ) (key : Option ℕ) → 7 < prot
    → protect s t addr (range_of addr len) prot key ≡ Refusal EINVAL
protect_no_prot s t addr len prot key h =
    protect_wrong s t addr len prot key (wrong_prot (addr % 4096 == 0) (nat_lt 7 prot)
    (ends_past_user (range_of addr len)) (is_foreign s key) (lt-ltb 7 prot h))

pub protect_no_key : (s : State) (t : Thread) (addr len prot : ℕ) (key : Option ℕ)
    → is_foreign s key ≡ true → protect s t addr (range_of addr len) prot key ≡ Refusal EINVAL
protect_no_key s t addr len prot key h =
    protect_wrong s t addr len prot key (wrong_key (addr % 4096 == 0) (nat_lt 7 prot)
    (ends_past_user (range_of addr len)) (is_foreign s key) h)

-- what decides the rest, with nothing invalid
pub record Decided (s : State) (t : Thread) (addr len prot : ℕ) (key : Option ℕ)
    (guarded trusted unmapped lost : Bool) : Type 0 where
  pub valid : is_wrong s addr len prot key ≡ false
  pub guard : is_protected (trust_of s) s.rights t.pkru (range_of addr len) ≡ guarded
  pub closed : is_denied_key (trust_of s) t.pkru key ≡ trusted
  pub holes : any_page (range_of addr len) (λ q. is_none (s.rights q)) ≡ unmapped
  pub pin : (not (asks_exec prot) && has_pin s (range_of addr len)) ≡ lost

pub protect_is : (s : State) (t : Thread) (addr len prot : ℕ) (key : Option ℕ)
    (guarded trusted unmapped lost : Bool)
    → Decided s t addr len prot key guarded trusted unmapped lost
    → protect s t addr (range_of addr len) prot key
    ≡ or_refuse (guarded || trusted) EPERM (or_refuse unmapped ENOMEM (or_refuse lost EAGAIN
    (Answer 0 (with_prot s t (range_of addr len) prot key))))
protect_is s t addr len prot key guarded trusted unmapped lost d =
    let done : CallResult = Answer 0 (with_prot s t (range_of addr len) prot key) in
    passes (is_wrong s addr len prot key) EINVAL _ d.valid
    ∙ decided (is_protected (trust_of s) s.rights t.pkru (range_of addr len)) guarded
    (is_denied_key (trust_of s) t.pkru key) trusted
    (any_page (range_of addr len) (λ q. is_none (s.rights q))) unmapped
    (not (asks_exec prot) && has_pin s (range_of addr len)) lost done d.guard d.closed d.holes d.pin
  where
    decided : (a b c d e f h i : Bool) (done : CallResult) → a ≡ b → c ≡ d → e ≡ f → h ≡ i
        → or_refuse (a || c) EPERM (or_refuse e ENOMEM (or_refuse h EAGAIN done))
        ≡ or_refuse (b || d) EPERM (or_refuse f ENOMEM (or_refuse i EAGAIN done))
    decided a b c d e f h i done p q r s = rw (p, q, r, s) refl

-- ---- the tests by what a call sees

pub closed_seen : (s : State) (t : Thread) (trust : TrustValue) (pkru : ℕ) (key : Option ℕ)
    (b : Bool) → trust_of s ≡ trust → t.pkru ≡ pkru
    → b ≡ is_denied_key trust pkru key → is_denied_key (trust_of s) t.pkru key ≡ b
closed_seen s t trust pkru None b e h tested = sym tested
closed_seen s t trust pkru (Some key) b e h tested =
    ap (λ x. is_denied_key x t.pkru (Some key)) e ∙ ap (λ x. is_denied_key trust x (Some key)) h
    ∙ sym tested

pub holes_seen : (s : State) (r span : PageRange) (rights : RightsMap) (b : Bool)
    → s.rights ≡ rights → span ≡ r → b ≡ any_page span (λ q. is_none (rights q))
    → any_page r (λ q. is_none (s.rights q)) ≡ b
holes_seen s r span rights b h same tested =
    ap (λ (x : RightsMap). any_page r (λ q. is_none (x q))) h
    ∙ sym (tested ∙ ap (λ x. any_page x (λ q. is_none (rights q))) same)

pub lost_seen : (s : State) (r span : PageRange) (threads : List Thread) (prot : ℕ) (b : Bool)
    → s.threads ≡ threads → span ≡ r
    → b ≡ (not (asks_exec prot) && list_any (pins span) threads)
    → (not (asks_exec prot) && has_pin s r) ≡ b
lost_seen s r span threads prot b h same tested =
    ap (λ x. not (asks_exec prot) && x)
    (pinned_seen s r span threads (list_any (pins span) threads) h same refl) ∙ sym tested

-- the change of a range that is asked anew
pub asked_seen : (s : State) (t : Thread) (r span : PageRange) (prot : ℕ) (key : Option ℕ)
    (rights new : RightsMap) (bytes fresh : ByteMap) → s.rights ≡ rights → s.bytes ≡ bytes
    → span ≡ r → new ≡ rights_within rights span.first (span.first + span.count) (anew prot key)
    → fresh ≡ bytes → with_prot s t r prot key ≡ seen_change s t new fresh
asked_seen s t r span prot key rights new bytes fresh is_rights is_bytes same is_new is_fresh =
    same_change s t (rights_within s.rights r.first (r.first + r.count) (anew prot key)) new s.bytes
    fresh
    (ap (λ m. rights_within m r.first (r.first + r.count) (anew prot key)) is_rights
    ∙ sym (is_new ∙ ap (λ (y : PageRange).
    rights_within rights y.first (y.first + y.count) (anew prot key)) same))
    (is_bytes ∙ sym is_fresh)

-- whether a key is foreign, by the keys that a call sees
pub foreign_seen : (s : State) (keys : Keys) (key : Option ℕ) → SeesKeys keys s
    → is_foreign s key ≡ is_unheld keys key
foreign_seen s keys None sees = refl
foreign_seen s keys (Some key) sees = elim (cases_lt key 16) [
  | inl l ↦ ap (λ b. not (nat_lt key 16 && b)) (sees key l)
  | inr l ↦ rw (le-ltb key 16 l) refl
]
