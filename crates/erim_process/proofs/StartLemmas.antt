-- The state at the start, field by field.
use Rattle.std.proofs.lemmas.Nat.{pow_pos, pow-add}
use Rattle.std.proofs.lemmas.Bool.{false_from_ne_true}
use Rattle.std.proofs.Math.Nat.{div-eq_of_lt}
use Rattle.std.proofs.Math.Path.{fun_ext}
use Rattle.erim_defs.specs.Bits.{has_bit}
use Rattle.std.proofs.Common.{◌≡◌, ◌≤◌, ◌<◌, ◌+◌, ◌*◌, ◌^◌, ◌/◌, ◌%◌, ◌||◌, zero, suc, arith, ℕ}
use Rattle.std.proofs.Common.{cond, eqb, ltb-false, ne_eqb}
use Rattle.erim_defs.specs.Inspection.Trust.{is_domain}
use Rattle.erim_defs.proofs.DomainLemmas.{domain_range}
use Rattle.std.proofs.Common.{Bool, true, false, List, [], ◌∷◌, Option, Some, None}
use Rattle.std.proofs.Common.{ap, sym, subst, ◌∙◌, refl}
use Rattle.erim_defs.specs.declared.found.Found.{Found}
use Rattle.erim_defs.specs.declared.machine.Thread.{Thread}
use Rattle.erim_defs.specs.declared.trust.Span.{Span}
use Rattle.erim_defs.specs.Machine.Pages.{RightsMap, ByteMap}
use Rattle.erim_defs.specs.Machine.State.{Setup, State, any_live}
use Rattle.erim_defs.specs.Output.Journal.{AreEntries}
use Rattle.erim_defs.specs.Inspection.Code.{or_else, Code}
use Rattle.erim_defs.specs.declared.machine.Entry.{Entry}
use Rattle.erim_defs.specs.Machine.Replay.{replay}
use Rattle.erim_defs.specs.Machine.Start.{first_state, first_rights, first_thread, image_byte}
use Rattle.erim_defs.specs.Machine.Start.{trusted_unsafe, frames_needed}
use Rattle.erim_defs.specs.declared.start_fault.StartFault.{StartFault}
use Rattle.erim_defs.specs.Machine.StartFaults.{start_fault, start_if, if_trusted}
use Rattle.erim_defs.specs.Inspection.Unsafe.{IsFirstUnsafe, first_unsafe}
use Rattle.erim_defs.specs.Inspection.Image.{text_of, image_code, image_trust, trusted_code}
use Rattle.erim_defs.proofs.UnsafeLemmas.{first_is}

-- ---- the keys that are taken

bit_none : (n k : ℕ) → n < 2 ^ k → has_bit n k ≡ false
bit_none n k few = let none : n / 2 ^ k ≡ 0 = div-eq_of_lt few in rw none refl

bit_is : (n k a : ℕ) (b : Bool) → (n / 2 ^ k) % 2 ≡ a → a ≡ cond b 1 0 → has_bit n k ≡ b
bit_is n k a true e f = rw (e, f) refl
bit_is n k a false e f = rw (e, f) refl

few_bit : (b : Bool) (a : ℕ) → a ≡ cond b 1 0 → a ≤ 1
few_bit true a e = omega (arith, e)
few_bit false a e = omega (arith, e)

no_domain : (image : List ℕ) (k : ℕ) → 5 ≤ k → is_domain (image_trust image) k ≡ false
no_domain image k high = false_from_ne_true _ (λ is.
    let r = domain_range image k is in absurd (omega (arith, high, r)))

-- bit 0, and a bit for each domain
pub taken_keys : (image : List ℕ) (a b c d : ℕ)
    → a ≡ cond (is_domain (image_trust image) 1) 1 0
    → b ≡ cond (is_domain (image_trust image) 2) 1 0
    → c ≡ cond (is_domain (image_trust image) 3) 1 0
    → d ≡ cond (is_domain (image_trust image) 4) 1 0 → (k : ℕ)
    → has_bit (1 + 2 * a + 4 * b + 8 * c + 16 * d) k
    ≡ (eqb k 0 || is_domain (image_trust image) k)
taken_keys image a b c d e f g h k =
    by k (few_bit _ a e) (few_bit _ b f) (few_bit _ c g) (few_bit _ d h)
  where
    by : (k : ℕ) → a ≤ 1 → b ≤ 1 → c ≤ 1 → d ≤ 1
        → has_bit (1 + 2 * a + 4 * b + 8 * c + 16 * d) k
        ≡ (eqb k 0 || is_domain (image_trust image) k)
    by zero p q r s = bit_is _ 0 1 true (omega (arith, p, q, r, s)) refl
    by (suc zero) p q r s = bit_is _ 1 a _ (omega (arith, p, q, r, s)) e
    by (suc (suc zero)) p q r s = bit_is _ 2 b _ (omega (arith, p, q, r, s)) f
    by (suc (suc (suc zero))) p q r s = bit_is _ 3 c _ (omega (arith, p, q, r, s)) g
    by (suc (suc (suc (suc zero)))) p q r s = bit_is _ 4 d _ (omega (arith, p, q, r, s)) h
    by (suc (suc (suc (suc (suc k))))) p q r s =
        let low : 0 < 2 ^ k = pow_pos k in
        let more : 2 ^ (k + 5) ≡ 2 ^ k * 2 ^ 5 = pow-add 2 k 5 in
        let same : suc (suc (suc (suc (suc k)))) ≡ k + 5 = omega arith in
        let few : 1 + 2 * a + 4 * b + 8 * c + 16 * d < 2 ^ (k + 5) =
        omega (arith, p, q, r, s, low, more) in
        rw (same, no_domain image (k + 5) (omega arith), ne_eqb (k + 5) 0 (omega arith))
        (bit_none _ (k + 5) few)

-- the first unsafe sequence of a code that is laid for an image is that of the image
pub image_first : (image : List ℕ) (c : Code) (r : Option Found) → c ≡ image_code image
    → IsFirstUnsafe (image_trust image) c 0 (2 ^ 47) r
    → r ≡ first_unsafe (image_trust image) (image_code image)
image_first image c r laid first =
    first_is (image_trust image) (image_code image) r (rw laid at first)

-- and of its part on trusted text, what the text by itself holds unsafe
pub trusted_first : (image : List ℕ) (c text : Code) (r : Option Found) → c ≡ image_code image
    → text ≡ text_of (image_trust image) c → IsFirstUnsafe (image_trust image) text 0 (2 ^ 47) r
    → r ≡ trusted_unsafe image
unfolding trusted_unsafe trusted_code
trusted_first image c text r laid part first =
    first_is (image_trust image) (text_of (image_trust image) (image_code image)) r
    (rw (part, laid) at first)

abbrev start_state : Setup → RightsMap → ByteMap → List Thread → List Span → List ℕ → (ℕ → Bool)
    → State
start_state setup rights bytes threads blocks output keys = record {
  setup = setup;
  rights = rights;
  bytes = bytes;
  threads = threads;
  keys = keys;
  blocks = blocks;
  output = output;
  end = None;
  steps = 0;
  escape = None;
}

pub loaded_is : (setup : Setup) (rights : RightsMap) (bytes : ByteMap) (threads : List Thread)
    (blocks : List Span) (output : List ℕ) (keys : ℕ → Bool)
    → rights ≡ first_rights setup → bytes ≡ image_byte setup.image
    → threads ≡ first_thread setup ∷ [] → blocks ≡ [] → output ≡ []
    → ((k : ℕ) → keys k ≡ (eqb k 0 || is_domain (image_trust setup.image) k))
    → start_state setup rights bytes threads blocks output keys ≡ first_state setup
unfolding first_state
loaded_is setup rights bytes threads blocks output keys r b t h o k =
    rw (r, b, t, h, o, fun_ext k) refl

none_first : {X : Type 0} (x y : Option X) → or_else x y ≡ None → x ≡ None
none_first None y h = refl
none_first (Some s) y h = absurd cc

none_second : {X : Type 0} (x y : Option X) → or_else x y ≡ None → y ≡ None
none_second None y h = h
none_second (Some s) y h = absurd cc

if_none : (test : Bool) (fault : StartFault) → start_if test fault ≡ None → test ≡ false
if_none true fault h = absurd cc
if_none false fault h = refl

-- where nothing keeps the image from starting, its trusted text holds nothing unsafe by itself
pub start_trusted : (setup : Setup) → start_fault setup ≡ None → trusted_unsafe setup.image ≡ None
unfolding start_fault
start_trusted setup h = no_trusted (trusted_unsafe setup.image)
    (none_first (if_trusted (trusted_unsafe setup.image)) _ h)
  where
    no_trusted : (found : Option Found) → if_trusted found ≡ None → found ≡ None
    no_trusted None h = refl
    no_trusted (Some found) h = absurd cc

-- where nothing keeps the image from starting there is room
pub start_room : (setup : Setup) → start_fault setup ≡ None
    → frames_needed setup.image ≤ setup.frames
unfolding start_fault
start_room setup h =
    let second = none_second (if_trusted (trusted_unsafe setup.image)) _ h in
    ltb-false setup.frames (frames_needed setup.image)
    (if_none _ _ second)

-- its thread is live
pub start_live : (setup : Setup) (s : State) → s ≡ first_state setup → any_live s.threads ≡ true
unfolding any_live first_thread first_state
start_live setup s e = rw e refl

pub no_entries : (entries : List Entry) → entries ≡ [] → AreEntries entries
no_entries entries e = subst AreEntries (sym e) tt

pub replay_start : (setup : Setup) (entries : List Entry) (s : State) → entries ≡ []
    → s ≡ first_state setup → replay setup entries ≡ Some s
unfolding replay
replay_start setup entries s e h = ap (replay setup) e ∙ ap Some (sym h)
