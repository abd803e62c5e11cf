-- The law of the boundary, by the accesses of a plan and by the bytes of a fetch.
use Rattle.std.proofs.Common.{◌≡◌, ◌≢◌, ◌+◌, ◌*◌, ◌/◌, ◌^◌, ℕ, zero, suc, List, [], ◌∷◌, ◌++◌}
use Rattle.std.proofs.Common.{Option, Some, None, Result, Ok, Err, Bool, true, false, nat_lt, refl}
use Rattle.std.proofs.Common.{sym, ap, ◌∙◌, inl, inr}
use Rattle.std.proofs.lemmas.Bool.{cases_Bool}
use Rattle.erim_defs.specs.declared.machine.Rights.{Rights}
use Rattle.erim_defs.specs.declared.machine.Thread.{Thread}
use Rattle.erim_defs.specs.declared.machine.Access.{Access}
use Rattle.erim_defs.specs.declared.machine.Access.TheVariants.{Fault, Missing}
use Rattle.erim_defs.specs.Machine.Pages.{RightsMap, ByteMap, word, published_code, code_bytes}
use Rattle.erim_defs.specs.Machine.Access.{Seen, whole, stop, stop_at, stop_by}
use Rattle.erim_defs.specs.Inspection.Code.{or_else}
use Rattle.erim_defs.specs.Machine.Plan.{Plan, Ask, Give, Refuse, Call, Write, Effect, Done}
use Rattle.erim_defs.specs.Machine.Plan.{Stopped, Called, effect, unless, effect_of_write}
use Rattle.page_store.specs.Answers.{fetch_of, code_told, cons_ok}
use Rattle.page_store.specs.Notes.{NoteMap, Notes, AllHeldNoted, looked_access, looked_fetch}
use Rattle.page_store.specs.Notes.{unless_stopped, while_published}
use Rattle.page_store.specs.FetchLaw.{WholeFetchLaw}
use Rattle.x86_step.specs.Looked.{looked_write, looked_addresses}
use Rattle.x86_step.specs.Boundary.{AgreesAt, Agree, AgreesOn, NoneMissing}

-- ---- an answer that names no missing page, by its cases

-- an access that isn't stopped by a missing page
abbrev IsHeld : Option Access → Type 0
IsHeld None = Unit {0}
IsHeld (Some (Fault cause a)) = Unit {0}
IsHeld (Some (Missing q)) = ⊥

abbrev IsTold : Effect → Type 0
IsTold (Done t w) = Unit {0}
IsTold (Stopped a) = IsHeld (Some a)
IsTold Called = Unit {0}

is_told : (e : Effect) → NoneMissing e → IsTold e
is_told (Done t w) h = tt
is_told (Stopped (Fault cause a)) h = tt
is_told (Stopped (Missing q)) h = h q refl
is_told Called h = tt

-- ---- agreement at the addresses of two lists, and at noted ones

agree_left : (s : Seen) (b : ByteMap) (o : Seen) (c : ByteMap) (xs ys : List ℕ)
    → Agree s b o c (xs ++ ys) → Agree s b o c xs
agree_left s b o c [] ys h = tt
agree_left s b o c (x ∷ xs) ys h = (h.0, agree_left s b o c xs ys h.1)

agree_right : (s : Seen) (b : ByteMap) (o : Seen) (c : ByteMap) (xs ys : List ℕ)
    → Agree s b o c (xs ++ ys) → Agree s b o c ys
agree_right s b o c [] ys h = h
agree_right s b o c (x ∷ xs) ys h = agree_right s b o c xs ys h.1

-- nothing is asked of a page that isn't held
agrees_held : (told other : Option (Option Rights)) (x y : ℕ)
    → (told ≢ None → AgreesAt told other x y) → AgreesAt told other x y
agrees_held None other x y h = tt
agrees_held (Some None) other x y h = h (λ e. cc)
agrees_held (Some (Some r)) other x y h = h (λ e. cc)

-- a memory that agrees at all noted addresses agrees at those that were looked at
pub agree_noted : (notes : NoteMap) (s : Seen) (b : ByteMap) (o : Seen) (c : ByteMap) (xs : List ℕ)
    → AgreesOn notes s b o c → AllHeldNoted s notes xs → Agree s b o c xs
agree_noted notes s b o c [] h k = tt
agree_noted notes s b o c (x ∷ xs) h k = (
  agrees_held (s (x / 4096)) (o (x / 4096)) (b x) (c x) (λ held. h x (k.0 held)),
  agree_noted notes s b o c xs h k.1,
)

-- ---- why an access stops

stop_by_same : (told other : Option (Option Rights)) (write : Bool) (pkru a x y : ℕ)
    → IsHeld (stop_by told write pkru a) → AgreesAt told other x y
    → stop_by other write pkru a ≡ stop_by told write pkru a
stop_by_same None other write pkru a x y t h = absurd t
stop_by_same (Some None) other write pkru a x y t h = ap (λ o. stop_by o write pkru a) h
stop_by_same (Some (Some r)) other write pkru a x y t h = ap (λ o. stop_by o write pkru a) h.0

stop_at_same : (s o : Seen) (write : Bool) (pkru a x y : ℕ) → IsHeld (stop_at s write pkru a)
    → AgreesAt (s (a / 4096)) (o (a / 4096)) x y
    → stop_at o write pkru a ≡ stop_at s write pkru a
stop_at_same s o write pkru a x y t h = elim (cases_Bool (nat_lt a (2 ^ 47))) [
  | inl u ↦ (let k : IsHeld (stop_by (s (a / 4096)) write pkru a) = rw u at t in
      rw u (stop_by_same (s (a / 4096)) (o (a / 4096)) write pkru a x y k h))
  | inr u ↦ rw u refl
]

held_first : (first rest : Option Access) → IsHeld (or_else first rest) → IsHeld first
held_first None rest t = tt
held_first (Some x) rest t = t

-- after the first byte, by what it says
stop_go : (s : Seen) (b : ByteMap) (o : Seen) (c : ByteMap) (write : Bool) (pkru a n : ℕ)
    (first : Option Access)
    → (IsHeld (stop s write pkru a n) → Agree s b o c (looked_access s write pkru a n)
    → stop o write pkru a n ≡ stop s write pkru a n)
    → IsHeld (or_else first (stop s write pkru a n))
    → Agree s b o c (unless_stopped first (looked_access s write pkru a n))
    → or_else first (stop o write pkru a n) ≡ or_else first (stop s write pkru a n)
stop_go s b o c write pkru a n None behind t k = behind t k
stop_go s b o c write pkru a n (Some x) behind t k = refl

-- an access stops for the same cause where memories agree on what it looks at
stop_same : (s : Seen) (b : ByteMap) (o : Seen) (c : ByteMap) (write : Bool) (pkru a n : ℕ)
    → IsHeld (stop s write pkru a n) → Agree s b o c (looked_access s write pkru a n)
    → stop o write pkru a n ≡ stop s write pkru a n
unfolding stop looked_access
stop_same s b o c write pkru a zero t h = refl
stop_same s b o c write pkru a (suc n) t h =
    rw (stop_at_same s o write pkru a (b a) (c a)
    (held_first (stop_at s write pkru a) (stop s write pkru (suc a) n) t) h.0)
    (stop_go s b o c write pkru (suc a) n (stop_at s write pkru a)
    (λ u k. stop_same s b o c write pkru (suc a) n u k) t h.1)

-- ---- what an access reads

-- an allowed byte is that of a mapped page
byte_by : (told other : Option (Option Rights)) (write : Bool) (pkru a x y : ℕ)
    → stop_by told write pkru a ≡ None → AgreesAt told other x y → y ≡ x
byte_by None other write pkru a x y e h = absurd (cc)
byte_by (Some None) other write pkru a x y e h = absurd (cc)
byte_by (Some (Some r)) other write pkru a x y e h = h.1

byte_same : (s o : Seen) (write : Bool) (pkru a x y : ℕ) → stop_at s write pkru a ≡ None
    → AgreesAt (s (a / 4096)) (o (a / 4096)) x y → y ≡ x
byte_same s o write pkru a x y e h = elim (cases_Bool (nat_lt a (2 ^ 47))) [
  | inl u ↦ (let k : stop_by (s (a / 4096)) write pkru a ≡ None = rw u at e in
      byte_by (s (a / 4096)) (o (a / 4096)) write pkru a x y k h)
  | inr u ↦ absurd (let k = rw u at e in cc)
]

word_go : (s : Seen) (b : ByteMap) (o : Seen) (c : ByteMap) (write : Bool) (pkru a n x y : ℕ)
    (first : Option Access)
    → (stop s write pkru a n ≡ None → Agree s b o c (looked_access s write pkru a n)
    → word c a n ≡ word b a n)
    → Agree s b o c (unless_stopped first (looked_access s write pkru a n))
    → or_else first (stop s write pkru a n) ≡ None → (first ≡ None → y ≡ x)
    → y + 256 * word c a n ≡ x + 256 * word b a n
word_go s b o c write pkru a n x y None behind k e h = rw (h refl, behind e k) refl
word_go s b o c write pkru a n x y (Some stopped) behind k e h = absurd (cc)

-- an allowed access reads the same number
word_same : (s : Seen) (b : ByteMap) (o : Seen) (c : ByteMap) (write : Bool) (pkru a n : ℕ)
    → stop s write pkru a n ≡ None → Agree s b o c (looked_access s write pkru a n)
    → word c a n ≡ word b a n
unfolding stop looked_access word
word_same s b o c write pkru a zero e h = refl
word_same s b o c write pkru a (suc n) e h =
    word_go s b o c write pkru (suc a) n (b a) (c a) (stop_at s write pkru a)
    (λ f k. word_same s b o c write pkru (suc a) n f k) h.1 e
    (λ f. byte_same s o write pkru a (b a) (c a) f h.0)

-- ---- instructions

unless_told : (o : Option Access) (e : Effect) → IsTold (unless o e) → IsHeld o
unless_told None e h = tt
unless_told (Some a) e h = h

write_same : (t : Thread) (w : Option Write) (s : Seen) (b : ByteMap) (o : Seen) (c : ByteMap)
    (pkru : ℕ) → IsTold (effect_of_write t w s pkru) → Agree s b o c (looked_write w s pkru)
    → effect_of_write t w o pkru ≡ effect_of_write t w s pkru
write_same t None s b o c pkru told h = refl
write_same t (Some w) s b o c pkru told h =
    rw (stop_same s b o c true pkru w.addr w.count
    (unless_told (stop s true pkru w.addr w.count) (Done t (Some w)) told) h) refl

-- a load, by why it stops
ask_same : (s : Seen) (b : ByteMap) (o : Seen) (c : ByteMap) (pkru rip : ℕ) (k : ℕ → Plan)
    (x y : ℕ) (stopped : Option Access) → (stopped ≡ None → y ≡ x)
    → (IsTold (effect (k x) s b pkru rip) → Agree s b o c (looked_addresses (k x) s b pkru)
    → effect (k x) o c pkru rip ≡ effect (k x) s b pkru rip)
    → IsTold (unless stopped (effect (k x) s b pkru rip))
    → Agree s b o c (unless_stopped stopped (looked_addresses (k x) s b pkru))
    → unless stopped (effect (k y) o c pkru rip) ≡ unless stopped (effect (k x) s b pkru rip)
ask_same s b o c pkru rip k x y None e behind t h = rw (e refl) (behind t h)
ask_same s b o c pkru rip k x y (Some a) e behind t h = refl

effect_same : (p : Plan) (s : Seen) (b : ByteMap) (o : Seen) (c : ByteMap) (pkru rip : ℕ)
    → IsTold (effect p s b pkru rip) → Agree s b o c (looked_addresses p s b pkru)
    → effect p o c pkru rip ≡ effect p s b pkru rip
unfolding effect looked_addresses
effect_same (Ask a n k) s b o c pkru rip t h =
    let front = agree_left s b o c (looked_access s false pkru a n) _ h in
    let behind = agree_right s b o c (looked_access s false pkru a n) _ h in
    rw (stop_same s b o c false pkru a n
    (unless_told (stop s false pkru a n) (effect (k (word b a n)) s b pkru rip) t) front)
    (ask_same s b o c pkru rip k (word b a n) (word c a n) (stop s false pkru a n)
    (λ e. word_same s b o c false pkru a n e front)
    (λ u m. effect_same (k (word b a n)) s b o c pkru rip u m) t behind)
effect_same (Give t w) s b o c pkru rip told h = write_same t w s b o c pkru told h
effect_same Refuse s b o c pkru rip t h = refl
effect_same Call s b o c pkru rip t h = refl

pub boundary : (p : Plan) (s : Seen) (b : ByteMap) (o : Seen) (c : ByteMap) (pkru rip : ℕ)
    → NoneMissing (effect p s b pkru rip) → Agree s b o c (looked_addresses p s b pkru)
    → effect p o c pkru rip ≡ effect p s b pkru rip
boundary p s b o c pkru rip t h =
    effect_same p s b o c pkru rip (is_told (effect p s b pkru rip) t) h

pub noted_boundary : (p : Plan) (s : Seen) (b : ByteMap) (o : Seen) (c : ByteMap) (pkru rip : ℕ)
    (old notes : NoteMap) → NoneMissing (effect p s b pkru rip)
    → Notes s old notes (looked_addresses p s b pkru) → AgreesOn notes s b o c
    → effect p o c pkru rip ≡ effect p s b pkru rip
noted_boundary p s b o c pkru rip old notes t n h =
    boundary p s b o c pkru rip t (agree_noted notes s b o c
    (looked_addresses p s b pkru) h n.noted)

-- ---- fetches

cons_rest : (x : ℕ) (r : Result (List ℕ) ℕ) (code : List ℕ) → cons_ok x r ≡ Ok code
    → (xs : List ℕ) × (r ≡ Ok xs)
cons_rest x (Ok xs) code e = (xs, refl)
cons_rest x (Err q) code e = absurd (cc)

-- a byte and those after it, by what is said of its page
fetch_go : (told other : Option (Option Rights)) (q x y : ℕ) (r z : Result (List ℕ) ℕ)
    (code : List ℕ) (s : Seen) (b : ByteMap) (o : Seen) (c : ByteMap) (behind : List ℕ)
    → code_told told q x r ≡ Ok code
    → ((xs : List ℕ) → r ≡ Ok xs → Agree s b o c behind → z ≡ Ok xs)
    → AgreesAt told other x y → Agree s b o c (while_published told behind)
    → code_told other q y z ≡ Ok code
fetch_go None other q x y r z code s b o c behind e more h k = absurd (cc)
fetch_go (Some None) other q x y r z code s b o c behind e more h k =
    ap (λ told. code_told told q y z) h ∙ e
fetch_go (Some (Some g)) other q x y r z code s b o c behind e more h k = elim (cases_Bool g.exec) [
  | inl t ↦ (let f : cons_ok x r ≡ Ok code = rw t at e in
      let m : Agree s b o c behind = rw t at k in
      let rest = cons_rest x r code f in
      let same : z ≡ r = more rest.0 rest.1 m ∙ sym rest.1 in rw (h.0, t, same, h.1) f)
  | inr t ↦ rw (h.0, t) (rw t at e)
]

pub fetch_boundary : (s : Seen) (b : ByteMap) (o : Seen) (c : ByteMap) (a n : ℕ) (code : List ℕ)
    → fetch_of s b a n ≡ Ok code → Agree s b o c (looked_fetch s a n) → fetch_of o c a n ≡ Ok code
unfolding fetch_of looked_fetch
fetch_boundary s b o c a zero code e h = e
fetch_boundary s b o c a (suc n) code e h =
    fetch_go (s (a / 4096)) (o (a / 4096)) (a / 4096) (b a) (c a) (fetch_of s b (suc a) n)
    (fetch_of o c (suc a) n) code s b o c (looked_fetch s (suc a) n) e
    (λ xs f k. fetch_boundary s b o c (suc a) n xs f k) h.0 h.1

pub noted_fetch_boundary : (s : Seen) (b : ByteMap) (o : Seen) (c : ByteMap) (a n : ℕ)
    (code : List ℕ) (old notes : NoteMap) → fetch_of s b a n ≡ Ok code
    → Notes s old notes (looked_fetch s a n) → AgreesOn notes s b o c → fetch_of o c a n ≡ Ok code
noted_fetch_boundary s b o c a n code old notes e k h =
    fetch_boundary s b o c a n code e (agree_noted notes s b o c (looked_fetch s a n) h k.noted)

pub whole_fetch_boundary : WholeFetchLaw → (s : Seen) (b : ByteMap) (rights : RightsMap)
    (c : ByteMap) (a n : ℕ) (code : List ℕ) → fetch_of s b a n ≡ Ok code
    → Agree s b (whole rights) c (looked_fetch s a n)
    → code_bytes (published_code rights c) a n ≡ code
whole_fetch_boundary law s b rights c a n code e h =
    let found = fetch_boundary s b (whole rights) c a n code e h in
    let all = law rights c a n in cc
