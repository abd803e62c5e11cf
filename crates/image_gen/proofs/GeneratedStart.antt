-- What a generated image needs to start: its trusted text has nothing unsafe by itself, it needs 20
-- frames, and it is made of bytes.
use Rattle.erim_defs.specs.Inspection.Trust.{pkru_of}
use Rattle.std.proofs.Common.{◌≡◌, ℕ, suc, ◌+◌, ◌-◌, ◌/◌, ◌<◌, ◌≤◌, [], Some, None, Bool, true}
use Rattle.std.proofs.Common.{false, refl, ap, arith, leb, ltb, lit≤, inl, inr}
use Rattle.std.proofs.Math.Path.{fun_ext}
use Rattle.std.proofs.lemmas.Bool.{and_parts, cases_Bool, cases_lt, le-leb, leb-true, lt-leb}
use Rattle.std.proofs.lemmas.Bool.{ltb-true, or_cases}
use Rattle.std.specs.Prelude.{◌&&◌, ◌||◌, if◌then◌else◌, nat_lt, nat_le, slice_index}
use Rattle.erim_defs.specs.Encoding.Parts.{AreBytes}
use Rattle.erim_defs.specs.Inspection.Check.{check_of}
use Rattle.erim_defs.specs.Inspection.Code.{Code, has}
use Rattle.erim_defs.specs.Inspection.Gate.{gate_in, gate_out}
use Rattle.erim_defs.specs.Inspection.Image.{image_code, image_trust, page_total, trusted_code}
use Rattle.erim_defs.specs.Inspection.Occurrence.{are_present, occurrence_at}
use Rattle.erim_defs.specs.Inspection.Safe.{fits, unsafe_at}
use Rattle.erim_defs.specs.Inspection.Trust.{in_text_of}
use Rattle.erim_defs.specs.Inspection.Unsafe.{first_unsafe, top, top_is}
use Rattle.erim_defs.specs.Machine.Isolation.{IsSafeCode, IsStartable}
use Rattle.erim_defs.specs.Machine.Start.{frames_needed}
use Rattle.erim_defs.specs.Output.GeneratedImage.{generated_code, generated_image, generated_marks}
use Rattle.erim_defs.specs.Output.GeneratedImage.{generated_parts}
use Rattle.erim_defs.specs.Output.GeneratedImage.{generated_text}
use Rattle.erim_defs.proofs.FirstUnsafeLemmas.{first_from, first_unsafe_in}
use Rattle.image_gen.proofs.LaidLemmas.{laid_bytes}
use Rattle.image_gen.proofs.GeneratedLemmas.{generated_accepted, generated_segments_are}
use Rattle.image_gen.proofs.GeneratedLemmas.{generated_trust, generated_trust_is}
use Rattle.image_gen.proofs.GeneratedLemmas.{text_there}
use Rattle.erim_defs.proofs.UnsafeLemmas.{first_below_none, unsafe_absent}

-- ---- the trusted text

-- the bytes of the file, and zeros up to the page's end
text_byte : ℕ → ℕ
text_byte a = if nat_lt a 0x40206B then slice_index generated_text (a - 0x402000) else 0

text_code : Code
text_code a = if in_text_of generated_trust a then Some (text_byte a) else None

-- a zero begins no sequence, and neither does what isn't there
no_first : (there : Bool) → has (if there then Some 0 else None) 0x0F ≡ false
no_first true = refl
no_first false = refl

first_before : (a : ℕ) → a < 0x402000 → has (text_code a) 0x0F ≡ false
unfolding text_code
first_before a low = rw (lt-leb 0x402000 a low) refl

first_past : (a : ℕ) → 0x40206B ≤ a → has (text_code a) 0x0F ≡ false
unfolding text_code text_byte
first_past a high =
    let above : leb 0x402000 a ≡ true = le-leb 0x402000 a (omega (arith, high)) in
    let past : leb (suc a) 0x40206B ≡ false = lt-leb (suc a) 0x40206B (omega (arith, high)) in
    rw (above, past) (no_first (nat_lt a 0x403000 || false))

-- of each WRPKRU an entry or the check follows, and nothing else begins with 0F 01 EF or 0F AE
first_in_text : first_unsafe generated_trust text_code ≡ None
unfolding pkru_of text_code text_byte generated_text gate_in gate_out check_of first_from unsafe_at
    occurrence_at
    fits are_present
first_in_text =
    first_unsafe_in generated_trust text_code 0x402000 107 (lit≤ tt) first_before
    (λ a high. first_past a high)

none_past : (a : ℕ) → 0x40206B ≤ a → occurrence_at text_code a ≡ None
unfolding occurrence_at
none_past a high = rw (first_past a high) refl

nothing_unsafe : IsSafeCode generated_trust text_code
unfolding first_unsafe
nothing_unsafe a = elim (cases_lt a top) [
  | inl low ↦ first_below_none top (unsafe_at generated_trust text_code) a first_in_text low
  | inr high ↦ unsafe_absent generated_trust text_code a
      (none_past a (omega (arith, top_is, high)))
]

-- ---- the code on trusted text

-- the page of trusted text
in_page : (a : ℕ) → in_text_of generated_trust a ≡ true → (0x402000 ≤ a) × (a < 0x403000)
in_page a inside = elim (or_cases (leb 0x402000 a && ltb a 0x403000) false inside) [
  | inl there ↦
      (let p = and_parts (leb 0x402000 a) (ltb a 0x403000) there in
      (leb-true 0x402000 a p.0, ltb-true a 0x403000 p.1))
  | inr never ↦ absurd cc
]

loaded_there : (threads rounds a : ℕ) → 0x402000 ≤ a
    → (if nat_le 0x402000 a && nat_lt a 0x40206B
    then slice_index (generated_image threads rounds) (8192 + (a - 0x402000)) else 0) ≡ text_byte a
unfolding text_byte
loaded_there threads rounds a low =
    let above : leb 0x402000 a ≡ true = le-leb 0x402000 a low in
    elim (cases_Bool (ltb a 0x40206B)) [
      | inl below ↦
          (let k : a - 0x402000 < 107 = omega (arith, ltb-true a 0x40206B below, low) in
          rw (above, below) (text_there threads rounds (a - 0x402000) k))
      | inr past ↦ rw (above, past) refl
    ]

code_there : (threads rounds a : ℕ) → in_text_of generated_trust a ≡ true
    → image_code (generated_image threads rounds) a ≡ Some (text_byte a)
unfolding image_code
code_there threads rounds a inside =
    let bounds = in_page a inside in
    let page : a / 4096 ≡ 0x402 = omega (arith, bounds.0, bounds.1) in
    rw (generated_segments_are threads rounds, page) (ap Some
    (loaded_there threads rounds a bounds.0))

code_at : (threads rounds a : ℕ) → trusted_code (generated_image threads rounds) a ≡ text_code a
unfolding trusted_code text_code
code_at threads rounds a =
    rw (generated_trust_is threads rounds) (by (in_text_of generated_trust a) refl)
  where
    by : (b : Bool) → in_text_of generated_trust a ≡ b
        → (if b then image_code (generated_image threads rounds) a else None)
        ≡ (if b then Some (text_byte a) else None)
    by true inside = code_there threads rounds a inside
    by false outside = refl

code_is : (threads rounds : ℕ) → trusted_code (generated_image threads rounds) ≡ text_code
code_is threads rounds = fun_ext (code_at threads rounds)

generated_safe : (threads rounds : ℕ) → let image = generated_image threads rounds in
    IsSafeCode (image_trust image) (trusted_code image)
generated_safe threads rounds =
    rw (generated_trust_is threads rounds, code_is threads rounds) nothing_unsafe

-- ---- frames and bytes

-- a page of each segment, and the 16 of the stack
generated_frames : (threads rounds : ℕ) → frames_needed (generated_image threads rounds) ≡ 20
unfolding page_total
generated_frames threads rounds = rw (generated_segments_are threads rounds) refl

code_bytes : (threads rounds : ℕ) → AreBytes (generated_code threads rounds)
unfolding generated_code
code_bytes threads rounds = omega arith

text_bytes : AreBytes generated_text
unfolding generated_text gate_in gate_out check_of
text_bytes = omega arith

generated_bytes : (threads rounds : ℕ) → AreBytes (generated_image threads rounds)
unfolding generated_image
generated_bytes threads rounds =
    laid_bytes (generated_parts threads rounds) generated_marks [] 0x401000
    (code_bytes threads rounds, (text_bytes, (tt, (tt, tt))))

-- ---- all of it

pub generated_startable : (threads rounds budget frames : ℕ) → 20 ≤ frames
    → IsStartable (record {
      image = generated_image threads rounds;
      budget = budget;
      frames = frames;
    })
generated_startable threads rounds budget frames room = record {
  accepted = generated_accepted threads rounds;
  bytes = generated_bytes threads rounds;
  safe = generated_safe threads rounds;
  room = rw (generated_frames threads rounds) room;
}
