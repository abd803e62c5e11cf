-- What is found without running makes a setup startable, and the pages of trusted data have their
-- key at the start.
use Rattle.std.proofs.Common.{◌≡◌, List, ◌<◌, ◌/◌, ◌^◌, ℕ, None, true, ◌∙◌, refl, arith, inl, inr}
use Rattle.std.proofs.lemmas.Bool.{cases_Bool}
use Rattle.erim_defs.specs.Inspection.Image.{IsAccepted, image_trust, trusted_code}
use Rattle.erim_defs.specs.Inspection.Trust.{in_text_of}
use Rattle.erim_defs.specs.Machine.Start.{unpublished_rights, is_keyed, first_state, page_key}
use Rattle.erim_defs.specs.Machine.Start.{trusted_unsafe}
use Rattle.erim_defs.specs.Machine.State.{Setup}
use Rattle.isolation.proofs.AlwaysLemmas.{first_other}
use Rattle.erim_defs.specs.Machine.Isolation.{IsSafeCode}
use Rattle.isolation.specs.Laws.{IsKeyedPage, KeyLaw, PlainLaw, StartLaw}
use Rattle.erim_defs.proofs.PlainLemmas.{plain_check, plain_closed, plain_denied, plain_gate}
use Rattle.erim_defs.proofs.PlainLemmas.{plain_image, plain_is_open, plain_outside}
use Rattle.erim_defs.proofs.AcceptedLemmas.{image_low, keyed_domain, keyed_is, text_is}
use Rattle.isolation.proofs.StandLemmas.{IsLow}
use Rattle.isolation.proofs.MemoryLemmas.{first_none}
use Rattle.erim_defs.proofs.AcceptedLemmas.{text_page}

-- no trusted text lies past user memory
trusted_low : (image : List ℕ) → IsAccepted image → IsLow (trusted_code image)
unfolding trusted_code
trusted_low image h a high = elim (cases_Bool (in_text_of (image_trust image) a)) [
  | inr off ↦ rw off refl
  | inl on ↦
      (let w = text_is image (a / 4096) h (text_page image a h ∙ on) in
      let low : a / 4096 < 2 ^ 35 = image_low image (a / 4096) w.bits h w.asked in
      absurd (omega (arith, high, low)))
]

trusted_safe : (image : List ℕ) → IsAccepted image → trusted_unsafe image ≡ None
    → IsSafeCode (image_trust image) (trusted_code image)
unfolding trusted_unsafe
trusted_safe image h none =
    first_none (image_trust image) (trusted_code image) (trusted_low image h) none

pub start_law : StartLaw
start_law setup accepted bytes none room =
    record {
      accepted = accepted;
      bytes = bytes;
      safe = trusted_safe setup.image accepted none;
      room = room;
    }

key_law : (setup : Setup) (q : ℕ) → IsAccepted setup.image → is_keyed setup.image q ≡ true
    → IsKeyedPage setup q
unfolding first_state
key_law setup q accepted keyed =
    let w = keyed_is setup.image q accepted keyed in
    record {
      held = unpublished_rights w.bits (page_key setup.image q);
      mapped = first_other setup q w.stack
          ∙ rw (w.text, w.asked) refl;
      key = refl;
      domain = keyed_domain setup.image q accepted keyed;
      hidden = refl;
    }

pub keys_law : KeyLaw
keys_law setup q h keyed = key_law setup q h.accepted keyed

-- ---- one domain

pub plain_law : PlainLaw
plain_law image accepted plain =
    let trust = image_trust image in
    let is = plain_image image accepted plain in
    record {
      closed = plain_closed trust is;
      opens_one = λ pkru. plain_is_open trust pkru is;
      outside = λ t. plain_outside trust t is;
      entry = λ next. plain_gate trust next is;
      check = λ next. plain_check trust next is;
      denied = λ pkru key. plain_denied trust pkru key is;
    }
