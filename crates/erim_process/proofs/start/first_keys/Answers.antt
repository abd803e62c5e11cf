use mir.Val.{bool_byte}
use Rattle.std.proofs.Common.{◌≡◌, ◌∙◌, ap, cond, refl, ℕ, Bool, true, false}
use Rattle.erim_defs.specs.Inspection.Image.{image_trust}
use Rattle.erim_defs.specs.Inspection.Trust.{TrustValue, is_domain}
use Rattle.erim_process.proofs.StartLemmas.{taken_keys}
use Rattle.erim_process.proofs.start.first_keys.Goals as goal

-- a flag of the trust, as a number, is that of the image
one_if : (b : Bool) → bool_byte b ≡ cond b 1 0
one_if true = refl
one_if false = refl

bit_of : (trust image : TrustValue) (key bit : ℕ) (flag : Bool) → image ≡ trust
    → flag ≡ is_domain trust key → bit ≡ bool_byte flag → bit ≡ cond (is_domain image key) 1 0
bit_of trust image key bit flag same is e =
    rw same (e ∙ one_if flag ∙ ap (λ b. cond b 1 0) is)

pub returns : goal.returns
returns c = λ image same key.
    let trust = c.args.trust.now in
    taken_keys image c.from.result c.from-2.result c.from-3.result c.from-4.result
    (bit_of trust (image_trust image) 1 _ _ same c.is_domain.ensures c.from.ensures)
    (bit_of trust (image_trust image) 2 _ _ same c.is_domain-2.ensures c.from-2.ensures)
    (bit_of trust (image_trust image) 3 _ _ same c.is_domain-3.ensures c.from-3.ensures)
    (bit_of trust (image_trust image) 4 _ _ same c.is_domain-4.ensures c.from-4.ensures) key
