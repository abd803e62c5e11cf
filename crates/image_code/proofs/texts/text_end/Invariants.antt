use Rattle.std.proofs.Common.{◌≡◌, ◌≤◌, ◌<◌, ℕ, true}
use Rattle.image_code.specs.Texts.{is_text_page}
use Rattle.image_code.proofs.texts.text_end.Given as goal

abbrev pub invariant-loop-page : goal.invariant-loop-page
invariant-loop-page l = (p : ℕ) → l.first ≤ p → p < l.page → is_text_page l.trust p ≡ true
