-- What rewriting answers of bytes that are read, and of those that aren't.
use Rattle.std.proofs.Common.{◌≡◌, ◌∙◌, ℕ, List, [], Option, Some, None, Ok, Err, Result}
use Rattle.std.proofs.Common.{IfSome, IfOk, MatchResult, refl, sym, ap, subst}
use Rattle.erim_defs.specs.declared.fault.ImageFault.{ImageFault}
use Rattle.erim_defs.specs.declared.fault.ImageFault.TheVariants.{Memory}
use Rattle.erim_defs.specs.Inspection.Image.{IsAccepted, first_fault}
use Rattle.erim_defs.specs.Inspection.Unsafe.{image_list}
use Rattle.erim_defs.specs.Rewriting.Rewriting as definitions
use Rattle.overlap_rewrite.specs.Answers.{RewriteFaultIs, RewrittenIs, image_fault}
use Rattle.overlap_rewrite.specs.declared.rewriting.Rewritten.{Rewritten}
use Rattle.overlap_rewrite.specs.declared.rewriting.RewriteFault.{RewriteFault}
use Rattle.erim_defs.specs.Rewriting.Rewriting.{NotImage, image_regions, on_fault, on_regions}
use Rattle.erim_defs.specs.Rewriting.Rewriting.{rewriting}

not_read : (answer : Result definitions.Rewritten definitions.Fault) (fault : ImageFault)
    → answer ≡ Err (NotImage fault) → RewriteFaultIs answer (image_fault fault)
not_read answer Memory h = tt
not_read answer fault h = h

-- the fault is the first, or memory ran out
pub refused : {X : Type 0} (bytes : List ℕ) (fault : ImageFault) (read : Result X ImageFault)
    → read ≡ Err fault → IfSome (first_fault bytes) (λ f. read ≡ Err f)
    → (IsAccepted bytes → fault ≡ Memory)
    → RewriteFaultIs (rewriting bytes) (image_fault fault)
unfolding rewriting
refused bytes fault read is faulty accepted = by (first_fault bytes) refl faulty
  where
    by : (o : Option ImageFault) → first_fault bytes ≡ o → IfSome o (λ f. read ≡ Err f)
        → RewriteFaultIs (on_fault bytes (first_fault bytes)) (image_fault fault)
    by None e first =
        subst (λ f. RewriteFaultIs (on_fault bytes (first_fault bytes)) (image_fault f))
        (sym (accepted e)) tt
    by (Some f) e first =
        let both : Err fault ≡ Err f = sym is ∙ first in
        let same : fault ≡ f = cc in
        not_read (on_fault bytes (first_fault bytes)) fault (rw (e, same) refl)

-- of an accepted image its regions say
pub accepted_regions : (bytes : List ℕ) → IsAccepted bytes
    → rewriting bytes ≡ on_regions bytes (image_regions bytes)
unfolding rewriting
accepted_regions bytes h = ap (on_fault bytes) h

-- so what is answered is clean
pub clean_answer : (bytes : List ℕ) (result : Result Rewritten RewriteFault)
    → ((new : definitions.Rewritten) → rewriting bytes ≡ Ok new
    → IsAccepted new.bytes × (image_list new.bytes ≡ []))
    → MatchResult result (RewrittenIs (rewriting bytes)) (RewriteFaultIs (rewriting bytes))
    → IfOk result (λ new. IsAccepted new.bytes.items × (image_list new.bytes.items ≡ []))
clean_answer bytes (Ok new) clean is = rw is.bytes (clean is.is is.answer_is)
clean_answer bytes (Err fault) clean is = tt
