-- The reply of a rewritten image: how many sites it has, and of which answer it is.
use Rattle.std.proofs.Common.{◌≡◌, ◌≢◌, ◌∙◌, ℕ, Bool, true, false, List, [], ◌∷◌, ◌++◌, length}
use Rattle.std.proofs.Common.{Option, Some, None, Result, Ok, Err, refl, sym, ap, subst, suc}
use Rattle.std.specs.Prelude.{⊤, IfOk}
use Rattle.erim_defs.specs.declared.fault.ImageFault.{ImageFault}
use Rattle.erim_defs.specs.declared.found.Found.{Found}
use Rattle.erim_defs.specs.declared.memory.NoMemory.{NoMemory}
use Rattle.erim_defs.specs.declared.rewriting.Why.{Why}
use Rattle.erim_defs.specs.Inspection.Image.{first_fault}
use Rattle.erim_defs.specs.Inspection.Unsafe.{image_list}
use Rattle.erim_defs.specs.Output.RewriteTexts.{rewrite_text}
use Rattle.erim_defs.specs.Rewriting.Layout.{Copy}
use Rattle.erim_defs.specs.Rewriting.NewFile.{program_of}
use Rattle.erim_defs.specs.Rewriting.Rewriting.{Rewritten, Fault, image_regions, is_hopeless}
use Rattle.erim_defs.specs.Rewriting.Rewriting.{rewriting_of}
use Rattle.erim_defs.specs.Rewriting.Rewriting.{laid_copies, on_regions, on_fault, rewriting}
use Rattle.erim_defs.specs.Rewriting.Sites.{Program, Region, Obstacle, region_at, joins}
use Rattle.erim_defs.specs.Rewriting.Sites.{region_for, left_by, with_regions, or_refuse}
use Rattle.erim_defs.specs.Rewriting.Sites.{regions_by}
use Rattle.erim_defs.specs.Rewriting.Sites.{regions_from, why}
use Rattle.rewrite_sites.specs.Shown.{sites_of}
use Rattle.overlap_rewrite.specs.Answers.{RewrittenIs, RewriteFaultIs}
use Rattle.overlap_rewrite.specs.declared.rewriting.Rewritten.{Rewritten as NewImage}
use Rattle.overlap_rewrite.specs.declared.rewriting.RewriteFault.{RewriteFault}
use Rattle.overlap_rewrite.specs.declared.rewriting.RewriteFault.TheVariants as causes
use Rattle.erim_commands.specs.declared.reply.Reply.{Reply as CodeReply}
use Rattle.erim_commands.specs.CallParts.{fault_of, reply_of, IsReplyFor}
use Rattle.erim_commands.specs.Commands.{rewrite_plan}
use Rattle.erim_commands.specs.Replies.{rewrite_status, rewrite_reply, line_reply}

-- ---- each region is for an element at least, so it has one site

abbrev IsFilled : Region → Type 0
IsFilled r = (e : Found) × (es : List Found) × (r.elements ≡ e ∷ es)

abbrev AreFilled : List Region → Type 0
AreFilled [] = ⊤
AreFilled (r ∷ rs) = IsFilled r × AreFilled rs

abbrev IsFilledBefore : Option Region → Type 0
IsFilledBefore None = ⊤
IsFilledBefore (Some r) = IsFilled r

sites_count : (regions : List Region) → AreFilled regions
    → length (sites_of regions) ≡ length regions
sites_count [] filled = refl
sites_count (r ∷ rs) ((e, es, is), filled) =
    rw is (ap (λ n. suc n) (sites_count rs filled))

-- a region to which an element is added
pushed : (es : List Found) (e : Found) → (x : Found) × (xs : List Found) × (es ++ e ∷ [] ≡ x ∷ xs)
pushed [] e = (e, [], refl)
pushed (x ∷ xs) e = (x, xs ++ e ∷ [], refl)

filled_region : (p : Program) (before : Option Region) (e : Found)
    → IsFilled (region_for (region_at p) before e)
filled_region p None e = (e, [], refl)
filled_region p (Some r) e = by (joins r e) refl
  where
    by : (b : Bool) → joins r e ≡ b → IsFilled (region_for (region_at p) (Some r) e)
    by true q = rw q (pushed r.elements e)
    by false q = rw q (e, [], refl)

filled_after : (before : Option Region) (e : Found) (more : List Region) → IsFilledBefore before
    → AreFilled more → AreFilled (left_by before e ++ more)
filled_after None e more filled rest = rest
filled_after (Some r) e more filled rest = by (joins r e) refl
  where
    by : (b : Bool) → joins r e ≡ b → AreFilled (left_by (Some r) e ++ more)
    by true q = rw q rest
    by false q = rw q (filled, rest)

with_filled : (before : List Region) (rest : Result (List Region) Obstacle) (regions : List Region)
    → ((more : List Region) → rest ≡ Ok more → AreFilled (before ++ more))
    → with_regions before rest ≡ Ok regions → AreFilled regions
with_filled before (Ok more) regions filled is =
    let same : before ++ more ≡ regions = cc in subst AreFilled same (filled more refl)
with_filled before (Err r) regions filled is = absurd cc

regions_filled : (p : Program) (before : Option Region) (es : List Found) (regions : List Region)
    → IsFilledBefore before → regions_from p before es ≡ Ok regions → AreFilled regions
unfolding regions_by
regions_filled p None [] regions filled is =
    let same : [] ≡ regions = cc in subst AreFilled same tt
regions_filled p (Some r) [] regions filled is =
    let same : r ∷ [] ≡ regions = cc in subst AreFilled same (filled, tt)
regions_filled p before (e ∷ es) regions filled is =
    by (why p r e) refl (λ more. regions_filled p (Some r) es more (filled_region p before e))
  where
    r : Region
    r = region_for (region_at p) before e

    rest : Result (List Region) Obstacle
    rest = regions_from p (Some r) es

    by : (o : Option Why) → why p r e ≡ o
        → ((more : List Region) → rest ≡ Ok more → AreFilled more) → AreFilled regions
    by (Some w) q next =
        absurd (let bad : Err (record { at = e.at; why = w }) ≡ Ok regions =
        sym (ap (λ o. or_refuse o e (with_regions (left_by before e) rest)) q) ∙ is in cc)
    by None q next =
        with_filled (left_by before e) rest regions
        (λ more ok. filled_after before e more filled (next more ok))
        (sym (ap (λ o. or_refuse o e (with_regions (left_by before e) rest)) q) ∙ is)

-- ---- the regions of an answer are those of the image

module _ (bytes : List ℕ) (r : Rewritten) where
  laid_regions : (region : Region) (regions : List Region) (copies : Result (List Copy) Region)
      → rewriting_of bytes (region ∷ regions) copies ≡ Ok r → r.regions ≡ region ∷ regions
  laid_regions region regions (Err lost) is = absurd cc
  laid_regions region regions (Ok copies) is = by (is_hopeless bytes copies) refl
    where
      by : (b : Bool) → is_hopeless bytes copies ≡ b → r.regions ≡ region ∷ regions
      by true q = absurd (let bad = rw q at is in cc)
      by false q = (let same = rw q at is in cc)

  found_regions : (regions : Result (List Region) Obstacle) → on_regions bytes regions ≡ Ok r
      → regions ≡ Ok r.regions
  found_regions (Err obstacle) is = absurd cc
  found_regions (Ok []) is = cc
  found_regions (Ok (region ∷ regions)) is =
      sym (ap (λ (rs : List Region). Ok rs) (laid_regions region regions (laid_copies bytes
      (region ∷ regions)) is))

  answer_regions : (fault : Option ImageFault) → on_fault bytes fault ≡ Ok r
      → image_regions bytes ≡ Ok r.regions
  answer_regions (Some fault) is = absurd cc
  answer_regions None is = found_regions (image_regions bytes) is

  sites_of_answer : rewriting bytes ≡ Ok r → length (sites_of r.regions) ≡ length r.regions
  unfolding rewriting image_regions
  sites_of_answer is =
      sites_count r.regions (regions_filled (program_of bytes) None (image_list bytes) r.regions tt
      (answer_regions (first_fault bytes) is))

-- ---- the reply

-- an image was rewritten
pub reply_for_rewriting : (bytes : List ℕ) (out : List ℕ) (new : NewImage)
    (m : Result CodeReply NoMemory)
    → RewrittenIs (rewriting bytes) new
    → IfOk m (λ reply. (r : Rewritten) → new.bytes.items ≡ r.bytes
    → length new.sites.list.items ≡ length r.regions → reply_of reply ≡ rewrite_reply out r)
    → IsReplyFor (rewrite_plan out (rewriting bytes)) m
reply_for_rewriting bytes out new (Err e) is replies = tt
reply_for_rewriting bytes out new (Ok m) is replies =
    let count : length new.sites.list.items ≡ length is.is.regions =
    ap (λ xs. length xs) is.sites ∙ sites_of_answer bytes is.is is.answer_is in
    rw is.answer_is (replies is.is is.bytes count)

-- the cause of the code is that of the definition
cause_is : (answer : Result Rewritten Fault) (fault : RewriteFault) → fault ≢ causes.Memory
    → RewriteFaultIs answer fault → answer ≡ Err (fault_of fault)
cause_is answer (causes.Image fault) other is = is
cause_is answer (causes.Cannot at why) other is = is
cause_is answer (causes.NoRoom at) other is = is
cause_is answer causes.Memory other is = absurd (other refl)

-- or it wasn't, which a reply says
pub reply_for_rewrite_fault : (bytes : List ℕ) (out : List ℕ) (fault : RewriteFault)
    (m : Result CodeReply NoMemory) → RewriteFaultIs (rewriting bytes) fault
    → IfOk m (λ reply. (fault ≢ causes.Memory) × (reply_of reply
    ≡ line_reply (rewrite_status (fault_of fault)) (rewrite_text (fault_of fault))))
    → IsReplyFor (rewrite_plan out (rewriting bytes)) m
reply_for_rewrite_fault bytes out fault (Err e) is replies = tt
reply_for_rewrite_fault bytes out fault (Ok m) is replies =
    rw (cause_is (rewriting bytes) fault replies.0 is) replies.1
