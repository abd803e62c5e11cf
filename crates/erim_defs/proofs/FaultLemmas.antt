-- The faults that an accepted image doesn't have.
use Rattle.std.proofs.Common.{◌≡◌, ℕ, not, Bool, true, false, cond, List, [], length, Option, Some}
use Rattle.std.proofs.Common.{None, refl}
use Rattle.erim_defs.specs.Inspection.Code.{or_else}
use Rattle.erim_defs.specs.Inspection.Image.{IsAccepted, data_fault, entry_fault, first_fault}
use Rattle.erim_defs.specs.Inspection.Image.{has_domains, head_fault, header_fault, headers}
use Rattle.erim_defs.specs.Inspection.Image.{later_fault}
use Rattle.erim_defs.specs.Inspection.Image.{range_fault, record_fault, records, segment_fault}
use Rattle.erim_defs.specs.Inspection.Image.{segments, shared_fault, text_fault, trust_fault}

-- neither of two
pub or_none : {X : Type 0} (x y : Option X) → or_else x y ≡ None → (x ≡ None) × (y ≡ None)
or_none None y h = (refl, h)
or_none (Some z) y h = absurd cc

-- a test that gives a fault where it fails is true
pub cond_fault : {X : Type 0} (b : Bool) (x : X) (y : Option X) → cond b y (Some x) ≡ None
    → (b ≡ true) × (y ≡ None)
cond_fault true x y h = (refl, h)
cond_fault false x y h = absurd cc

-- what a denial denies
pub not_true : (b : Bool) → not b ≡ true → b ≡ false
not_true true h = absurd cc
not_true false h = refl

-- the rows of faults of segments and records find none
pub record HasNoFault (image : List ℕ) : Type 0 where
  pub ranged : range_fault (length image) 0 [] (headers image) ≡ None
  pub shared : shared_fault 0 [] (headers image) ≡ None
  pub recorded : record_fault (has_domains image) 0 [] (records image) ≡ None
  pub texts : text_fault 0 (segments image) [] (records image) ≡ None
  pub placed : data_fault 0 (segments image) [] (records image) ≡ None
  pub entered : entry_fault 0 (records image) [] (records image) ≡ None

-- an accepted image has no later fault
pub later_none : (image : List ℕ) → IsAccepted image → later_fault image ≡ None
unfolding first_fault
later_none image h = (or_none (head_fault image) _ h).1

-- in particular none of these
sound_of : (image : List ℕ) → later_fault image ≡ None → HasNoFault image
unfolding later_fault segment_fault trust_fault
sound_of image h =
    let behind = (or_none (header_fault image) _ h).1 in
    let p = or_none (segment_fault image) _ behind in
    let headed = or_none _ _ (or_none _ _ p.0).1 in
    let trust = (or_none (trust_fault image) _ p.1).0 in
    let noted = (or_none _ _ (or_none _ _ trust).1).1 in
    let own = or_none (record_fault (has_domains image) 0 [] (records image)) _ noted in
    let text = or_none (text_fault 0 (segments image) [] (records image)) _ own.1 in
    let lain = or_none (data_fault 0 (segments image) [] (records image)) _ text.1 in
    record {
      ranged = headed.0;
      shared = headed.1;
      recorded = own.0;
      texts = text.0;
      placed = lain.0;
      entered = lain.1;
    }

pub sound : (image : List ℕ) → IsAccepted image → HasNoFault image
sound image h = sound_of image (later_none image h)
