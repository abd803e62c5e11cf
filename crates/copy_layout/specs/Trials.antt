-- A candidate among the copies before it and the regions that have none yet, by their bytes. Own.
use Rattle.std.specs.Prelude.{ℕ, ◌+◌, ◌-◌, ◌||◌, not, Bool, List, [], ◌∷◌, ◌++◌, length, map}
use Rattle.std.specs.Prelude.{replicate, Option, Some}
use Rattle.erim_defs.specs.Inspection.Code.{Code}
use Rattle.erim_defs.specs.Machine.Least.{least_below}
use Rattle.erim_defs.specs.Output.LayImage.{multiple_from}
use Rattle.erim_defs.specs.Rewriting.Sites.{Region}
use Rattle.erim_defs.specs.Rewriting.Layout.{Copy, Ground, Patch, candidate, is_clean, is_spelled}
use Rattle.erim_defs.specs.Rewriting.Layout.{open_patch, over, over_all, padded_copy, piece}
use Rattle.erim_defs.specs.Rewriting.Layout.{region_patch}
use Rattle.erim_defs.specs.Rewriting.Layout.{segment_bytes}
use Rattle.image_code.specs.declared.stretch.Stretch.{Stretch}
use Rattle.image_code.specs.Stretches.{code_in}
use Rattle.copy_layout.specs.Patches.{nearby}

-- what a candidate is tried among: the old code, the bytes of the copies before it, and what lies
-- over the old code at their regions and at those after
pub record Trial : Type 0 where
  pub code : List Stretch
  pub base : ℕ
  pub segment : List ℕ
  pub before : List Patch
  pub after : List Patch

-- the old code, and where the copies begin
abbrev pub under_of : List Stretch → ℕ → Ground
under_of code base = record { code = code_in code; base = base }

abbrev pub trial_of : List Stretch → ℕ → List Copy → List Region → Trial
trial_of code base copies later = record {
  code = code;
  base = base;
  segment = segment_bytes copies;
  before = map region_patch copies;
  after = map open_patch later;
}

-- where the candidate begins
abbrev pub trial_first : Trial → ℕ
trial_first t = t.base + length t.segment

-- zeros up to the page's end, and one page more while copies are to come
abbrev pub trial_zeros : ℕ → List Patch → ℕ
trial_zeros n [] = multiple_from 4096 n - n
trial_zeros n (p ∷ ps) = multiple_from 4096 n - n + 4096

-- the bytes of the segment with a candidate
abbrev pub tried_bytes : Trial → Copy → List ℕ
tried_bytes t k = (t.segment ++ piece k)
    ++ replicate (trial_zeros (length (t.segment ++ piece k)) t.after) 0

abbrev pub tried_segment : Trial → Copy → Patch
tried_segment t k = record { at = t.base; bytes = map Some (tried_bytes t k) }

abbrev pub tried_patches : Trial → Copy → List Patch
tried_patches t k = t.before ++ region_patch k ∷ t.after

-- the code with a candidate
abbrev pub tried_code : Trial → Copy → Code
tried_code t k = over (tried_segment t k) (over_all (tried_patches t k) (code_in t.code))

-- a candidate is clean, or it can't be spelled
abbrev pub ends_trial : Trial → Copy → Bool
ends_trial t k = not (is_spelled k) || is_clean (tried_code t k) k

-- the copy of a region
abbrev pub placed_in : Trial → Region → Option Copy
placed_in t r = padded_copy r (trial_first t)
    (least_below 16 (λ pad. ends_trial t (candidate r (trial_first t) pad)))

-- ---- the code near some addresses

-- a candidate and the patches that are looked at
pub record Sight : Type 0 where
  pub trial : Trial
  pub copy : Copy
  pub near : List Patch

abbrev pub sight_code : Sight → Code
sight_code s = over (tried_segment s.trial s.copy) (over_all s.near (code_in s.trial.code))

abbrev pub near_patches : Trial → Copy → ℕ → ℕ → List Patch
near_patches t k low high = nearby low high (tried_patches t k)
