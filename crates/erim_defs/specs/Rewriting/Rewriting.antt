-- The rewritten image, or why there is none. Own, after ERIM (USENIX Security 2019), section 4.2.
use Rattle.std.specs.Prelude.{ℕ, ◌==◌, ◌||◌, nat_lt, Bool, List, [], ◌∷◌, length, Option, Some}
use Rattle.std.specs.Prelude.{None, is_some, Result, Ok, Err, if◌then◌else◌}
use Rattle.erim_defs.specs.declared.fault.ImageFault.{ImageFault}
use Rattle.erim_defs.specs.declared.found.Found.{Found}
use Rattle.erim_defs.specs.declared.limits.TheConstants.{MOST_COPIED, MOST_HEADERS}
use Rattle.erim_defs.specs.declared.rewriting.Why.{Why}
use Rattle.erim_defs.specs.Inspection.Image.{first_fault, header_count, image_code, image_trust}
use Rattle.erim_defs.specs.Inspection.Unsafe.{image_list, first_unsafe}
use Rattle.erim_defs.specs.Rewriting.Sites.{Region, Obstacle, regions_from}
use Rattle.erim_defs.specs.Rewriting.Layout.{Copy, Ground, segment_bytes, copies_from}
use Rattle.erim_defs.specs.Rewriting.NewFile.{program_of, new_base, lies_elsewhere}
use Rattle.erim_defs.specs.Rewriting.NewFile.{header_in_note, new_file}

-- the new bytes, the regions, and the copy of each
pub record Rewritten : Type 0 where
  pub bytes : List ℕ
  pub regions : List Region
  pub copies : List Copy

-- not accepted; an element that can't be rewritten; a region without room, by its first element
pub data Fault : Type 0 where
  NotImage : ImageFault → Fault
  Cannot : (at : ℕ) → Why → Fault
  NoRoom : (at : ℕ) → Fault

-- ---- the sites of an accepted image

-- the regions of its unsafe sequences, or the first that can't be rewritten
unfoldable pub image_regions : List ℕ → Result (List Region) Obstacle
image_regions bytes = regions_from (program_of bytes) None (image_list bytes)

-- ---- room

-- the address of a region's first element
abbrev pub first_at : List Found → ℕ
first_at [] = 0
first_at (e ∷ es) = e.at

abbrev pub first_of_all : List Region → ℕ
first_of_all [] = 0
first_of_all (r ∷ rs) = first_at r.elements

abbrev pub image_first_unsafe : List ℕ → Option Found
image_first_unsafe bytes = first_unsafe (image_trust bytes) (image_code bytes)

-- the new file isn't accepted, or something in it is unsafe
abbrev pub is_bad : List ℕ → Bool
is_bad new = is_some (first_fault new) || is_some (image_first_unsafe new)

-- the causes of the whole: the copies are too many bytes; e_phoff or e_phnum lies in a note; there
-- is no place for a program header more; the new file is bad
unfoldable pub is_hopeless : List ℕ → List Copy → Bool
is_hopeless bytes copies =
    nat_lt MOST_COPIED (length (segment_bytes copies))
    || (header_in_note bytes || (header_count bytes == MOST_HEADERS
    || is_bad (new_file bytes (new_base bytes) copies)))

-- ---- the answer

abbrev pub rewriting_of : List ℕ → List Region → Result (List Copy) Region → Result Rewritten Fault
rewriting_of bytes regions (Err r) = Err (NoRoom (first_at r.elements))
rewriting_of bytes regions (Ok copies) =
    if is_hopeless bytes copies then Err (NoRoom (first_of_all regions))
    else Ok (record {
      bytes = new_file bytes (new_base bytes) copies;
      regions = regions;
      copies = copies;
    })

-- what the copies are laid over
abbrev pub under : List ℕ → Ground
under bytes = record { code = image_code bytes; base = new_base bytes }

abbrev pub laid_copies : List ℕ → List Region → Result (List Copy) Region
laid_copies bytes regions = copies_from (lies_elsewhere bytes) (under bytes) [] regions

-- without regions the bytes stay as they are
abbrev pub on_regions : List ℕ → Result (List Region) Obstacle → Result Rewritten Fault
on_regions bytes (Err refused) = Err (Cannot refused.at refused.why)
on_regions bytes (Ok []) = Ok (record { bytes = bytes; regions = []; copies = [] })
on_regions bytes (Ok (r ∷ rs)) = rewriting_of bytes (r ∷ rs) (laid_copies bytes (r ∷ rs))

abbrev pub on_fault : List ℕ → Option ImageFault → Result Rewritten Fault
on_fault bytes (Some fault) = Err (NotImage fault)
on_fault bytes None = on_regions bytes (image_regions bytes)

unfoldable pub rewriting : List ℕ → Result Rewritten Fault
rewriting bytes = on_fault bytes (first_fault bytes)
