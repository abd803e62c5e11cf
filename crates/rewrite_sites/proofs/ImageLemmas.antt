-- The regions of an image, from its program and its unsafe sequences.
use Rattle.std.proofs.Common.{◌≡◌, ◌+◌, ◌<◌, ◌++◌, ◌∷◌, [], ℕ, List, None, map, refl, sym}
use Rattle.std.proofs.Common.{get_or, length, take}
use Rattle.std.proofs.lemmas.List.{length-take, map_more}
use Rattle.std.proofs.Common.{◌≤◌, ◌^◌, true, arith}
use Rattle.std.specs.Prelude.{sum_by}
use Rattle.std.specs.List.{All}
use Rattle.std.proofs.lemmas.List.Sums.{get_or-le-sum_by}
use Rattle.erim_defs.specs.Inspection.Image.{IsPlaced, holds_function, page_count}
use Rattle.erim_defs.proofs.FilePartLemmas.{holds_view}
use Rattle.erim_defs.specs.declared.found.Found.{Found}
use Rattle.erim_defs.specs.declared.segment.Segment.{Segment}
use Rattle.erim_defs.specs.declared.trust.Span.{Span}
use Rattle.erim_defs.specs.Inspection.Image.{code_of, image_code, image_functions}
use Rattle.erim_defs.specs.Inspection.Image.{segments}
use Rattle.erim_defs.specs.Machine.Pages.{code_bytes}
use Rattle.erim_defs.specs.Inspection.Unsafe.{image_list}
use Rattle.erim_defs.specs.Rewriting.NewFile.{function_of, program_of}
use Rattle.erim_defs.specs.Rewriting.Rewriting.{image_regions}
use Rattle.erim_defs.specs.Rewriting.Sites.{Function, Program, regions_from}

pub regions_of_image : (image : List ℕ) (p : Program) (elements : List Found)
    → p ≡ program_of image → elements ≡ image_list image
    → regions_from p None elements ≡ image_regions image
unfolding image_regions
regions_of_image image p elements is list = rw (is, list) refl

-- one function more
pub functions_more : (bytes : List ℕ) (fs : List Span) (i : ℕ) (d : Span) (seen : List Function)
    (f : Function) → fs ≡ image_functions bytes → i < length fs
    → seen ≡ map (function_of bytes) (take i (image_functions bytes))
    → f ≡ function_of bytes (get_or fs i d)
    → seen ++ f ∷ [] ≡ map (function_of bytes) (take (i + 1) (image_functions bytes))
functions_more bytes fs i d seen f all lt so_far is =
    rw (so_far, is, ← all) (sym (map_more (function_of bytes) fs i d lt))

-- as it was read
pub read_as : (image bytes part : List ℕ) (ss : List Segment) (s : Span) (f : Function)
    → f ≡ record { start = s.start; bytes = part } → bytes ≡ image → ss ≡ segments image
    → part ≡ code_bytes (code_of bytes ss) s.start s.length → f ≡ function_of image s
unfolding image_code
read_as image bytes part ss s f is same list code = rw (is, code, same, list) refl

-- a function in a segment has no more bytes than an image may have
pub few_bytes : (file : ℕ) (ss : List Segment) (i : ℕ) (d : Segment) (f : Span)
    → All (IsPlaced file) ss → sum_by page_count ss ≤ 4080 → i < length ss
    → holds_function f (get_or ss i d) ≡ true → f.length ≤ 2 ^ 24
few_bytes file ss i d f placed few lt held =
    let v = holds_view (get_or ss i d) f held in
    let p : IsPlaced file (get_or ss i d) = placed i d lt in
    omega (arith, v.low, v.high, p.part, few, get_or-le-sum_by page_count ss i d lt)

pub take_few : (n m : ℕ) (xs : List ℕ) → n ≤ m → length (take n xs) ≤ m
take_few n m xs le = omega (arith, le, length-take n xs)
