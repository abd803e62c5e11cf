-- What loading the pages of segments does to rights and bytes.
use Rattle.std.specs.Prelude.{◌≡◌, ℕ, ◌*◌, ◌/◌, ◌&&◌, nat_lt, nat_le}
use Rattle.std.specs.Prelude.{Bool, true, Option, Some, None, List, if◌then◌else◌}
use Rattle.erim_defs.specs.declared.machine.Rights.{Rights}
use Rattle.erim_defs.specs.declared.segment.Segment.{Segment}
use Rattle.erim_defs.specs.Machine.Pages.{RightsMap, ByteMap, published_rights}
use Rattle.erim_defs.specs.Inspection.Image.{image_trust, segments}
use Rattle.erim_defs.specs.Inspection.Trust.{in_text_of}
use Rattle.erim_defs.specs.Machine.Start.{asked_in, is_stack, page_key, rights_at_start}
use Rattle.erim_defs.specs.Machine.Start.{unpublished_rights}

-- the rights of a page of an image of which these bits are asked
abbrev pub page_rights : List ℕ → ℕ → ℕ → Rights
page_rights image asked q =
    if in_text_of (image_trust image) (4096 * q)
    then published_rights (unpublished_rights asked (page_key image q))
    else unpublished_rights asked (page_key image q)

-- the rights of the pages of segments of an image
abbrev pub segment_rights : List Segment → List ℕ → RightsMap
segment_rights ss image =
    λ q. rights_at_start (in_text_of (image_trust image) (4096 * q)) (page_key image q)
    (asked_in ss q)

-- the rights at the start, those of the stack's pages too
unfoldable pub rights_from : List ℕ → RightsMap
rights_from image = λ q. if is_stack q
    then Some (unpublished_rights 3 0) else segment_rights (segments image) image q

-- the pages from one on, before another
abbrev pub is_between : ℕ → ℕ → ℕ → Bool
is_between first end q = nat_le first q && nat_lt q end

-- the pages of which a test holds are mapped with new rights
abbrev pub rights_over : (ℕ → Bool) → (ℕ → Rights) → RightsMap → RightsMap
rights_over test new old = λ q. if test q then Some (new q) else old q

-- the pages of which a test holds have new bytes
abbrev pub bytes_over : (ℕ → Bool) → ByteMap → ByteMap → ByteMap
bytes_over test new old = λ a. if test (a / 4096) then new a else old a

-- no page of which a test holds is mapped
abbrev pub AllUnmapped : (ℕ → Bool) → RightsMap → Type 0
AllUnmapped test rights = (q : ℕ) → test q ≡ true → rights q ≡ None

-- the page is mapped and may be written
abbrev pub IsWritable : Option Rights → Type 0
IsWritable None = ⊥
IsWritable (Some r) = r.write ≡ true
