-- What the addresses of a rewritten program stand for in the old one, and which of its bytes a
-- region may not find as they were: what sameness of the two programs is said with. No contract
-- cites it yet. Own.
use Rattle.std.specs.Prelude.{ℕ, ◌+◌, ◌-◌, ◌==◌, ◌||◌, max, nat_lt, Bool, true, false, List}
use Rattle.std.specs.Prelude.{[], ◌∷◌, ◌++◌, length, map, min, Option, is_some}
use Rattle.std.specs.Prelude.{if◌then◌else◌}
use Rattle.std.specs.List.{flat_map}
use Rattle.std.specs.Option.{option_and_then, option_map_or}
use Rattle.erim_defs.specs.declared.elf.TheConstants.{E_PHNUM, E_PHOFF}
use Rattle.erim_defs.specs.declared.segment.Segment.{Segment}
use Rattle.erim_defs.specs.declared.trust.Span.{Span}
use Rattle.erim_defs.specs.Inspection.Image.{segments}
use Rattle.erim_defs.specs.Output.LayImage.{multiple_from}
use Rattle.erim_defs.specs.Rewriting.Sites.{first_of, region_start, region_end}
use Rattle.erim_defs.specs.Rewriting.Copies.{Kind, Same, Filler, Begins, Completes, Back, Part}
use Rattle.erim_defs.specs.Rewriting.Layout.{Copy, segment_bytes}
use Rattle.erim_defs.specs.Rewriting.NewFile.{new_base}
use Rattle.erim_defs.specs.Rewriting.Rewriting.{Rewritten}

-- ---- addresses

-- the copy of the region that starts at an address: a thread there jumps into it
abbrev pub starts_at : List Copy → ℕ → Option Copy
starts_at copies a = first_of (λ k. region_start k.region == a) copies

-- the part of a copy at an address
abbrev pub part_at : ℕ → Copy → Option Part
part_at a k = first_of (λ p. p.at == a) k.parts

-- The old address for a new one; inside is the copy that the thread went into by its jump, and
-- hasn't left since.
abbrev pub home : Option Copy → ℕ → ℕ
home inside a = option_map_or (λ p. p.home) (option_and_then (part_at a) inside) a

-- at such a part the old program makes no step
abbrev pub is_silent : Kind → Bool
is_silent Same = false
is_silent Filler = true
is_silent Begins = true
is_silent (Completes register) = false
is_silent Back = true

-- nor at the jump into a copy
abbrev pub is_dropped : List Copy → Option Copy → ℕ → Bool
is_dropped copies inside a = is_some (starts_at copies a)
    || option_map_or (λ p. is_silent p.kind) (option_and_then (part_at a) inside) false

-- ---- bytes

-- the bytes of the regions, whether their values differ or not
abbrev pub region_spans : List Copy → List Span
region_spans copies =
    map (λ k. record {
      start = region_start k.region;
      length = region_end k.region - region_start
          k.region;
    }) copies

-- where a segment loads the bytes of the file from a place up to another
abbrev pub loaded_span : ℕ → ℕ → Segment → List Span
loaded_span low high s =
    let first = max s.offset low in
    let end = min high (s.offset + s.filesz) in
    if nat_lt first end
    then record { start = s.vaddr + (first - s.offset); length = end - first } ∷ [] else []

-- where segments load e_phoff and e_phnum
abbrev pub header_spans : List ℕ → List Span
header_spans bytes =
    flat_map (λ s. loaded_span E_PHOFF (E_PHOFF + 8) s ++ loaded_span E_PHNUM (E_PHNUM + 2) s)
    (segments bytes)

-- all bytes of the old image that may differ in the new one
abbrev pub changed_spans : List ℕ → List Copy → List Span
changed_spans bytes [] = []
changed_spans bytes copies = region_spans copies ++ header_spans bytes

-- the pages that the old image hasn't
abbrev pub new_span : List ℕ → Rewritten → Span
new_span bytes r = record {
  start = new_base bytes;
  length = multiple_from 4096 (length (segment_bytes r.copies));
}
