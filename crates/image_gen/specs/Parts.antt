-- What the definition of laid images sees of parts and marks.
use Rattle.std.specs.Prelude.{ℕ, List, [], ◌∷◌, ◌++◌, map, length, sum_by}
use Rattle.erim_defs.specs.Output.LayImage as Lay
use Rattle.erim_defs.specs.Output.LayImage.{words, xwords}
use Rattle.image_gen.specs.declared.part.Part.{Part}
use Rattle.image_gen.specs.declared.part.Mark.{Mark}
use Rattle.image_gen.specs.declared.header.NewHeader.{NewHeader}

abbrev pub part_value : Part → Lay.Part
part_value p = record { vaddr = p.vaddr; flags = p.flags; bytes = p.bytes.items; memsz = p.memsz }

abbrev pub mark_value : Mark → Lay.Mark
mark_value m = record { kind = m.kind; start = m.start; length = m.length }

abbrev pub part_values : List Part → List Lay.Part
part_values parts = map part_value parts

abbrev pub mark_values : List Mark → List Lay.Mark
mark_values marks = map mark_value marks

-- how many bytes the parts have together
abbrev pub total_bytes : List Part → ℕ
total_bytes parts = sum_by (λ p. length p.bytes.items) parts

-- the bytes of a program header
abbrev pub header_bytes : NewHeader → List ℕ
header_bytes h = words (h.kind ∷ h.flags ∷ [])
    ++ xwords (h.place ∷ h.vaddr ∷ h.vaddr ∷ h.filesz ∷ h.memsz ∷ h.align ∷ [])
