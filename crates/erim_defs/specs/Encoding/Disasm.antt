-- What `disasm` prints of an image. Own.
use Rattle.std.specs.Prelude.{ℕ, zero, suc, ◌+◌, ◌-◌, false, if◌then◌else◌, List, [], ◌∷◌, ◌++◌}
use Rattle.std.specs.Prelude.{slice_range, codes}
use Rattle.std.specs.List.{flat_map}
use Rattle.std.specs.Fmt.{digits}
use Rattle.erim_defs.specs.declared.insn.Decoded.{Decoded}
use Rattle.erim_defs.specs.declared.insn.Decoded.TheVariants.{Insn, Undefined, Short}
use Rattle.erim_defs.specs.declared.segment.Segment.{Segment}
use Rattle.erim_defs.specs.Encoding.Decoding.{decode}
use Rattle.erim_defs.specs.Inspection.Image.{segments, is_executable}
use Rattle.erim_defs.specs.Encoding.Notation.{insn_line}
use Rattle.erim_defs.specs.Output.Texts.{line, address_text, zero_filled}

-- a byte at which no whole instruction stands
unfoldable pub bad_line : ℕ → ℕ → List ℕ
bad_line a byte = line (address_text a ++ codes " bad " ++ zero_filled 2 (digits 16 false byte))

-- the line of what stands at an address, where the byte is the first one
abbrev pub first_line : ℕ → ℕ → Decoded → List ℕ
first_line a byte (Insn insn len skip) = insn_line a insn
first_line a byte Undefined = bad_line a byte
first_line a byte Short = bad_line a byte

-- how many bytes that line is of
abbrev pub first_size : Decoded → ℕ
first_size (Insn insn len skip) = len
first_size Undefined = 1
first_size Short = 1

-- the lines of bytes from an address on, the first of which may belong to a line before
unfoldable pub lines_past : ℕ → ℕ → List ℕ → List ℕ
lines_past belonging a [] = []
lines_past zero a (b ∷ bs) =
    first_line a b (decode (b ∷ bs)) ++ lines_past (first_size (decode (b ∷ bs)) - 1) (a + 1) bs
lines_past (suc belonging) a (b ∷ bs) = lines_past belonging (a + 1) bs

-- the lines of all bytes, from the start on
abbrev pub lines_of : ℕ → List ℕ → List ℕ
lines_of a bytes = lines_past 0 a bytes

-- the lines of an executable segment's file part
abbrev pub segment_lines : List ℕ → Segment → List ℕ
segment_lines bytes s =
    if is_executable s
    then lines_of s.vaddr (slice_range bytes s.offset (s.offset + s.filesz))
    else []

-- the executable segments stand in table order
unfoldable pub disasm_text : List ℕ → List ℕ
disasm_text bytes = flat_map (segment_lines bytes) (segments bytes)
