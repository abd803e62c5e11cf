-- The copy of a region: what stands in it, where, and what it stands for. Own; the spellings are
-- canonical encodings.
use Rattle.std.specs.Prelude.{ℕ, ◌+◌, ◌-◌, ◌%◌, ◌^◌, ◌&&◌, nat_le, nat_lt, Bool, true, false, List}
use Rattle.std.specs.Prelude.{[], ◌∷◌, ◌++◌, length, take, drop, Option, Some, None, is_some}
use Rattle.std.specs.Prelude.{is_none}
use Rattle.std.specs.Prelude.{ℤ, pos, negsuc, int_le, if◌then◌else◌}
use Rattle.std.specs.List.{list_any, flat_map}
use Rattle.std.specs.Int.{w32, w64, cast_signed, cast_unsigned}
use Rattle.erim_defs.specs.declared.found.Found.{Found}
use Rattle.erim_defs.specs.declared.insn.Insn.{Insn}
use Rattle.erim_defs.specs.declared.insn.Insn.TheVariants.{Mov, MovWide, Lea, Jcc, Jmp}
use Rattle.erim_defs.specs.declared.insn.Base.TheVariants as bases
use Rattle.erim_defs.specs.declared.insn.Src.TheVariants.{Imm}
use Rattle.erim_defs.specs.declared.insn.Width.{Width}
use Rattle.erim_defs.specs.declared.insn.Width.TheVariants.{W4, W8}
use Rattle.erim_defs.specs.Inspection.Code.{laid_at}
use Rattle.erim_defs.specs.Inspection.Occurrence.{occurrence_at}
use Rattle.erim_defs.specs.Inspection.Unsafe.{first_below}
use Rattle.erim_defs.specs.Machine.Least.{least_below}
use Rattle.erim_defs.specs.Encoding.Canonical.{canonical_encoding, four_bytes, register_number}
use Rattle.erim_defs.specs.Rewriting.Standing.{Standing, insn_end, has_rip, disp_place, rip_target}
use Rattle.erim_defs.specs.Rewriting.Standing.{target_of}
use Rattle.erim_defs.specs.Rewriting.Sites.{Region, holds_core, moves_number, region_insns}
use Rattle.erim_defs.specs.Rewriting.Sites.{region_end}

-- what a part of a copy is: an instruction that was copied, a byte 90 between two, a MOV of an
-- immediate that a LEA completes, that LEA with its register, the jump back
pub data Kind : Type 0 where
  Same : Kind
  Filler : Kind
  Begins : Kind
  Completes : ℕ → Kind
  Back : Kind

-- home is the address of what it stands for in the old code, and next the address there once it is
-- executed and no branch is taken; it fits where it can be spelled at its address
pub record Part : Type 0 where
  pub kind : Kind
  pub at : ℕ
  pub home : ℕ
  pub next : ℕ
  pub bytes : List ℕ
  pub fits : Bool

-- ---- offsets

-- from an address to another, signed
abbrev pub offset_to : ℕ → ℕ → ℤ
offset_to from to = cast_signed w64 ((to + (2 ^ 64 - from)) % 2 ^ 64)

-- it has 32 bits
abbrev pub is_near : ℤ → Bool
is_near z = int_le (negsuc 2147483647) z && int_le z (pos 2147483647)

-- a jump of 5 bytes from an address to another
abbrev pub jump : Kind → ℕ → ℕ → ℕ → Part
jump kind at home to =
    let z = offset_to (at + 5) to in
    record {
      kind = kind;
      at = at;
      home = home;
      next = home;
      bytes = canonical_encoding (Jmp z);
      fits = is_near z;
    }

-- ---- a MOV in two

abbrev pub if_near : ℤ → Insn → Option Insn
if_near z mov = if is_near z then Some mov else None

-- the instruction with its immediate less d, where there is one
abbrev pub less : ℕ → Insn → Option Insn
less d (MovWide r imm) = Some (MovWide r ((imm + (2 ^ 64 - d)) % 2 ^ 64))
less d (Mov W4 dst (Imm z)) =
    Some (Mov W4 dst (Imm (cast_signed w32 ((cast_unsigned w32 z + (2 ^ 32 - d)) % 2 ^ 32))))
less d (Mov W8 dst (Imm z)) =
    let y = cast_signed w64 ((cast_unsigned w64 z + (2 ^ 64 - d)) % 2 ^ 64) in
    if_near y (Mov W8 dst (Imm y))
less d other = None

-- its register
abbrev pub moved_to : Insn → ℕ
moved_to (MovWide r imm) = r
moved_to (Mov w dst src) = register_number dst
moved_to other = 0

abbrev pub moved_width : Insn → Width
moved_width (Mov w dst src) = w
moved_width other = W8

-- the LEA that adds d
abbrev pub adding : ℕ → Insn → Insn
adding d insn = Lea (moved_width insn) (moved_to insn) (record {
  base = bases.Reg (moved_to insn);
  index = None;
  scale = 0;
  disp = pos d;
})

-- no sequence occurs in bytes by themselves
unfoldable pub is_quiet : List ℕ → Bool
is_quiet bytes = is_none (first_below (length bytes) (occurrence_at (laid_at 0 bytes)))

abbrev pub if_quiet : List ℕ × List ℕ → Option (List ℕ × List ℕ)
if_quiet pair = if is_quiet (pair.0 ++ pair.1) then Some pair else None

abbrev pub spelled_by : Option Insn → Insn → Option (List ℕ × List ℕ)
spelled_by None lea = None
spelled_by (Some mov) lea = if_quiet (canonical_encoding mov, canonical_encoding lea)

-- the bytes of MOV and LEA by d, where no sequence occurs in them
unfoldable pub split_by : Insn → ℕ → Option (List ℕ × List ℕ)
split_by insn d = spelled_by (less d insn) (adding d insn)

-- the least d from 1 to 127
abbrev pub least_split : Insn → Option ℕ
least_split insn = least_below 128 (λ d. nat_lt 0 d && is_some (split_by insn d))

abbrev pub split_with : Insn → Option ℕ → Option (List ℕ × List ℕ)
split_with insn None = None
split_with insn (Some d) = split_by insn d

unfoldable pub split : Insn → Option (List ℕ × List ℕ)
split insn = split_with insn (least_split insn)

-- the part that an instruction is copied as
abbrev pub copied_part : ℕ → Standing → List ℕ → Bool → Part
copied_part at i bytes fits = record {
  kind = Same;
  at = at;
  home = i.at;
  next = insn_end i;
  bytes = bytes;
  fits = fits;
}

abbrev pub split_parts : Option (List ℕ × List ℕ) → ℕ → Standing → List Part
split_parts None at i = copied_part at i [] false ∷ []
split_parts (Some pair) at i =
    record (copied_part at i pair.0 true) { kind = Begins; next = i.at }
    ∷ record (copied_part (at + length pair.0) i pair.1 true) { kind = Completes (moved_to i.insn) }
    ∷ []

-- ---- the parts of one instruction at its new address

-- a jump with another offset
abbrev pub with_rel : ℤ → Insn → Option Insn
with_rel z (Jmp rel) = Some (Jmp z)
with_rel z (Jcc c rel) = Some (Jcc c z)
with_rel z other = None

abbrev pub is_jump : Insn → Bool
is_jump insn = is_some (with_rel (pos 0) insn)

abbrev pub the_target : Option ℕ → ℕ
the_target None = 0
the_target (Some a) = a

-- a jump or conditional jump is spelled with 4 bytes, to its old target
abbrev pub jumping : Option Insn → ℕ → ℤ → Standing → List Part
jumping None at z i = []
jumping (Some insn) at z i = copied_part at i (canonical_encoding insn) (is_near z) ∷ []

abbrev pub jump_parts : ℕ → Standing → List Part
jump_parts at i =
    let z = offset_to (at + length (canonical_encoding i.insn)) (the_target (target_of i)) in
    jumping (with_rel z i.insn) at z i

-- a displacement from RIP is spelled for the new place, in its 4 bytes
abbrev pub rip_parts : ℕ → Standing → List Part
rip_parts at i =
    let z = offset_to (at + length i.bytes) (rip_target i) in
    let k = disp_place i - i.at in
    copied_part at i (take k i.bytes ++ (four_bytes z ++ drop (k + 4) i.bytes)) (is_near z) ∷ []

unfoldable pub insn_parts : List Found → ℕ → Standing → List Part
insn_parts elements at i =
    if is_jump i.insn then jump_parts at i
    else if moves_number i.insn && list_any (λ e. holds_core e i) elements
    then split_parts (split i.insn) at i
    else if has_rip i then rip_parts at i
    else copied_part at i i.bytes true ∷ []

-- ---- the whole copy

abbrev pub bytes_of : List Part → List ℕ
bytes_of parts = flat_map (λ p. p.bytes) parts

-- an element's core begins in an instruction and goes on in the next
abbrev pub goes_on : Standing → Found → Bool
goes_on i e = nat_le i.at e.at && (nat_lt e.at (insn_end i) && nat_lt (insn_end i) (e.at + 3))

abbrev pub filler_part : ℕ → Standing → Part
filler_part at i = record {
  kind = Filler;
  at = at;
  home = insn_end i;
  next = insn_end i;
  bytes = 0x90 ∷ [];
  fits = true;
}

abbrev pub filler : List Found → ℕ → Standing → List Part
filler elements at i = if list_any (goes_on i) elements then filler_part at i ∷ [] else []

-- the instructions from an address on, and last the jump back
unfoldable pub parts_from : List Found → ℕ → ℕ → List Standing → List Part
parts_from elements back at [] = jump Back at back back ∷ []
parts_from elements back at (i ∷ is) =
    let own = insn_parts elements at i in
    let gap = filler elements (at + length (bytes_of own)) i in
    own ++ (gap
    ++ parts_from elements back (at + length (bytes_of own) + length (bytes_of gap)) is)

unfoldable pub copy_parts : Region → ℕ → List Part
copy_parts r at = parts_from r.elements (region_end r) at (region_insns r)
