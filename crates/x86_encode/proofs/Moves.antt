-- The canonical encodings of moves are encodings.
use Rattle.std.proofs.Common.{◌≡◌, ℕ, ◌+◌, ◌%◌, ◌^◌, ◌<◌, ◌==◌, ◌&&◌, ◌||◌, Bool, true, false, cond}
use Rattle.std.proofs.Common.{[], ◌++◌, Some, None, refl, sym, ap, subst, ◌∙◌, arith, inl, inr, ℤ}
use Rattle.std.proofs.Common.{if◌then◌else◌}
use Rattle.erim_defs.specs.declared.grammar.Row.{Row}
use Rattle.erim_defs.specs.declared.grammar.Form.TheVariants.{Move}
use Rattle.erim_defs.specs.declared.grammar.Move.TheVariants.{MovMr, MovRm, MovByteOi, MovOi, MovMi}
use Rattle.erim_defs.specs.declared.grammar.Move.TheVariants.{MovWideOi, MovSxdRm, MovZxByteRm}
use Rattle.erim_defs.specs.declared.grammar.Move.TheVariants.{MovZxWordRm, MovSxByteRm, MovSxWordRm}
use Rattle.erim_defs.specs.declared.grammar.Move.TheVariants as moves
use Rattle.erim_defs.specs.declared.insn.Insn.TheVariants as insns
use Rattle.erim_defs.specs.declared.insn.Insn.TheVariants.{Mov, MovWide, MovZx, MovSx}
use Rattle.erim_defs.specs.declared.insn.Mem.{Mem}
use Rattle.erim_defs.specs.declared.insn.Place.{Place}
use Rattle.erim_defs.specs.declared.insn.Place.TheVariants.{Reg, High, At}
use Rattle.erim_defs.specs.declared.insn.Src.{Src}
use Rattle.erim_defs.specs.declared.insn.Src.TheVariants.{From, Imm}
use Rattle.erim_defs.specs.declared.insn.Width.{Width}
use Rattle.erim_defs.specs.declared.insn.Width.TheVariants.{W1, W4, W8}
use Rattle.erim_defs.specs.Encoding.Parts.{signed_value}
use Rattle.erim_defs.specs.Encoding.Operand.{reg_with_bit}
use Rattle.erim_defs.specs.Encoding.OpcodeTable.{plain_row}
use Rattle.erim_defs.specs.Encoding.Forms.{insn_of, move_of, register_named, opcode_reg, rex_width}
use Rattle.erim_defs.specs.Encoding.Forms.{memory_of, imm64}
use Rattle.erim_defs.specs.Encoding.Grammar.{fields_of}
use Rattle.erim_defs.specs.Encoding.Canonical.{one_byte, four_bytes, eight_bytes, width_bytes}
use Rattle.erim_defs.specs.Encoding.Canonical.{is_wide, asks_rex, is_upper, opcode_of_width}
use Rattle.erim_defs.specs.Encoding.Canonical.{register_number, opcode_with_register, opcode_alone}
use Rattle.erim_defs.specs.Encoding.Canonical.{reg_rm_bytes, rm_bytes, word_rm_bytes, byte_rm_bytes}
use Rattle.erim_defs.specs.Encoding.Canonical.{mov_imm_bytes, mov_bytes, extension_bytes}
use Rattle.erim_defs.specs.Encoding.OpcodeMap.{one_byte_row, two_byte_row, middle_opcode_row}
use Rattle.erim_defs.specs.Encoding.OpcodeMap.{high_opcode_row, one_byte_has_modrm}
use Rattle.erim_defs.specs.Encoding.OpcodeMap.{two_byte_has_modrm}
use Rattle.encoding_laws.proofs.OpcodeMapLemmas.{row_in_map, modrm_in_map}
use Rattle.erim_defs.proofs.TableLemmas.{table, tabulated}
use Rattle.x86_encode.proofs.Numbers.{eight_length, eight_are, eight_wide}
use Rattle.x86_encode.proofs.Facts.{limit, is_memory}
use Rattle.x86_encode.proofs.Operands.{extended_is}
use Rattle.x86_encode.proofs.Encodings.{IsEncoding, ModrmRow, PlainRow, alone_encodes}
use Rattle.x86_encode.proofs.Encodings.{register_encodes, bare}
use Rattle.x86_encode.proofs.Views.{named_is, number_up, number_no, asks_no, none, some, word_is}
use Rattle.x86_encode.proofs.Views.{pair_encodes, single_encodes, word_encodes, byte_encodes}
use Rattle.x86_encode.proofs.Founds.{any_row, sized_any, sized_ext, row_by}
use Rattle.x86_encode.proofs.Good.{NumberFits, IsGood}
use Rattle.x86_encode.proofs.Arithmetics.{one_number, four_number, flat_of}

-- ---- two operands

eg_row : (w : Width) (r : ℕ) (e : Place)
    → ModrmRow false (is_wide w) (opcode_of_width w 0x88) r e (plain_row (Move MovMr) 0)
unfolding one_byte_row middle_opcode_row one_byte_has_modrm
eg_row w r e = sized_any false 0x88 r e (plain_row (Move MovMr) 0) (omega arith) (λ _. refl)
    (λ _. refl) refl refl (λ wide m. refl) (λ wide m. refl) refl w

ge_row : (w : Width) (r : ℕ) (e : Place)
    → ModrmRow false (is_wide w) (opcode_of_width w 0x8A) r e (plain_row (Move MovRm) 0)
unfolding one_byte_row middle_opcode_row one_byte_has_modrm
ge_row w r e = sized_any false 0x8A r e (plain_row (Move MovRm) 0) (omega arith) (λ _. refl)
    (λ _. refl) refl refl (λ wide m. refl) (λ wide m. refl) refl w

mov_pair : (any : Bool) (w : Width) (dst r : Place) → is_memory r ≡ false
    → IsGood any (Mov w dst (From r))
    → IsEncoding (reg_rm_bytes false w false 0x88 r dst) (Mov w dst (From r))
unfolding insn_of move_of
mov_pair any w dst r flat h =
    pair_encodes any false w false 0x88 r dst (plain_row (Move MovMr) 0) (Mov w dst (From r)) h.0
    h.2.0 flat h.1 refl (eg_row w (register_number r) dst) (λ k. absurd cc) refl
    (λ f o wd e g l. cc)

mov_memory : (any : Bool) (w : Width) (dst src : Place) → is_memory src ≡ true
    → IsGood any (Mov w dst (From src))
    → IsEncoding (reg_rm_bytes false w false 0x8A dst src) (Mov w dst (From src))
unfolding insn_of move_of
mov_memory any w dst src there h =
    let flat : is_memory dst ≡ false =
    flat_of (is_memory dst) (ap (λ t. is_memory dst && t) (sym there) ∙ h.2.1) in
    pair_encodes any false w false 0x8A dst src (plain_row (Move MovRm) 0) (Mov w dst (From src))
    h.0 h.1 flat h.2.0 refl (ge_row w (register_number dst) src) (λ k. absurd cc) refl
    (λ f o wd e g l. cc)

-- ---- a number

ei_row : (w : Width) (e : Place)
    → ModrmRow false (is_wide w) (opcode_of_width w 0xC6) 0 e
    (row_by w (plain_row (Move MovMi) 1) (plain_row (Move MovMi) 4))
unfolding one_byte_row high_opcode_row one_byte_has_modrm
ei_row w e = sized_ext 0xC6 0 e (plain_row (Move MovMi) 1) (plain_row (Move MovMi) 4) (omega arith)
    (λ _. refl) (λ _. refl) refl refl (λ wide. refl) (λ wide. refl) (omega arith) refl refl w

mov_number : (any : Bool) (w : Width) (e : Place) (z : ℤ) → IsGood any (Mov w e (Imm z))
    → IsEncoding (rm_bytes false w 0xC6 0 e ++ width_bytes w z) (Mov w e (Imm z))
unfolding insn_of move_of width_bytes
mov_number any W1 e z h = let b = one_number z h.2 in
    single_encodes any false W1 0xC6 0 e (plain_row (Move MovMi) 1) (one_byte z) (Mov W1 e (Imm z))
    h.0 (omega arith) h.1 refl (ei_row W1 e) (λ k. absurd cc) b.long (omega arith) b.are
    (λ f wd p m l. let i = b.is in cc)
mov_number any W4 e z h = let b = four_number z h.2 in
    single_encodes any false W4 0xC6 0 e (plain_row (Move MovMi) 4) (four_bytes z)
    (Mov W4 e (Imm z)) h.0 (omega arith) h.1 refl (ei_row W4 e) (λ k. absurd cc) b.long
    (omega arith) b.are (λ f wd p m l. let i = b.is in cc)
mov_number any W8 e z h = let b = four_number z h.2 in
    single_encodes any false W8 0xC6 0 e (plain_row (Move MovMi) 4) (four_bytes z)
    (Mov W8 e (Imm z)) h.0 (omega arith) h.1 refl (ei_row W8 e) (λ k. absurd cc) b.long
    (omega arith) b.are (λ f wd p m l. let i = b.is in cc)

-- an opcode with a register in it, by its row
pub in_opcode : (wide : Bool) (base n : ℕ) (row : Row) → base < 248
    → table (λ k. (base + k) == 0x0F) 8 ≡ table (λ k. false) 8
    → table (λ k. modrm_in_map false (base + k)) 8 ≡ table (λ k. false) 8
    → table (λ k. row_in_map false false wide (base + k) 0) 8 ≡ table (λ k. Some row) 8
    → PlainRow false wide (base + n % 8) row
in_opcode wide base n row lt apart asks found =
    let low : n % 8 < 8 = omega arith in
    record {
      op_low = omega arith;
      apart = λ _. tabulated (λ k. (base + k) == 0x0F) (λ k. false) 8 apart (n % 8) low;
      asks = tabulated (λ k. modrm_in_map false (base + k)) (λ k. false) 8 asks (n % 8) low;
      found = tabulated (λ k. row_in_map false false wide (base + k) 0) (λ k. Some row) 8 found
          (n % 8) low;
    }

-- and that register
pub opcode_is : (base n : ℕ) → base % 8 ≡ 0 → n < 16
    → reg_with_bit (is_upper n) ((base + n % 8) % 8) ≡ n
opcode_is base n e lt = let q : (base + n % 8) % 8 ≡ n % 8 = omega arith in
    ap (reg_with_bit (is_upper n)) q ∙ extended_is n lt

mov_byte : (any : Bool) (dst : Place) (z : ℤ) → is_memory dst ≡ false
    → IsGood any (Mov W1 dst (Imm z))
    → IsEncoding (opcode_with_register false (asks_rex W1 dst) 0xB0 (register_number dst)
    ++ one_byte z) (Mov W1 dst (Imm z))
unfolding insn_of move_of opcode_reg fields_of one_byte_row middle_opcode_row one_byte_has_modrm
mov_byte any dst z flat h =
    let n = register_number dst in
    let asked = asks_rex W1 dst in
    let made = asked || false || false || false || is_upper n in
    let b = one_number z h.2 in
    let low : any ≡ false → made ≡ false =
    λ k. none asked false false false (is_upper n) (asks_no any W1 dst h.1 k) refl refl refl
    (number_no any dst h.1.fits k) in
    let view = named_is any made W1 dst h.1 low
    (λ k. some asked false false false (is_upper n) k) in
    let here : register_named W1 made (reg_with_bit (is_upper n) ((0xB0 + n % 8) % 8)) ≡ dst =
    ap (register_named W1 made) (opcode_is 0xB0 n refl (number_up any dst h.1.fits))
    ∙ view flat in
    register_encodes false asked 0xB0 n (plain_row (Move MovByteOi) 1) (one_byte z)
    (Mov W1 dst (Imm z)) (in_opcode false 0xB0 n (plain_row (Move MovByteOi) 1) (omega arith)
    refl refl refl) refl b.long (omega
    arith) b.are (ap (λ p. Mov W1 p (Imm (signed_value (one_byte z)))) here
    ∙ ap (λ k. Mov W1 dst (Imm k)) b.is)

mov_four : (n : ℕ) (z : ℤ) → n < 16 → NumberFits W4 z
    → IsEncoding (opcode_with_register false false 0xB8 n ++ four_bytes z) (Mov W4 (Reg n) (Imm z))
unfolding insn_of move_of opcode_reg fields_of one_byte_row middle_opcode_row one_byte_has_modrm
mov_four n z lt f = let b = four_number z f in
    register_encodes false false 0xB8 n (plain_row (Move MovOi) 4) (four_bytes z)
    (Mov W4 (Reg n) (Imm z)) (in_opcode false 0xB8 n (plain_row (Move MovOi) 4) (omega arith) refl
    refl refl) refl b.long (omega
    arith) b.are (ap (λ k. Mov W4 (Reg k) (Imm (signed_value (four_bytes z))))
    (opcode_is 0xB8 n refl lt) ∙ ap (λ k. Mov W4 (Reg n) (Imm k)) b.is)

mov_immediate_encodes : (any : Bool) (w : Width) (dst : Place) (z : ℤ)
    → IsGood any (Mov w dst (Imm z)) → IsEncoding (mov_imm_bytes w dst z) (Mov w dst (Imm z))
unfolding mov_imm_bytes width_bytes register_number
mov_immediate_encodes any w (At m) z h = mov_number any w (At m) z h
mov_immediate_encodes any W1 (Reg n) z h = mov_byte any (Reg n) z refl h
mov_immediate_encodes any W1 (High n) z h = mov_byte any (High n) z refl h
mov_immediate_encodes any W4 (Reg n) z h = mov_four n z (number_up any (Reg n) h.1.fits) h.2
mov_immediate_encodes any W4 (High n) z h = absurd h.1.view
mov_immediate_encodes any W8 (Reg n) z h = mov_number any W8 (Reg n) z h
mov_immediate_encodes any W8 (High n) z h = absurd h.1.view

pub mov_encodes : (any : Bool) (w : Width) (dst : Place) (src : Src) → IsGood any (Mov w dst src)
    → IsEncoding (mov_bytes w dst src) (Mov w dst src)
unfolding mov_bytes
mov_encodes any w dst (From (Reg r)) h = mov_pair any w dst (Reg r) refl h
mov_encodes any w dst (From (High r)) h = mov_pair any w dst (High r) refl h
mov_encodes any w dst (From (At m)) h = mov_memory any w dst (At m) refl h
mov_encodes any w dst (Imm z) h = mov_immediate_encodes any w dst z h

pub wide_encodes : (r imm : ℕ) → r < 16 → imm < 2 ^ 64
    → IsEncoding (opcode_with_register true false 0xB8 r ++ eight_bytes imm) (MovWide r imm)
unfolding insn_of move_of opcode_reg fields_of one_byte_row middle_opcode_row one_byte_has_modrm
wide_encodes r imm lt f =
    register_encodes true false 0xB8 r (plain_row (Move MovWideOi) 8) (eight_bytes imm)
    (MovWide r imm) (in_opcode true 0xB8 r (plain_row (Move MovWideOi) 8) (omega arith) refl refl
    refl) refl (eight_length imm) (omega arith) (eight_are
    imm) (ap (λ k. MovWide k (imm64 (eight_bytes imm))) (opcode_is 0xB8 r refl lt)
    ∙ ap (MovWide r) (eight_wide imm f))

-- ---- addresses and extension

lea_row : (wide : Bool) (r : ℕ) (m : Mem) → r < 16
    → ModrmRow false wide 0x8D r (At m) (plain_row (Move moves.LeaRm) 0)
unfolding one_byte_row middle_opcode_row one_byte_has_modrm
lea_row wide r m lt = record {
  op_low = omega arith;
  apart = λ _. refl;
  asks = refl;
  found = λ k rest is a b c. ap (λ t. cond t (Some (plain_row (Move moves.LeaRm) 0)) None) c;
  any_low = refl;
}

pub lea_encodes : (any : Bool) (w : Width) (r : ℕ) (m : Mem) → IsGood any (insns.Lea w r m)
    → IsEncoding (word_rm_bytes w false 0x8D r (At m)) (insns.Lea w r m)
unfolding insn_of move_of memory_of
lea_encodes any w r m h =
    bare (word_rm_bytes w false 0x8D r (At m)) (insns.Lea w r m)
    (word_encodes any w false 0x8D r (At m) (plain_row (Move moves.LeaRm) 0) [] (insns.Lea w r m)
    h.0 h.1 h.2 tt (lea_row (is_wide w) r m h.1) refl (omega arith) tt
    (λ f o wd e g k. let q : memory_of f.place ≡ m = ap memory_of e in cc))

pub sxd_encodes : (any : Bool) (r : ℕ) (src : Place) → IsGood any (insns.MovSxd r src)
    → IsEncoding (word_rm_bytes W8 false 0x63 r src) (insns.MovSxd r src)
unfolding insn_of move_of is_wide one_byte_row middle_opcode_row one_byte_has_modrm
sxd_encodes any r src h =
    bare (word_rm_bytes W8 false 0x63 r src) (insns.MovSxd r src)
    (word_encodes true W8 false 0x63 r src (plain_row (Move MovSxdRm) 0) [] (insns.MovSxd r src)
    refl h.0 h.1.fits h.1.plain (any_row false true 0x63 r src (plain_row (Move MovSxdRm) 0)
    (omega arith) (λ _. refl) refl (λ m. refl) refl) refl (omega arith) tt (λ f o wd e g k. cc))

limit_up : (any : Bool) (r : ℕ) → r < limit any → r < 16
limit_up true r h = h
limit_up false r h = omega arith

pub zx_encodes : (any : Bool) (w : Width) (r from : ℕ) (src : Place)
    → IsGood any (MovZx w r from src)
    → IsEncoding (extension_bytes 0xB6 w r from src) (MovZx w r from src)
unfolding extension_bytes insn_of move_of two_byte_row two_byte_has_modrm
zx_encodes any w r from src h = elim h.each [
  | inl k ↦ let P : ℕ → Type 0 =
      λ n. IsEncoding (if n == 1 then byte_rm_bytes w 0xB6 r src
      else word_rm_bytes w true 0xB7 r src) (MovZx w r n src) in
      subst P (sym k.0) (byte_encodes any w 0xB6 r src (plain_row (Move MovZxByteRm) 0)
      (MovZx w r 1 src) h.wide h.low k.1
      (any_row true (is_wide w) 0xB6 r src (plain_row (Move MovZxByteRm) 0) (omega arith)
      (λ j. absurd cc) refl (λ m. refl) refl) refl (λ f o wd e g. cc))
  | inr k ↦ let P : ℕ → Type 0 =
      λ n. IsEncoding (if n == 1 then byte_rm_bytes w 0xB6 r src
      else word_rm_bytes w true 0xB7 r src) (MovZx w r n src) in
      subst P (sym k.0) (bare (word_rm_bytes w true 0xB7 r src) (MovZx w r 2 src)
      (word_encodes any w true 0xB7 r src (plain_row (Move MovZxWordRm) 0) [] (MovZx w r 2 src)
      h.wide (limit_up any r h.low) k.1.fits k.1.plain
      (any_row true (is_wide w) 0xB7 r src (plain_row (Move MovZxWordRm) 0) (omega arith)
      (λ j. absurd cc) refl (λ m. refl) refl) refl (omega arith) tt (λ f o wd e g m. cc)))
]

pub sx_encodes : (any : Bool) (w : Width) (r from : ℕ) (src : Place)
    → IsGood any (MovSx w r from src)
    → IsEncoding (extension_bytes 0xBE w r from src) (MovSx w r from src)
unfolding extension_bytes insn_of move_of two_byte_row two_byte_has_modrm
sx_encodes any w r from src h = elim h.each [
  | inl k ↦ let P : ℕ → Type 0 =
      λ n. IsEncoding (if n == 1 then byte_rm_bytes w 0xBE r src
      else word_rm_bytes w true 0xBF r src) (MovSx w r n src) in
      subst P (sym k.0) (byte_encodes any w 0xBE r src (plain_row (Move MovSxByteRm) 0)
      (MovSx w r 1 src) h.wide h.low k.1
      (any_row true (is_wide w) 0xBE r src (plain_row (Move MovSxByteRm) 0) (omega arith)
      (λ j. absurd cc) refl (λ m. refl) refl) refl (λ f o wd e g. cc))
  | inr k ↦ let P : ℕ → Type 0 =
      λ n. IsEncoding (if n == 1 then byte_rm_bytes w 0xBE r src
      else word_rm_bytes w true 0xBF r src) (MovSx w r n src) in
      subst P (sym k.0) (bare (word_rm_bytes w true 0xBF r src) (MovSx w r 2 src)
      (word_encodes any w true 0xBF r src (plain_row (Move MovSxWordRm) 0) [] (MovSx w r 2 src)
      h.wide (limit_up any r h.low) k.1.fits k.1.plain
      (any_row true (is_wide w) 0xBF r src (plain_row (Move MovSxWordRm) 0) (omega arith)
      (λ j. absurd cc) refl (λ m. refl) refl) refl (omega arith) tt (λ f o wd e g m. cc)))
]

pub widen_encodes : (any : Bool) (w : Width) → IsGood any (insns.Widen w)
    → IsEncoding (opcode_alone (is_wide w) false 0x98) (insns.Widen w)
unfolding insn_of move_of rex_width fields_of one_byte_row middle_opcode_row one_byte_has_modrm
widen_encodes any w h = bare (opcode_alone (is_wide w) false 0x98) (insns.Widen w)
    (alone_encodes (is_wide w) false 0x98 (plain_row (Move moves.WidenZo) 0) [] (insns.Widen w)
    (record { op_low = omega arith; apart = λ _. refl; asks = refl; found = refl }) refl
    (omega arith) tt (ap insns.Widen (word_is any w h)))

pub spread_encodes : (any : Bool) (w : Width) → IsGood any (insns.Spread w)
    → IsEncoding (opcode_alone (is_wide w) false 0x99) (insns.Spread w)
unfolding insn_of move_of rex_width fields_of one_byte_row middle_opcode_row one_byte_has_modrm
spread_encodes any w h =
    bare (opcode_alone (is_wide w) false 0x99) (insns.Spread w)
    (alone_encodes (is_wide w) false 0x99 (plain_row (Move moves.SpreadZo) 0) [] (insns.Spread w)
    (record { op_low = omega arith; apart = λ _. refl; asks = refl; found = refl }) refl
    (omega arith) tt (ap insns.Spread (word_is any w h)))

-- ---- conditions

pub condition_is : (base c : ℕ) → base % 16 ≡ 0 → c < 16 → (base + c % 16) % 16 ≡ c
condition_is base c e lt = omega arith

cmov_row : (wide : Bool) (c r : ℕ) (e : Place)
    → ModrmRow true wide (0x40 + c % 16) r e (plain_row (Move moves.CmovRm) 0)
unfolding two_byte_row two_byte_has_modrm
cmov_row wide c r e =
    let low : c % 16 < 16 = omega arith in
    any_row true wide (0x40 + c % 16) r e (plain_row (Move moves.CmovRm) 0) (omega arith)
    (λ j. absurd cc) (tabulated (λ k. modrm_in_map true (0x40 + k)) (λ k. true) 16 refl (c % 16)
    low) (λ m. tabulated (λ k. row_in_map true false wide (0x40 + k) m)
    (λ k. Some (plain_row (Move moves.CmovRm) 0)) 16 refl (c % 16) low) refl

pub cmov_encodes : (any : Bool) (c : ℕ) (w : Width) (r : ℕ) (src : Place)
    → IsGood any (insns.Cmov c w r src)
    → IsEncoding (word_rm_bytes w true (0x40 + c % 16) r src) (insns.Cmov c w r src)
unfolding insn_of move_of
cmov_encodes any c w r src h =
    bare (word_rm_bytes w true (0x40 + c % 16) r src) (insns.Cmov c w r src)
    (word_encodes any w true (0x40 + c % 16) r src (plain_row (Move moves.CmovRm) 0) []
    (insns.Cmov c w r src) h.1 h.2 h.3.fits h.3.plain (cmov_row (is_wide w) c r src) refl
    (omega arith) tt (λ f o wd e g k. let q : f.op % 16 ≡ c = ap (λ x. x % 16) o
    ∙ condition_is 0x40 c refl h.0 in cc))

set_row : (wide : Bool) (c r : ℕ) (e : Place)
    → ModrmRow true wide (0x90 + c % 16) r e (plain_row (Move moves.SetM) 0)
unfolding two_byte_row two_byte_has_modrm
set_row wide c r e =
    let low : c % 16 < 16 = omega arith in
    any_row true wide (0x90 + c % 16) r e (plain_row (Move moves.SetM) 0) (omega arith)
    (λ j. absurd cc) (tabulated (λ k. modrm_in_map true (0x90 + k)) (λ k. true) 16 refl (c % 16)
    low) (λ m. tabulated (λ k. row_in_map true false wide (0x90 + k) m)
    (λ k. Some (plain_row (Move moves.SetM) 0)) 16 refl (c % 16) low) refl

pub set_encodes : (any : Bool) (c : ℕ) (dst : Place) → IsGood any (insns.Set c dst)
    → IsEncoding (byte_rm_bytes W4 (0x90 + c % 16) 0 dst) (insns.Set c dst)
unfolding insn_of move_of
set_encodes any c dst h =
    byte_encodes any W4 (0x90 + c % 16) 0 dst (plain_row (Move moves.SetM) 0) (insns.Set c dst) tt
    (zero_low any) h.1 (set_row (is_wide W4) c 0 dst) refl (λ f o wd e g. let q : f.op % 16
    ≡ c = ap (λ x. x % 16) o ∙ condition_is 0x90 c refl h.0 in cc)
  where
    zero_low : (any : Bool) → 0 < limit any
    zero_low true = omega arith
    zero_low false = omega arith
