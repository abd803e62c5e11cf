-- The places that the fields of a canonical encoding name.
use Rattle.std.proofs.Common.{◌≡◌, ℕ, ◌+◌, ◌-◌, ◌/◌, ◌%◌, ◌<◌, ◌≤◌, ◌==◌, ◌&&◌, ◌||◌, not, nat_lt}
use Rattle.std.proofs.Common.{nat_le, Bool, true, false, List, [], ◌++◌, length, Option, Some, None}
use Rattle.std.proofs.Common.{refl, sym, ap, ◌∙◌, arith, if◌then◌else◌}
use Rattle.std.proofs.lemmas.Bool.{leb-true, lt-ltb, le-leb, or_from, or_left, or_right}
use Rattle.std.proofs.lemmas.Bool.{false_from_ne_true}
use Rattle.erim_defs.specs.declared.grammar.Fields.{Fields}
use Rattle.erim_defs.specs.declared.grammar.Row.{Row}
use Rattle.erim_defs.specs.declared.insn.Base.{Base}
use Rattle.erim_defs.specs.declared.insn.Base.TheVariants as bases
use Rattle.erim_defs.specs.declared.insn.Insn.{Insn}
use Rattle.erim_defs.specs.declared.insn.Mem.{Mem}
use Rattle.erim_defs.specs.declared.insn.Place.{Place}
use Rattle.erim_defs.specs.declared.insn.Place.TheVariants.{Reg, High, At}
use Rattle.erim_defs.specs.declared.insn.Width.{Width}
use Rattle.erim_defs.specs.declared.insn.Width.TheVariants.{W1, W4, W8}
use Rattle.erim_defs.specs.Encoding.Parts.{AreBytes}
use Rattle.erim_defs.specs.Encoding.Operand.{reg_with_bit}
use Rattle.erim_defs.specs.Encoding.Forms.{operand_width, rex_width, register_named, rm_place}
use Rattle.erim_defs.specs.Encoding.Forms.{byte_rm_place, reg_place, reg_number, insn_of}
use Rattle.erim_defs.specs.Encoding.Grammar.{fields_of}
use Rattle.erim_defs.specs.Encoding.Canonical.{is_wide, asks_rex, is_upper, opcode_of_width}
use Rattle.erim_defs.specs.Encoding.Canonical.{register_number, has_upper_index, has_upper_base}
use Rattle.erim_defs.specs.Encoding.Canonical.{opcode_with_modrm, reg_rm_bytes, rm_bytes}
use Rattle.erim_defs.specs.Encoding.Canonical.{word_rm_bytes, byte_rm_bytes}
use Rattle.x86_encode.proofs.Facts.{limit, BaseFits, IndexFits, MemFits, PlaceFits, is_memory, raw}
use Rattle.x86_encode.proofs.Operands.{extended_is}
use Rattle.x86_encode.proofs.Encodings.{IsEncoding, ModrmRow, modrm_lead, modrm_encodes, bare}

-- ---- what is known of widths and of places of a width, with REX or without

abbrev pub WidthFits : Bool → Width → Type 0
WidthFits any W1 = Unit {0}
WidthFits any W4 = Unit {0}
WidthFits any W8 = any ≡ true

-- a width without byte registers
abbrev pub IsWord : Bool → Width → Type 0
IsWord any W1 = ⊥
IsWord any W4 = Unit {0}
IsWord any W8 = any ≡ true

-- without REX, 4 to 7 are the high byte registers
abbrev pub ViewFits : Bool → Width → Place → Type 0
ViewFits any W1 (Reg n) = any ≡ false → n < 4
ViewFits any W1 (High n) = any ≡ false
ViewFits any W1 (At m) = Unit {0}
ViewFits any W4 (Reg n) = Unit {0}
ViewFits any W4 (High n) = ⊥
ViewFits any W4 (At m) = Unit {0}
ViewFits any W8 (Reg n) = Unit {0}
ViewFits any W8 (High n) = ⊥
ViewFits any W8 (At m) = Unit {0}

pub record SizedFits (any : Bool) (w : Width) (p : Place) : Type 0 where
  pub fits : PlaceFits (limit any) p
  pub view : ViewFits any w p

-- ---- all is below 16

abbrev pub limit_low : (any : Bool) → limit any ≤ 16
limit_low true = omega arith
limit_low false = omega arith

mem_up : (k : ℕ) (m : Mem) → k ≤ 16 → MemFits k m → MemFits 16 m
mem_up k m le h = record {
  base = base m.base h.base;
  index = index m.index h.index;
  scale = h.scale;
  rip = h.rip;
  disp = h.disp;
}
  where
    base : (b : Base) → BaseFits k b → BaseFits 16 b
    base bases.Zero f = tt
    base (bases.Reg n) f = omega (arith, f)
    base bases.Rip f = tt

    index : (i : Option ℕ) → IndexFits k i → IndexFits 16 i
    index None f = tt
    index (Some n) f = (let lt = f.0 in omega arith, f.1)

pub place_up : (any : Bool) (p : Place) → PlaceFits (limit any) p → PlaceFits 16 p
place_up any (Reg n) h = let le = limit_low any in omega arith
place_up any (High n) h = h
place_up any (At m) h = mem_up (limit any) m (limit_low any) h

pub number_up : (any : Bool) (p : Place) → PlaceFits (limit any) p → register_number p < 16
unfolding register_number
number_up any (Reg n) h = let le = limit_low any in omega arith
number_up any (High n) h = omega arith
number_up any (At m) h = omega arith

-- ---- without REX none is needed

wide_no : (any : Bool) (w : Width) → WidthFits any w → any ≡ false → is_wide w ≡ false
unfolding is_wide
wide_no any W1 h e = refl
wide_no any W4 h e = refl
wide_no any W8 h e = absurd (cc (h, e))

pub upper_no : (n : ℕ) → n < 8 → is_upper n ≡ false
unfolding is_upper
upper_no n h = false_from_ne_true (nat_le 8 n) (λ e. let l = leb-true 8 n e in omega arith)

pub asks_no : (any : Bool) (w : Width) (p : Place) → SizedFits any w p → any ≡ false
    → asks_rex w p ≡ false
unfolding asks_rex
asks_no any W1 (Reg n) h e = let l = h.view e in
    false_from_ne_true (nat_le 4 n && nat_lt n 8) (λ k. below n l (nat_lt n 8) k)
  where
    below : (n : ℕ) → n < 4 → (b : Bool) → (nat_le 4 n && b) ≡ true → ⊥
    below n l b k = by (nat_le 4 n) refl k
      where
        by : (t : Bool) → nat_le 4 n ≡ t → (t && b) ≡ true → ⊥
        by true q k = let le = leb-true 4 n q in omega arith
        by false q k = absurd cc
asks_no any W1 (High n) h e = refl
asks_no any W1 (At m) h e = refl
asks_no any W4 p h e = refl
asks_no any W8 p h e = refl

pub number_no : (any : Bool) (p : Place) → PlaceFits (limit any) p → any ≡ false
    → is_upper (register_number p) ≡ false
unfolding register_number
number_no true p h e = absurd cc
number_no false (Reg n) h e = upper_no n h
number_no false (High n) h e = upper_no (n % 4 + 4) (omega arith)
number_no false (At m) h e = upper_no 0 (omega arith)

index_no : (any : Bool) (p : Place) → PlaceFits (limit any) p → any ≡ false
    → has_upper_index p ≡ false
unfolding has_upper_index
index_no true p h e = absurd cc
index_no false (Reg n) h e = refl
index_no false (High n) h e = refl
index_no false (At m) h e = by m.index h.index
  where
    by : (i : Option ℕ) → IndexFits 8 i → elim i [ None ↦ false | Some n ↦ is_upper n ] ≡ false
    by None f = refl
    by (Some n) f = upper_no n f.0

base_no : (any : Bool) (p : Place) → PlaceFits (limit any) p → any ≡ false
    → has_upper_base p ≡ false
unfolding has_upper_base
base_no true p h e = absurd cc
base_no false (Reg n) h e = upper_no n h
base_no false (High n) h e = refl
base_no false (At m) h e = by m.base h.base
  where
    by : (b : Base) → BaseFits 8 b
        → elim b [ bases.Reg n ↦ is_upper n | bases.Zero ↦ false | bases.Rip ↦ false ] ≡ false
    by bases.Zero f = refl
    by (bases.Reg n) f = upper_no n f
    by bases.Rip f = refl

pub none : (a w r x b : Bool) → a ≡ false → w ≡ false → r ≡ false → x ≡ false → b ≡ false
    → (a || w || r || x || b) ≡ false
none a w r x b ea ew er ex eb =
    or_from (a || w || r || x) b (or_from (a || w
    || r) x (or_from (a || w) r (or_from a w ea ew) er) ex) eb

pub some : (a w r x b : Bool) → a ≡ true → (a || w || r || x || b) ≡ true
some a w r x b e = or_left (a || w || r
    || x) b (or_left (a || w || r) x (or_left (a || w) r (or_left a w e)))

-- ---- registers by their numbers

abbrev pub IsNamed : Width → Bool → Place → Type 0
IsNamed w any p = is_memory p ≡ false → register_named w any (register_number p) ≡ p

pub named_is : (any made : Bool) (w : Width) (p : Place) → SizedFits any w p
    → (any ≡ false → made ≡ false) → (asks_rex w p ≡ true → made ≡ true) → IsNamed w made p
unfolding register_named asks_rex register_number
named_is any made W1 (Reg n) h low up k = by (nat_le 4 n && nat_lt n 8) refl
  where
    by : (t : Bool) → (nat_le 4 n && nat_lt n 8) ≡ t
        → (if not made && (nat_le 4 n && nat_lt n 8) then High (n - 4) else Reg n) ≡ Reg n
    by true e = ap (λ t. if not t && (nat_le 4 n && nat_lt n 8) then High (n - 4) else Reg n) (up e)
    by false e = ap (λ t. if not made && t then High (n - 4) else Reg n) e ∙ stays made
      where
        stays : (b : Bool) → (if not b && false then High (n - 4) else Reg n) ≡ Reg n
        stays true = refl
        stays false = refl
named_is any made W1 (High n) h low up k =
    let lt : n < 4 = h.fits in
    let four = le-leb 4 (n % 4 + 4) (omega arith) in
    let eight = lt-ltb (n % 4 + 4) 8 (omega arith) in
    let back : n % 4 + 4 - 4 ≡ n = omega arith in
    ap (λ t. if not t && (nat_le 4 (n % 4 + 4) && nat_lt (n % 4 + 4) 8) then High (n % 4 + 4 - 4)
    else Reg (n % 4 + 4)) (low h.view)
    ∙ ap (λ t. if t && nat_lt (n % 4 + 4) 8 then High (n % 4 + 4 - 4) else Reg (n % 4 + 4)) four
    ∙ ap (λ t. if t then High (n % 4 + 4 - 4) else Reg (n % 4 + 4)) eight ∙ ap High back
named_is any made W1 (At m) h low up k = absurd cc
named_is any made W4 (Reg n) h low up k = refl
named_is any made W4 (High n) h low up k = absurd h.view
named_is any made W4 (At m) h low up k = absurd cc
named_is any made W8 (Reg n) h low up k = refl
named_is any made W8 (High n) h low up k = absurd h.view
named_is any made W8 (At m) h low up k = absurd cc

abbrev sized_place : Width → Bool → Place → Place
sized_place w any p = elim p [ Reg n ↦ register_named w any n | High n ↦ High n | At m ↦ At m ]

place_is : (w : Width) (any : Bool) (e : Place) → IsNamed w any e → sized_place w any (raw e) ≡ e
unfolding register_number
place_is w any (Reg n) h = h refl
place_is w any (High n) h = h refl
place_is w any (At m) h = refl

register_is : (w : Width) (any : Bool) (g : Place) (k : ℕ) → IsNamed w any g → is_memory g ≡ false
    → register_number g < 16 → k ≡ register_number g % 8
    → register_named w any (reg_with_bit (is_upper (register_number g)) k) ≡ g
register_is w any g k h flat lt e =
    ap (λ j. register_named w any (reg_with_bit (is_upper (register_number g)) j)) e
    ∙ ap (register_named w any) (extended_is (register_number g) lt) ∙ h flat

width_is : (w : Width) (op : ℕ) → op % 2 ≡ 0
    → (if opcode_of_width w op % 2 == 0 then W1 else if is_wide w then W8 else W4) ≡ w
unfolding opcode_of_width is_wide
width_is W1 op e = ap (λ k. if k == 0 then W1 else W4) e
width_is W4 op e = let odd : (op + 1) % 2 ≡ 1 = omega arith in
    ap (λ k. if k == 0 then W1 else W4) odd
width_is W8 op e = let odd : (op + 1) % 2 ≡ 1 = omega arith in
    ap (λ k. if k == 0 then W1 else W8) odd

pub word_is : (any : Bool) (w : Width) → IsWord any w → (if is_wide w then W8 else W4) ≡ w
unfolding is_wide
word_is any W1 h = absurd h
word_is any W4 h = refl
word_is any W8 h = refl

word_width_fits : (any : Bool) (w : Width) → IsWord any w → WidthFits any w
word_width_fits any W1 h = absurd h
word_width_fits any W4 h = tt
word_width_fits any W8 h = h

-- ---- the fields of each shape of row

-- two operands of a width
pub pair_encodes : (any lock : Bool) (w : Width) (escape : Bool) (op : ℕ) (g e : Place) (row : Row)
    (insn : Insn) → WidthFits any w → SizedFits any w g → is_memory g ≡ false → SizedFits any w e
    → op % 2 ≡ 0 → ModrmRow escape (is_wide w) (opcode_of_width w op) (register_number g) e row
    → (lock ≡ true → (row.locks ≡ true) × (is_memory e ≡ true)) → row.imm ≡ 0
    → ((f : Fields) → f.op ≡ opcode_of_width w op → operand_width f ≡ w → rm_place f ≡ e
    → reg_place f ≡ g → f.lock ≡ lock
    → insn_of row.form f [] ≡ insn) → IsEncoding (reg_rm_bytes lock w escape op g e) insn
unfolding reg_rm_bytes fields_of operand_width rm_place reg_place
pair_encodes any lock w escape op g e row insn wide hg flat he even r locks size says =
    let asked = asks_rex w g || asks_rex w e in
    let reg = register_number g in
    let made = asked || is_wide w || is_upper reg || has_upper_index e || has_upper_base e in
    let low : any ≡ false → made ≡ false =
    λ k. none asked (is_wide w) (is_upper reg) (has_upper_index e) (has_upper_base e)
    (or_from (asks_rex w g) (asks_rex w e) (asks_no any w g hg k) (asks_no any w e he k))
    (wide_no any w wide k) (number_no any g hg.fits k) (index_no any e he.fits k)
    (base_no any e he.fits k) in
    let up : asked ≡ true → made ≡ true =
    λ k. some asked (is_wide w) (is_upper reg) (has_upper_index e) (has_upper_base e) k in
    let ng = named_is any made w g hg low (λ k. up (or_left (asks_rex w g) (asks_rex w e) k)) in
    let ne = named_is any made w e he low (λ k. up (or_right (asks_rex w g) (asks_rex w e) k)) in
    let wd = width_is w op even in
    bare (opcode_with_modrm lock (is_wide w) asked escape (opcode_of_width w op) reg e) insn
    (modrm_encodes lock (is_wide w) asked escape (opcode_of_width w op) reg e row [] insn
    (place_up any e he.fits) r locks (sym size) (omega (arith, size)) tt
    (λ m k. says (fields_of (modrm_lead lock (is_wide w) asked reg e) (opcode_of_width w op) m
    (raw e)) refl wd (ap (λ x. sized_place x made (raw e)) wd
    ∙ place_is w made e ne) (ap (λ x. register_named x made
    (reg_with_bit (is_upper reg)
    (m / 8 % 8))) wd ∙ register_is w made g (m / 8 % 8) ng flat (number_up any g hg.fits) k) refl))

-- one operand of a width, and a number
pub single_encodes : (any lock : Bool) (w : Width) (op reg : ℕ) (e : Place) (row : Row)
    (imm : List ℕ) (insn : Insn) → WidthFits any w → reg < 8 → SizedFits any w e → op % 2 ≡ 0
    → ModrmRow false (is_wide w) (opcode_of_width w op) reg e row
    → (lock ≡ true → (row.locks ≡ true) × (is_memory e ≡ true)) → length imm ≡ row.imm → row.imm ≤ 4
    → AreBytes imm → ((f : Fields) → operand_width f ≡ w → rm_place f ≡ e → f.m / 8 % 8 ≡ reg
    → f.lock ≡ lock → insn_of row.form f imm ≡ insn) → IsEncoding (rm_bytes lock w op reg e
    ++ imm) insn
unfolding rm_bytes fields_of operand_width rm_place
single_encodes any lock w op reg e row imm insn wide lt he even r locks long short are says =
    let asked = asks_rex w e in
    let made = asked || is_wide w || is_upper reg || has_upper_index e || has_upper_base e in
    let low : any ≡ false → made ≡ false =
    λ k. none asked (is_wide w) (is_upper reg) (has_upper_index e) (has_upper_base e)
    (asks_no any w e he k) (wide_no any w wide k) (upper_no reg lt) (index_no any e he.fits k)
    (base_no any e he.fits k) in
    let ne = named_is any made w e he low
    (λ k. some asked (is_wide w) (is_upper reg) (has_upper_index e) (has_upper_base e) k) in
    let wd = width_is w op even in
    let small : reg % 8 ≡ reg = omega arith in
    modrm_encodes lock (is_wide w) asked false (opcode_of_width w op) reg e row imm insn
    (place_up any e he.fits) r locks long short are
    (λ m k. says (fields_of (modrm_lead lock (is_wide w) asked reg e) (opcode_of_width w op) m
    (raw e)) wd (ap (λ x. sized_place x made (raw e)) wd ∙ place_is w made e ne) (k
    ∙ small) refl)

abbrev pub IsLow : Place → Type 0
IsLow (Reg n) = Unit {0}
IsLow (High n) = ⊥
IsLow (At m) = Unit {0}

raw_is : (e : Place) → IsLow e → raw e ≡ e
raw_is (Reg n) h = refl
raw_is (High n) h = absurd h
raw_is (At m) h = refl

-- a register, an operand without byte registers, and a number
pub word_encodes : (any : Bool) (w : Width) (escape : Bool) (op reg : ℕ) (e : Place) (row : Row)
    (imm : List ℕ) (insn : Insn) → IsWord any w → reg < 16 → PlaceFits 16 e → IsLow e
    → ModrmRow escape (is_wide w) op reg e row → length imm ≡ row.imm → row.imm ≤ 4 → AreBytes imm
    → ((f : Fields) → f.op ≡ op → rex_width f ≡ w → f.place ≡ e → reg_number f ≡ reg
    → f.m / 8 % 8 ≡ reg % 8 → insn_of row.form f imm
    ≡ insn) → IsEncoding (word_rm_bytes w escape op reg e ++ imm) insn
unfolding word_rm_bytes fields_of rex_width reg_number
word_encodes any w escape op reg e row imm insn wide lt fits is r long short are says =
    modrm_encodes false (is_wide w) false escape op reg e row imm insn fits r (λ k. absurd cc) long
    short are
    (λ m k. says (fields_of (modrm_lead false (is_wide w) false reg e) op m (raw e)) refl
    (word_is any w wide) (raw_is e is) (ap (reg_with_bit (is_upper reg)) k
    ∙ extended_is reg lt) k)

-- a register, and an operand of one byte
pub byte_encodes : (any : Bool) (w : Width) (op reg : ℕ) (e : Place) (row : Row) (insn : Insn)
    → IsWord any w → reg < limit any → SizedFits any W1 e → ModrmRow true (is_wide w) op reg e row
    → row.imm ≡ 0 → ((f : Fields) → f.op ≡ op → rex_width f ≡ w → byte_rm_place f ≡ e
    → reg_number f ≡ reg → insn_of row.form f []
    ≡ insn) → IsEncoding (byte_rm_bytes w op reg e) insn
unfolding byte_rm_bytes fields_of rex_width byte_rm_place reg_number
byte_encodes any w op reg e row insn wide lt he r size says =
    let asked = asks_rex W1 e in
    let made = asked || is_wide w || is_upper reg || has_upper_index e || has_upper_base e in
    let low : any ≡ false → made ≡ false =
    λ k. none asked (is_wide w) (is_upper reg) (has_upper_index e) (has_upper_base e)
    (asks_no any W1 e he k) (wide_no any w (word_width_fits any w wide) k) (reg_no any lt k)
    (index_no any e he.fits k) (base_no any e he.fits k) in
    let ne = named_is any made W1 e he low
    (λ k. some asked (is_wide w) (is_upper reg) (has_upper_index e) (has_upper_base e) k) in
    let le = limit_low any in
    bare (opcode_with_modrm false (is_wide w) asked true op reg e) insn
    (modrm_encodes false (is_wide w) asked true op reg e row [] insn (place_up any e he.fits) r
    (λ k. absurd cc) (sym size) (omega (arith, size)) tt
    (λ m k. says (fields_of (modrm_lead false (is_wide w) asked reg e) op m (raw e)) refl
    (word_is any w wide) (place_is W1 made e ne) (ap (reg_with_bit (is_upper reg)) k
    ∙ extended_is reg (omega arith))))
  where
    reg_no : (any : Bool) → reg < limit any → any ≡ false → is_upper reg ≡ false
    reg_no true h k = absurd cc
    reg_no false h k = upper_no reg h
