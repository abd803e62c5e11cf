-- How an instruction is written. Own: not the SDM's notation.
use Rattle.std.specs.Prelude.{ℕ, ◌==◌, if◌then◌else◌, Bool, true, false, Option, Some, None, List}
use Rattle.std.specs.Prelude.{[], ◌∷◌, ◌++◌, codes, ℤ}
use Rattle.std.specs.Fmt.{decimal, signed_decimal}
use Rattle.std.specs.Int.{is_negative}
use Rattle.erim_defs.specs.declared.insn.Width.{Width}
use Rattle.erim_defs.specs.declared.insn.Width.TheVariants.{W1, W4, W8}
use Rattle.erim_defs.specs.declared.insn.Base.{Base}
use Rattle.erim_defs.specs.declared.insn.Base.TheVariants as bases
use Rattle.erim_defs.specs.declared.insn.Mem.{Mem}
use Rattle.erim_defs.specs.declared.insn.Place.{Place}
use Rattle.erim_defs.specs.declared.insn.Place.TheVariants.{Reg, High, At}
use Rattle.erim_defs.specs.declared.insn.Src.{Src}
use Rattle.erim_defs.specs.declared.insn.Src.TheVariants.{From, Imm}
use Rattle.erim_defs.specs.declared.insn.By.{By}
use Rattle.erim_defs.specs.declared.insn.By.TheVariants.{Count, Cl}
use Rattle.erim_defs.specs.declared.insn.AluOp.{AluOp}
use Rattle.erim_defs.specs.declared.insn.AluOp.TheVariants.{Add, Or, Adc, Sbb, And, Sub, Xor, Cmp}
use Rattle.erim_defs.specs.declared.insn.ShiftOp.{ShiftOp}
use Rattle.erim_defs.specs.declared.insn.ShiftOp.TheVariants.{Shl, Shr, Sar}
use Rattle.erim_defs.specs.declared.insn.UnaryOp.{UnaryOp}
use Rattle.erim_defs.specs.declared.insn.UnaryOp.TheVariants.{Not, Neg, Inc, Dec}
use Rattle.erim_defs.specs.declared.insn.Insn.{Insn}
use Rattle.erim_defs.specs.declared.insn.Insn.TheVariants.{Alu, Test, Xchg, Mov, MovWide, Lea, Push}
use Rattle.erim_defs.specs.declared.insn.Insn.TheVariants.{Pop, MovSxd, MovZx, MovSx, Imul, Jcc}
use Rattle.erim_defs.specs.declared.insn.Insn.TheVariants.{Jmp, Call, JmpTo, CallTo, Ret, Leave}
use Rattle.erim_defs.specs.declared.insn.Insn.TheVariants.{Widen, Spread, Shift, Unary, Cmov, Set}
use Rattle.erim_defs.specs.declared.insn.Insn.TheVariants.{Bt, Cmpxchg, Xadd, Syscall, Wrpkru}
use Rattle.erim_defs.specs.declared.insn.Insn.TheVariants.{Rdpkru, Xrstor, Fence, Nop}
use Rattle.erim_defs.specs.Output.Texts.{line, address_text}

-- ---- operands

abbrev pub register_text : ℕ → List ℕ
register_text r = codes "r" ++ decimal r

abbrev pub base_text : Base → List ℕ
base_text bases.Zero = codes "0"
base_text (bases.Reg r) = register_text r
base_text bases.Rip = codes "rip"

-- 2 ^ scale, where scale is 0 to 3
abbrev pub scale_text : ℕ → List ℕ
scale_text scale =
    if scale == 0 then codes "1" else
    (if scale == 1 then codes "2" else (if scale == 2 then codes "4" else codes "8"))

abbrev pub index_text : Option ℕ → ℕ → List ℕ
index_text None scale = []
index_text (Some r) scale = codes "+" ++ register_text r ++ codes "*" ++ scale_text scale

-- a displacement always has a sign
abbrev pub displacement_text : ℤ → List ℕ
displacement_text n = (if is_negative n then [] else codes "+") ++ signed_decimal n

abbrev pub memory_text : Mem → List ℕ
memory_text m =
    codes "[" ++ base_text m.base ++ index_text m.index m.scale ++ displacement_text m.disp ++
    codes "]"

abbrev pub place_text : Place → List ℕ
place_text (Reg r) = register_text r
place_text (High h) = codes "h" ++ decimal h
place_text (At m) = memory_text m

abbrev pub source_text : Src → List ℕ
source_text (From p) = place_text p
source_text (Imm n) = signed_decimal n

abbrev pub by_text : By → List ℕ
by_text (Count n) = decimal n
by_text Cl = codes "cl"

-- ---- names

abbrev pub alu_name : AluOp → List ℕ
alu_name Add = codes "add"
alu_name Or = codes "or"
alu_name Adc = codes "adc"
alu_name Sbb = codes "sbb"
alu_name And = codes "and"
alu_name Sub = codes "sub"
alu_name Xor = codes "xor"
alu_name Cmp = codes "cmp"

abbrev pub shift_name : ShiftOp → List ℕ
shift_name Shl = codes "shl"
shift_name Shr = codes "shr"
shift_name Sar = codes "sar"

abbrev pub unary_name : UnaryOp → List ℕ
unary_name Not = codes "not"
unary_name Neg = codes "neg"
unary_name Inc = codes "inc"
unary_name Dec = codes "dec"

abbrev pub lock_text : Bool → List ℕ
lock_text true = codes "lock "
lock_text false = []

abbrev pub width_text : Option Width → List ℕ
width_text None = []
width_text (Some W1) = codes "1"
width_text (Some W4) = codes "4"
width_text (Some W8) = codes "8"

-- ---- instructions

-- with a comma and a space between
abbrev pub comma_list : List (List ℕ) → List ℕ
comma_list [] = []
comma_list (x ∷ []) = x
comma_list (x ∷ y ∷ ys) = x ++ codes ", " ++ comma_list (y ∷ ys)

-- operands, with a space before them where there are any
abbrev pub operands_text : List (List ℕ) → List ℕ
operands_text [] = []
operands_text (x ∷ xs) = codes " " ++ comma_list (x ∷ xs)

-- What an instruction is written with: whether it is locked, its name, its width where it has one,
-- and its operands.
pub record InsnNotation : Type 0 where
  pub lock : Bool
  pub name : List ℕ
  pub width : Option Width
  pub operands : List (List ℕ)

abbrev pub notation_with : Bool → List ℕ → Option Width → List (List ℕ) → InsnNotation
notation_with lock name width operands =
    record { lock = lock; name = name; width = width; operands = operands }

-- the operands stand in the order of the instruction's fields
unfoldable pub notation_of : Insn → InsnNotation
notation_of (Alu op w dst src lock) =
    notation_with lock (alu_name op) (Some w) (place_text dst ∷ source_text src ∷ [])
notation_of (Test w a src) =
    notation_with false (codes "test") (Some w) (place_text a ∷ source_text src ∷ [])
notation_of (Xchg w a r lock) =
    notation_with lock (codes "xchg") (Some w) (place_text a ∷ place_text r ∷ [])
notation_of (Mov w dst src) =
    notation_with false (codes "mov") (Some w) (place_text dst ∷ source_text src ∷ [])
notation_of (MovWide r imm) =
    notation_with false (codes "movwide") None (register_text r ∷ decimal imm ∷ [])
notation_of (Lea w r m) =
    notation_with false (codes "lea") (Some w) (register_text r ∷ memory_text m ∷ [])
notation_of (Push src) = notation_with false (codes "push") None (source_text src ∷ [])
notation_of (Pop r) = notation_with false (codes "pop") None (register_text r ∷ [])
notation_of (MovSxd r src) =
    notation_with false (codes "movsxd") None (register_text r ∷ place_text src ∷ [])
notation_of (MovZx w r from src) =
    notation_with false (codes "movzx") (Some w) (register_text r ∷ decimal from ∷
    place_text src ∷ [])
notation_of (MovSx w r from src) =
    notation_with false (codes "movsx") (Some w) (register_text r ∷ decimal from ∷
    place_text src ∷ [])
notation_of (Imul w r a None) =
    notation_with false (codes "imul") (Some w) (register_text r ∷ place_text a ∷ [])
notation_of (Imul w r a (Some b)) =
    notation_with false (codes "imul") (Some w) (register_text r ∷ place_text a ∷
    signed_decimal b ∷ [])
notation_of (Jcc c rel) =
    notation_with false (codes "jcc") None (decimal c ∷ signed_decimal rel ∷ [])
notation_of (Jmp rel) = notation_with false (codes "jmp") None (signed_decimal rel ∷ [])
notation_of (Call rel) = notation_with false (codes "call") None (signed_decimal rel ∷ [])
notation_of (JmpTo to) = notation_with false (codes "jmpto") None (place_text to ∷ [])
notation_of (CallTo to) = notation_with false (codes "callto") None (place_text to ∷ [])
notation_of Ret = notation_with false (codes "ret") None []
notation_of Leave = notation_with false (codes "leave") None []
notation_of (Widen w) = notation_with false (codes "widen") (Some w) []
notation_of (Spread w) = notation_with false (codes "spread") (Some w) []
notation_of (Shift op w dst by) =
    notation_with false (shift_name op) (Some w) (place_text dst ∷ by_text by ∷ [])
notation_of (Unary op w dst lock) =
    notation_with lock (unary_name op) (Some w) (place_text dst ∷ [])
notation_of (Cmov c w r src) =
    notation_with false (codes "cmov") (Some w) (decimal c ∷ register_text r ∷ place_text src ∷ [])
notation_of (Set c dst) = notation_with false (codes "set") None (decimal c ∷ place_text dst ∷ [])
notation_of (Bt w a bit) =
    notation_with false (codes "bt") (Some w) (place_text a ∷ decimal bit ∷ [])
notation_of (Cmpxchg w dst r lock) =
    notation_with lock (codes "cmpxchg") (Some w) (place_text dst ∷ place_text r ∷ [])
notation_of (Xadd w dst r lock) =
    notation_with lock (codes "xadd") (Some w) (place_text dst ∷ place_text r ∷ [])
notation_of Syscall = notation_with false (codes "syscall") None []
notation_of Wrpkru = notation_with false (codes "wrpkru") None []
notation_of Rdpkru = notation_with false (codes "rdpkru") None []
notation_of (Xrstor m) = notation_with false (codes "xrstor") None (memory_text m ∷ [])
notation_of (Fence kind) = notation_with false (codes "fence") None (decimal kind ∷ [])
notation_of Nop = notation_with false (codes "nop") None []

unfoldable pub insn_text : Insn → List ℕ
insn_text insn =
    let w = notation_of insn in lock_text w.lock ++ w.name ++ width_text w.width ++
    operands_text w.operands

-- an instruction at an address
unfoldable pub insn_line : ℕ → Insn → List ℕ
insn_line a insn = line (address_text a ++ codes " " ++ insn_text insn)
