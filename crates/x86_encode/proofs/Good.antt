-- What is known of an instruction that is encoded, with REX or without.
use Rattle.std.proofs.Common.{◌⊎◌, ◌≡◌, ℕ, ◌^◌, ◌<◌, ◌&&◌, Bool, true, false, Option, Some, None, ℤ}
use Rattle.std.specs.Prelude.{FitsSigned}
use Rattle.std.specs.Int.{w8, w32}
use Rattle.erim_defs.specs.declared.insn.By.{By}
use Rattle.erim_defs.specs.declared.insn.By.TheVariants.{Count, Cl}
use Rattle.erim_defs.specs.declared.insn.Insn.{Insn}
use Rattle.erim_defs.specs.declared.insn.Insn.TheVariants.{Alu, Test, Xchg, Mov, MovWide, Lea, Push}
use Rattle.erim_defs.specs.declared.insn.Insn.TheVariants.{Pop, MovSxd, MovZx, MovSx, Imul, Jcc}
use Rattle.erim_defs.specs.declared.insn.Insn.TheVariants.{Jmp, Call, JmpTo, CallTo, Widen, Spread}
use Rattle.erim_defs.specs.declared.insn.Insn.TheVariants.{Shift, Unary, Cmov, Set, Bt, Cmpxchg}
use Rattle.erim_defs.specs.declared.insn.Insn.TheVariants.{Xadd, Xrstor, Fence}
use Rattle.erim_defs.specs.declared.insn.Place.{Place}
use Rattle.erim_defs.specs.declared.insn.Src.{Src}
use Rattle.erim_defs.specs.declared.insn.Src.TheVariants.{From, Imm}
use Rattle.erim_defs.specs.declared.insn.Width.{Width}
use Rattle.erim_defs.specs.declared.insn.Width.TheVariants.{W1, W4, W8}
use Rattle.erim_defs.specs.Encoding.Canonical.{alu_number}
use Rattle.x86_encode.proofs.Facts.{limit, MemFits, PlaceFits, is_memory}
use Rattle.x86_encode.proofs.Views.{WidthFits, IsWord, SizedFits, IsLow}

abbrev pub NumberFits : Width → ℤ → Type 0
NumberFits W1 z = FitsSigned w8 z
NumberFits W4 z = FitsSigned w32 z
NumberFits W8 z = FitsSigned w32 z

-- not both are in memory
abbrev pub SrcFits : Bool → Width → Place → Src → Type 0
SrcFits any w dst (From p) = SizedFits any w p × ((is_memory dst && is_memory p) ≡ false)
SrcFits any w dst (Imm z) = NumberFits w z

-- a register, whatever is tested
abbrev pub TestedFits : Bool → Width → Src → Type 0
TestedFits any w (From p) = SizedFits any w p × (is_memory p ≡ false)
TestedFits any w (Imm z) = NumberFits w z

abbrev pub LockFits : Bool → Place → Type 0
LockFits lock dst = lock ≡ true → is_memory dst ≡ true

pub record ExchangeFits (any : Bool) (w : Width) (dst r : Place) (lock : Bool) : Type 0 where
  pub wide : WidthFits any w
  pub dst_fits : SizedFits any w dst
  pub register : SizedFits any w r
  pub flat : is_memory r ≡ false
  pub locked : LockFits lock dst

-- an operand without byte registers
pub record WordFits (p : Place) : Type 0 where
  pub fits : PlaceFits 16 p
  pub plain : IsLow p

abbrev pub PushFits : Src → Type 0
PushFits (From p) = WordFits p
PushFits (Imm z) = FitsSigned w32 z

pub record ExtendFits (any : Bool) (w : Width) (r from : ℕ) (src : Place) : Type 0 where
  pub wide : IsWord any w
  pub low : r < limit any
  pub each : ((from ≡ 1) × SizedFits any W1 src) ⊎ ((from ≡ 2) × WordFits src)

abbrev pub SomeFits : Option ℤ → Type 0
SomeFits None = Unit {0}
SomeFits (Some z) = FitsSigned w32 z

abbrev pub ByFits : By → Type 0
ByFits (Count k) = k < 256
ByFits Cl = Unit {0}

abbrev pub IsGood : Bool → Insn → Type 0
IsGood any (Alu op w dst src lock) = WidthFits any w × SizedFits any w dst × SrcFits any w dst src
    × LockFits lock dst × (lock ≡ true → alu_number op < 7)
IsGood any (Test w a src) = WidthFits any w × SizedFits any w a × TestedFits any w src
IsGood any (Xchg w a r lock) = ExchangeFits any w a r lock
IsGood any (Mov w dst src) = WidthFits any w × SizedFits any w dst × SrcFits any w dst src
IsGood any (MovWide r imm) = (r < 16) × (imm < 2 ^ 64)
IsGood any (Lea w r m) = IsWord any w × (r < 16) × MemFits 16 m
IsGood any (Push src) = PushFits src
IsGood any (Pop r) = r < 16
IsGood any (MovSxd r src) = (r < 16) × WordFits src
IsGood any (MovZx w r from src) = ExtendFits any w r from src
IsGood any (MovSx w r from src) = ExtendFits any w r from src
IsGood any (Imul w r a b) = IsWord any w × (r < 16) × WordFits a × SomeFits b
IsGood any (Jcc c rel) = (c < 16) × FitsSigned w32 rel
IsGood any (Jmp rel) = FitsSigned w32 rel
IsGood any (Call rel) = FitsSigned w32 rel
IsGood any (JmpTo to) = WordFits to
IsGood any (CallTo to) = WordFits to
IsGood any (Widen w) = IsWord any w
IsGood any (Spread w) = IsWord any w
IsGood any (Shift op w dst by) = WidthFits any w × SizedFits any w dst × ByFits by
IsGood any (Unary op w dst lock) = WidthFits any w × SizedFits any w dst × LockFits lock dst
IsGood any (Cmov c w r src) = (c < 16) × IsWord any w × (r < 16) × WordFits src
IsGood any (Set c dst) = (c < 16) × SizedFits any W1 dst
IsGood any (Bt w a k) = IsWord any w × WordFits a × (k < 256)
IsGood any (Cmpxchg w dst r lock) = ExchangeFits any w dst r lock
IsGood any (Xadd w dst r lock) = ExchangeFits any w dst r lock
IsGood any (Xrstor m) = MemFits 16 m
IsGood any (Fence kind) = (kind ≡ 5) ⊎ ((kind ≡ 6) ⊎ (kind ≡ 7))
IsGood any insn = Unit {0}
