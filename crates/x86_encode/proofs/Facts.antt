-- What is known of the parts of an instruction that is encoded.
use Rattle.std.proofs.Common.{◌≡◌, ℕ, ◌+◌, ◌%◌, ◌<◌, ◌==◌, Bool, true, false, Option, Some, None}
use Rattle.std.specs.Prelude.{FitsSigned}
use Rattle.std.specs.Int.{w32}
use Rattle.erim_defs.specs.declared.insn.Base.{Base}
use Rattle.erim_defs.specs.declared.insn.Base.TheVariants as bases
use Rattle.erim_defs.specs.declared.insn.Mem.{Mem}
use Rattle.erim_defs.specs.declared.insn.Place.{Place}
use Rattle.erim_defs.specs.declared.insn.Place.TheVariants.{Reg, High, At}

-- how many registers can be named, with REX and without
abbrev pub limit : Bool → ℕ
limit true = 16
limit false = 8

abbrev pub BaseFits : ℕ → Base → Type 0
BaseFits k bases.Zero = Unit {0}
BaseFits k (bases.Reg n) = n < k
BaseFits k bases.Rip = Unit {0}

-- 4 is no index
abbrev pub IndexFits : ℕ → Option ℕ → Type 0
IndexFits k None = Unit {0}
IndexFits k (Some n) = (n < k) × ((n == 4) ≡ false)

-- the scale of no index is 0
abbrev pub ScaleFits : Option ℕ → ℕ → Type 0
ScaleFits None scale = scale ≡ 0
ScaleFits (Some n) scale = scale < 4

-- RIP has no index
abbrev pub RipFits : Base → Option ℕ → Type 0
RipFits bases.Zero index = Unit {0}
RipFits (bases.Reg n) index = Unit {0}
RipFits bases.Rip index = index ≡ None

pub record MemFits (k : ℕ) (m : Mem) : Type 0 where
  pub base : BaseFits k m.base
  pub index : IndexFits k m.index
  pub scale : ScaleFits m.index m.scale
  pub rip : RipFits m.base m.index
  pub disp : FitsSigned w32 m.disp

abbrev pub PlaceFits : ℕ → Place → Type 0
PlaceFits k (Reg n) = n < k
PlaceFits k (High n) = n < 4
PlaceFits k (At m) = MemFits k m

abbrev pub is_memory : Place → Bool
is_memory (Reg n) = false
is_memory (High n) = false
is_memory (At m) = true

-- what ModRM names, before it is known whether the registers are of bytes
abbrev pub raw : Place → Place
raw (Reg n) = Reg n
raw (High n) = Reg (n % 4 + 4)
raw (At m) = At m
