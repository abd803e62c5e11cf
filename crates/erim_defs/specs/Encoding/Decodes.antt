-- What bytes begin with. Own: the SDM speaks of whole instructions only.
use Rattle.std.specs.Prelude.{◌≡◌, ℕ, ◌<◌, ◌≤◌, List, ◌++◌, length, take}
use Rattle.erim_defs.specs.declared.insn.Decoded.{Decoded}
use Rattle.erim_defs.specs.declared.insn.Decoded.TheVariants as outcomes
use Rattle.erim_defs.specs.declared.insn.Insn.{Insn}
use Rattle.erim_defs.specs.Encoding.Grammar.{Encodes}

-- some encoding is more than these bytes
pub record BeginsEncoding (bytes : List ℕ) : Type 0 where
  pub tail : List ℕ
  pub insn : Insn
  pub skip : ℕ
  pub encodes : Encodes (bytes ++ tail) insn skip
  pub more : 0 < length tail

-- no encoding begins the bytes, and they begin none
abbrev pub MeetsNone : List ℕ → Type 0
MeetsNone bytes =
    (encoding : List ℕ) (insn : Insn) (skip : ℕ) (x y : List ℕ) → Encodes encoding insn skip
    → bytes ++ x ≡ encoding ++ y → ⊥

-- an instruction whose encoding begins the bytes, the beginning of one, or neither
abbrev pub Decodes : List ℕ → Decoded → Type 0
Decodes bytes (outcomes.Insn insn len skip) =
    (len ≤ length bytes) × Encodes (take len bytes) insn skip
Decodes bytes outcomes.Short = BeginsEncoding bytes
Decodes bytes outcomes.Undefined = MeetsNone bytes

-- the encodings are prefix-free, and each has one instruction: where two begin the same bytes they
-- are one
abbrev pub PrefixFree : Type 0
PrefixFree =
    (s t : List ℕ) (i j : Insn) (m n : ℕ) (x y : List ℕ) → Encodes s i m → Encodes t j n
    → s ++ x ≡ t ++ y → (s ≡ t) × (i ≡ j) × (m ≡ n)

-- an encoding that begins the bytes is decoded, whatever follows it
abbrev pub DecodesEncodings : List ℕ → Decoded → Type 0
DecodesEncodings bytes result =
    (encoding rest : List ℕ) (insn : Insn) (skip : ℕ) → Encodes encoding insn skip
    → bytes ≡ encoding ++ rest → result ≡ outcomes.Insn insn (length encoding) skip

-- the lengths of an answer: an instruction has at least a byte and at most 15 of those given, and
-- its opcode is one of them
abbrev pub IsWhole : List ℕ → Decoded → Type 0
IsWhole bytes (outcomes.Insn insn len skip) =
    (0 < len) × (len ≤ 15) × (len ≤ length bytes) × (skip ≤ len)
IsWhole bytes outcomes.Undefined = Unit {0}
IsWhole bytes outcomes.Short = Unit {0}
