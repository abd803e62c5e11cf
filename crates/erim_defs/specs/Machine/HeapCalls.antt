-- The trusted heap: calls that give blocks of memory to the trusted part, and take them back. Own.
-- A block has a multiple of 16 bytes, begins at a multiple of 16, and lies in one of the image's
-- ranges of trusted heap; of the places where it fits it takes the lowest.
use Rattle.std.specs.Prelude.{◌≡◌, ℕ, ◌+◌, ◌*◌, ◌/◌, ◌^◌, ◌==◌, ◌&&◌, not, nat_le, nat_lt, Bool}
use Rattle.std.specs.Prelude.{Option, Some, None, List, [], ◌∷◌, length, refl, if◌then◌else◌}
use Rattle.std.specs.List.{list_any}
use Rattle.erim_defs.specs.declared.limits.TheConstants.{BLOCK_UNIT, MOST_BLOCKS}
use Rattle.erim_defs.specs.declared.linux.TheConstants.{EINVAL, ENOMEM, EPERM}
use Rattle.erim_defs.specs.declared.machine.Thread.{Thread}
use Rattle.erim_defs.specs.declared.trust.Span.{Span}
use Rattle.erim_defs.specs.Inspection.Image.{image_heaps}
use Rattle.erim_defs.specs.Machine.CallResult.{CallResult, Refusal, Answer, no_change, or_refuse}
use Rattle.erim_defs.specs.Machine.Least.{least_below}
use Rattle.erim_defs.specs.declared.page.TheConstants.{TRUSTED_KEY}
use Rattle.erim_defs.specs.Machine.Domains.{opens_domain}
use Rattle.erim_defs.specs.Machine.State.{State, trust_of}

-- ---- where a block fits

-- how many units of 16 bytes a given number of bytes take, rounded up
abbrev pub unit_count : ℕ → ℕ
unit_count len = (len + 15) / 16

-- a given number of units from one on
abbrev pub block_at : ℕ → ℕ → Span
block_at unit count = record { start = BLOCK_UNIT * unit; length = BLOCK_UNIT * count }

abbrev pub lies_within : Span → Span → Bool
lies_within block heap =
    nat_le heap.start block.start && nat_le (block.start + block.length) (heap.start + heap.length)

-- they have a byte in common
abbrev pub meets : Span → Span → Bool
meets block other =
    nat_lt block.start (other.start + other.length)
    && nat_lt other.start (block.start + block.length)

-- it lies in one heap, and no live block lies there
abbrev pub is_fit : List Span → List Span → Span → Bool
is_fit heaps blocks block =
    list_any (lies_within block) heaps && not (list_any (meets block) blocks)

-- 2^43, the number of units of user memory; sealed, so that no proof counts up to it
pub last_unit : ℕ
last_unit = 2 ^ 43

pub last_unit_is : last_unit ≡ 2 ^ 43
unfolding last_unit
last_unit_is = refl

-- the lowest unit from which on a given number fit
unfoldable pub first_fit : List Span → List Span → ℕ → Option ℕ
first_fit heaps blocks count =
    least_below last_unit (λ unit. is_fit heaps blocks (block_at unit count))

-- ---- the live blocks, by rising address

unfoldable pub with_block : Span → List Span → List Span
with_block block [] = block ∷ []
with_block block (b ∷ bs) =
    if nat_lt block.start b.start then block ∷ b ∷ bs else b ∷ with_block block bs

abbrev pub starts_at : ℕ → Span → Bool
starts_at addr block = block.start == addr

unfoldable pub without_block : ℕ → List Span → List Span
without_block addr [] = []
without_block addr (b ∷ bs) =
    if starts_at addr b then without_block addr bs else b ∷ without_block addr bs

-- ---- talloc and tfree

abbrev pub talloc_from : State → Thread → ℕ → Option ℕ → CallResult
talloc_from s t count None = Refusal ENOMEM
talloc_from s t count (Some unit) =
    Answer (BLOCK_UNIT * unit)
    (let c = no_change s t in record c { blocks = with_block (block_at unit count) s.blocks })

-- talloc(len)
unfoldable pub talloc_result : State → Thread → ℕ → CallResult
talloc_result s t len =
    or_refuse (not (opens_domain (trust_of s) t.pkru TRUSTED_KEY)) EPERM
    (or_refuse (len == 0) EINVAL
    (or_refuse (nat_le MOST_BLOCKS (length s.blocks)) ENOMEM
    (talloc_from s t (unit_count len)
    (first_fit (image_heaps s.setup.image) s.blocks (unit_count len)))))

-- tfree(addr)
unfoldable pub tfree_result : State → Thread → ℕ → CallResult
tfree_result s t addr =
    or_refuse (not (opens_domain (trust_of s) t.pkru TRUSTED_KEY)) EPERM
    (or_refuse (not (list_any (starts_at addr) s.blocks)) EINVAL
    (Answer 0 (let c = no_change s t in record c { blocks = without_block addr s.blocks })))
