-- Where an instruction that was fetched stands, and how long it may be.
use Rattle.std.specs.Prelude.{ℕ, ◌<◌, ◌≤◌, ◌^◌}

-- its address, its length, and how many of its bytes stand before the opcode
abbrev pub IsInReach : ℕ → ℕ → ℕ → Type 0
IsInReach rip len skip = (rip < 2 ^ 47) × (len ≤ 15) × (skip ≤ len)
