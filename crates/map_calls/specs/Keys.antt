-- The key that a call names. Linux: pkeys(7). Own.
use Rattle.std.specs.Prelude.{◌≡◌, ℕ, ◌<◌, ◌%◌, ◌^◌, ◌==◌, ◌&&◌, not, nat_lt, Bool, true, false}
use Rattle.std.specs.Prelude.{Option}
use Rattle.std.specs.Prelude.{Some, None, IfSome, Result, Ok, Err, if◌then◌else◌}
use Rattle.erim_defs.specs.declared.linux.TheConstants.{ANY_KEY, EINVAL, KEYS}
use Rattle.erim_defs.specs.declared.machine.Keys.{Keys}
use Rattle.erim_defs.specs.Bits.{has_bit}
use Rattle.erim_defs.specs.Machine.State.{State}

-- the keys of a state
abbrev pub SeesKeys : Keys → State → Type 0
SeesKeys keys s = (k : ℕ) → k < 16 → s.keys k ≡ has_bit keys.taken k

-- the key that a number names, or none where it leaves the keys of pages
abbrev pub named_key : ℕ → Option ℕ
named_key number = if number % 2 ^ 32 == ANY_KEY then None else Some (number % 2 ^ 32)

abbrev pub is_held : Keys → ℕ → Bool
is_held keys key = nat_lt key KEYS && has_bit keys.taken key

-- a key isn't allocated
abbrev pub is_unheld : Keys → Option ℕ → Bool
is_unheld keys None = false
is_unheld keys (Some key) = not (is_held keys key)

-- what a number names, or EINVAL
abbrev pub NamesKey : Keys → ℕ → Result (Option ℕ) ℕ → Type 0
NamesKey keys number (Err e) = (e ≡ EINVAL) × (is_unheld keys (named_key number) ≡ true)
NamesKey keys number (Ok key) =
    (key ≡ named_key number) × (is_unheld keys key ≡ false) × IfSome key (λ k. k < 16)
