-- What a call on protection keys answers. Own.
use Rattle.erim_defs.specs.Inspection.Trust.{TrustValue, is_domain}
use Rattle.std.specs.Prelude.{◌≡◌, ℕ, ◌==◌, ◌&&◌, nat_lt, not, Bool, Option, Result, Ok, Err}
use Rattle.erim_defs.specs.Bits.{has_bit}
use Rattle.erim_defs.specs.declared.machine.Keys.{Keys}
use Rattle.erim_defs.specs.declared.machine.Thread.{Thread}
use Rattle.erim_defs.specs.Machine.State.{State}
use Rattle.erim_defs.specs.Machine.CallResult.{CallResult, Refusal, Answer, no_change}
use Rattle.erim_defs.specs.Machine.Least.{least_below}

-- which keys are taken
abbrev pub key_map : Keys → ℕ → Bool
key_map keys = λ k. has_bit keys.taken k

abbrev pub least_free : Keys → Option ℕ
least_free keys = least_below 16 (λ key. nat_lt 1 key && not (key_map keys key))

-- a taken key that a program may free: no domain
abbrev pub is_freeable : TrustValue → Keys → ℕ → Bool
is_freeable trust keys key =
    (not (key == 0) && not (is_domain trust key)) && (nat_lt key 16 && key_map keys key)

-- a state with these keys, and a caller with this PKRU
pub record HasKeys (s : State) (t : Thread) (keys : Keys) (pkru : ℕ) : Type 0 where
  pub taken : s.keys ≡ key_map keys
  pub rights : t.pkru ≡ pkru

-- what came of a call: an error, or an answer with these keys and this PKRU
abbrev pub key_answer : State → Thread → Keys → ℕ → Result ℕ ℕ → CallResult
key_answer s t keys pkru (Err e) = Refusal e
key_answer s t keys pkru (Ok v) =
    Answer v (let c = no_change s t in record c { keys = key_map keys; pkru = pkru })
