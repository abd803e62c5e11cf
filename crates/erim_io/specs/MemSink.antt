-- A sink in memory: its room, what it was given, and which of its calls fail. Own.
use Rattle.std.specs.Prelude.{ℕ, ◌+◌, ◌-◌, ◌^◌, ◌==◌, ◌&&◌, ◌||◌, nat_lt, min, Bool, Result, Ok}
use Rattle.std.specs.Prelude.{Err, List, ◌++◌, take, length, if◌then◌else◌}
use Rattle.erim_io.specs.declared.sink.Failed.{Failed}
use Rattle.erim_io.specs.MemStore.{is_listed, next_call}

-- what was written, how many bytes there is room for in all, the numbers of the calls that fail,
-- how many calls there were, and how many of them failed
pub record MemSinkValue : Type 0 where
  pub written : List ℕ
  pub room : ℕ
  pub failing : List ℕ
  pub calls : ℕ
  pub faults : ℕ

-- how many of the bytes there is room for
abbrev pub taken_of : MemSinkValue → List ℕ → ℕ
taken_of sink bytes = min (sink.room - length sink.written) (length bytes)

-- the next put fails: its number says so, or the piece isn't empty and no room is left
abbrev pub refuses : MemSinkValue → List ℕ → Bool
refuses sink bytes =
    is_listed sink.failing sink.calls || (nat_lt 0 (length bytes) && taken_of sink bytes == 0)

-- the answer to the next put
abbrev pub put_answer : MemSinkValue → List ℕ → Result ℕ Failed
put_answer sink bytes = if refuses sink bytes then Err (record {}) else Ok (taken_of sink bytes)

-- the sink after the next put; the count of faults stops at 2^64 - 1
abbrev pub after_put : MemSinkValue → List ℕ → MemSinkValue
after_put sink bytes =
    if refuses sink bytes
    then record sink { calls = next_call sink.calls; faults = min (sink.faults + 1) (2 ^ 64 - 1) }
    else record sink {
      calls = next_call sink.calls;
      written = sink.written ++ take (taken_of sink bytes) bytes;
    }
