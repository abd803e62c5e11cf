-- Threads by their numbers.
use Rattle.std.proofs.Common.{◌≡◌, ◌∙◌, ℕ, ◌<◌, List, length, Some, sym, ap}
use Rattle.std.proofs.lemmas.Option.{slice_get-get_or}
use Rattle.std.specs.Prelude.{slice_get, slice_index_or}
use Rattle.erim_defs.specs.declared.machine.Thread.{Thread}

-- the thread that is read is the one of that number
pub thread_of : (threads : List Thread) (t : ℕ) (thread : Thread) → t < length threads
    → ((d : Thread) → thread ≡ slice_index_or threads t d) → slice_get threads t ≡ Some thread
thread_of threads t thread low is = slice_get-get_or threads t thread low
    ∙ ap Some (sym (is thread))
