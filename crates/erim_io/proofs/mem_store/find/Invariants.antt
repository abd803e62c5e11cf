-- None of the files that the loop has passed has the name.
use Rattle.std.proofs.Common.{◌≡◌, drop}
use Rattle.erim_io.specs.MemStore.{file_in, files_of}
use Rattle.erim_io.proofs.mem_store.find.Given as goal

abbrev pub invariant-loop-held : goal.invariant-loop-held
invariant-loop-held l = file_in (files_of l.files) l.name
    ≡ file_in (files_of (drop l.held-index l.files)) l.name
