use Rattle.std.proofs.Common.{◌≡◌, []}
use Rattle.erim_defs.specs.Inspection.Image.{headers, shared_fault}
use Rattle.elf_image.specs.Table.{headers_left, seen_headers}
use Rattle.elf_image.proofs.headers.shared_fault.Given as goal

abbrev pub invariant-loop-index : goal.invariant-loop-index
invariant-loop-index l =
    shared_fault l.index (seen_headers l.bytes l.index) (headers_left l.bytes l.index)
    ≡ shared_fault 0 [] (headers l.bytes)
