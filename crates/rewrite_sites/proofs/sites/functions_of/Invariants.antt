use Rattle.std.proofs.Common.{◌≡◌, map, take}
use Rattle.erim_defs.specs.Inspection.Image.{image_functions}
use Rattle.erim_defs.specs.Rewriting.NewFile.{function_of}
use Rattle.rewrite_sites.proofs.sites.functions_of.Given as goal

abbrev pub invariant-loop-span : goal.invariant-loop-span
invariant-loop-span l = l.functions.items
    ≡ map (function_of l.image) (take l.span-index (image_functions l.image))
