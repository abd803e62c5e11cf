-- The functions of a table.
use Rattle.std.specs.Prelude.{ℕ, ◌+◌, ◌-◌, ◌*◌, Bool, List, [], ◌∷◌, zero, suc}
use Rattle.std.specs.List.{list_any}
use Rattle.erim_defs.specs.declared.segment.Segment.{Segment}
use Rattle.erim_defs.specs.declared.trust.Span.{Span}
use Rattle.erim_defs.specs.Inspection.Image.{function_at, functions_from, holds_function}
use Rattle.elf_image.specs.declared.functions.FunctionTable.{FunctionTable}

abbrev pub table_functions : List ℕ → FunctionTable → List Span
table_functions bytes table = functions_from bytes table.place table.count

-- the function of a number
unfoldable pub function_of : List ℕ → FunctionTable → ℕ → Span
function_of bytes table index = function_at bytes (table.place + 16 * index)

-- the functions from a number on
unfoldable pub functions_left : List ℕ → FunctionTable → ℕ → List Span
functions_left bytes table index =
    functions_from bytes (table.place + 16 * index) (table.count - index)

-- a given number of functions, the last first
unfoldable pub functions_seen : List ℕ → FunctionTable → ℕ → List Span
functions_seen bytes table zero = []
functions_seen bytes table (suc n) = function_of bytes table n ∷ functions_seen bytes table n

-- the last of them; where there is none, a range that ends at 0
abbrev pub last_seen : List Span → Span
last_seen [] = record { start = 0; length = 0 }
last_seen (f ∷ fs) = f

-- the file part of one of the segments has the function
unfoldable pub is_within : Span → List Segment → Bool
is_within f ss = list_any (holds_function f) ss
