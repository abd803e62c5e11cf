-- What an instruction looks at. Own.
use Rattle.std.specs.Prelude.{ℕ, true, false, Option, Some, None, List, [], ◌++◌}
use Rattle.erim_defs.specs.Machine.Pages.{ByteMap, word}
use Rattle.erim_defs.specs.Machine.Access.{Seen, stop}
use Rattle.erim_defs.specs.Machine.Plan.{Plan, Ask, Give, Refuse, Call, Write}
use Rattle.page_store.specs.Notes.{looked_access, unless_stopped}

abbrev pub looked_write : Option Write → Seen → ℕ → List ℕ
looked_write None seen pkru = []
looked_write (Some w) seen pkru = looked_access seen true pkru w.addr w.count

-- the bytes that an instruction looks at, up to the first that stops it, that one too
unfoldable pub looked_addresses : Plan → Seen → ByteMap → ℕ → List ℕ
looked_addresses (Ask a n k) seen bytes pkru = looked_access seen false pkru a n
    ++ unless_stopped (stop seen false pkru a n) (looked_addresses (k
    (word bytes a n)) seen bytes pkru)
looked_addresses (Give t w) seen bytes pkru = looked_write w seen pkru
looked_addresses Refuse seen bytes pkru = []
looked_addresses Call seen bytes pkru = []
