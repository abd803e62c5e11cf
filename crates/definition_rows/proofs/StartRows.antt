-- The state at the start, computed on the small image. The stack, its end and the first thread's
-- values are own; the rest is after ELF-64, "Program loading".
use Rattle.std.proofs.Common.{◌≡◌, [], ◌∷◌, Some, None, false, true, map, refl}
use Rattle.erim_defs.specs.Inspection.Image.{number_at, headers_from, headers, loadable_segments}
use Rattle.erim_defs.specs.Inspection.Image.{page_total}
use Rattle.erim_defs.specs.Machine.Start.{frames_needed}
use Rattle.erim_defs.specs.Machine.State.{State}
use Rattle.definition_rows.proofs.SmallMachine.{small_image, small_setup, loaded_by, page}

state : State
unfolding loaded_by
state = loaded_by small_setup

-- code isn't published, and so can't be fetched before it is inspected
code_page : map state.rights (0x400 ∷ 0x401 ∷ []) ≡ None ∷ page 5 0 ∷ []
unfolding state
code_page = refl

-- trusted text is published
trusted_text :
    state.rights 0x402
    ≡ Some (record { read = true; write = false; exec = true; asked = 5; key = 0 })
unfolding state
trusted_text = refl

-- data of one page and one byte, from the middle of a page on
data_pages : map state.rights (0x403 ∷ 0x404 ∷ []) ≡ page 3 0 ∷ page 3 0 ∷ []
unfolding state
data_pages = refl

read_only_page :
    state.rights 0x405
    ≡ Some (record { read = true; write = false; exec = false; asked = 1; key = 0 })
unfolding state
read_only_page = refl

-- trusted data and a trusted heap have key 1
trusted_pages : map state.rights (0x406 ∷ 0x407 ∷ []) ≡ page 3 1 ∷ page 3 1 ∷ []
unfolding state
trusted_pages = refl

-- a page that may be written and executed is written first
both_page :
    map state.rights (0x408 ∷ 0x409 ∷ [])
    ≡ Some (record { read = true; write = true; exec = false; asked = 7; key = 0 }) ∷ None ∷ []
unfolding state
both_page = refl

-- 16 pages
stack_pages :
    map state.rights (0x7FFDF ∷ 0x7FFE0 ∷ 0x7FFEF ∷ 0x7FFF0 ∷ [])
    ≡ None ∷ page 3 0 ∷ page 3 0 ∷ None ∷ []
unfolding state
stack_pages = refl

-- the file part, and zeros before it, after it, and where nothing is loaded
bytes :
    map state.bytes
    (0x402000 ∷ 0x402008 ∷ 0x402009 ∷ 0x40300F ∷ 0x403010 ∷ 0x403012 ∷ 0x403013 ∷ 0x404010
    ∷ 0x405000 ∷ 0x408000 ∷ 0x408001 ∷ 0x7FFEFFF0 ∷ 0 ∷ [])
    ≡ 0xB8 ∷ 0x05 ∷ 0 ∷ 0 ∷ 0x41 ∷ 0x43 ∷ 0 ∷ 0 ∷ 0x44 ∷ 0x45 ∷ 0 ∷ 0 ∷ 0 ∷ []
unfolding state
bytes = refl

-- closed, at the entry point; RSP is the fifth register
threads : state.threads ≡ record {
  regs = 0 ∷ 0 ∷ 0 ∷ 0 ∷ 0x7FFEFFF0 ∷ 0 ∷ 0 ∷ 0 ∷ 0 ∷ 0 ∷ 0 ∷ 0 ∷ 0 ∷ 0 ∷ 0 ∷ 0 ∷ [];
  rip = 0x402000;
  flags = record { cf = false; pf = false; zf = false; sf = false; of = false };
  pkru = 0x55555554;
  origin = None;
  live = true;
} ∷ []
unfolding state
threads = refl

-- keys 0 and 1 are taken
keys : map state.keys (0 ∷ 1 ∷ 2 ∷ 15 ∷ []) ≡ true ∷ true ∷ false ∷ false ∷ []
unfolding state
keys = refl

nothing_done : state.output ≡ []
unfolding state
nothing_done = refl

no_end : state.end ≡ None
unfolding state
no_end = refl

no_step : state.steps ≡ 0
unfolding state
no_step = refl

no_escape : state.escape ≡ None
unfolding state
no_escape = refl

-- eight pages of segments, and 16 of the stack
frames : frames_needed small_image ≡ 24
unfolding small_image page_total number_at headers_from headers loadable_segments
frames = refl
