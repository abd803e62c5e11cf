-- What a call may not touch, by what it sees. Own.
use Rattle.std.specs.Prelude.{◌*◌, ◌&&◌, Bool}
use Rattle.erim_defs.specs.declared.machine.Thread.{Thread}
use Rattle.erim_defs.specs.declared.trust.Span.{Span}
use Rattle.erim_defs.specs.Inspection.Trust.{spans}
use Rattle.erim_defs.specs.Machine.MapCalls.{PageRange, any_page, has_byte_on}

-- the first byte of a page of a range is in a range of addresses
abbrev pub meets_span : PageRange → Span → Bool
meets_span r span = any_page r (λ q. spans (4096 * q) span)

-- a thread pins a page of a range
abbrev pub pins : PageRange → Thread → Bool
pins r t = t.live && any_page r (has_byte_on t.origin)
