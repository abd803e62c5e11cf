-- What contracts see of the trusted heap. Own.
use Rattle.std.specs.Prelude.{List}
use Rattle.erim_defs.specs.declared.trust.Span.{Span}

pub record HeapValue : Type 0 where
  -- its ranges
  pub heaps : List Span
  -- the live blocks by rising address
  pub blocks : List Span
