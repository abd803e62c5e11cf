-- What the decoder's functions return, beside reading over lists. Own.
use Rattle.std.specs.Prelude.{◌≡◌, Result, Ok, Err}
use Rattle.erim_defs.specs.declared.grammar.Stop.{Stop}

-- what a function returned, seen by view, is what reading gives
abbrev pub Gives : {X Y : Type 0} → (X → Y) → Result X Stop → Result Y Stop → Type 0
Gives view (Ok x) read = read ≡ Ok (view x)
Gives view (Err e) read = read ≡ Err e
