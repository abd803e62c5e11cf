-- What a push to a vector leaves.
use Rattle.std.proofs.Common.{Result, Ok, Err, IsOk, is_ok, cond, ◌≡◌, ◌++◌, ◌∷◌, [], List}

-- a push with room to spare
pub push_items : {T E X : Type 0} (r : Result T E) (ps xs : List X) (new : X) → IsOk r
    → xs ≡ cond (is_ok r) (ps ++ new ∷ []) ps → xs ≡ ps ++ new ∷ []
push_items (Ok x) ps xs new h e = e
push_items (Err x) ps xs new h e = cc
