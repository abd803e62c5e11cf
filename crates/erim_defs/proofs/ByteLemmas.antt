-- Lists of bytes.
use Rattle.std.proofs.Common.{ℕ, suc, ◌<◌, List, [], ◌∷◌, ◌++◌, get_or}
use Rattle.erim_defs.specs.Encoding.Parts.{AreBytes}

-- a list whose places all hold bytes
pub bytes_of : (s : List ℕ) → ((i : ℕ) → get_or s i 0 < 256) → AreBytes s
bytes_of [] h = tt
bytes_of (b ∷ s) h = (h 0, bytes_of s (λ i. h (suc i)))

pub bytes_append : (s t : List ℕ) → AreBytes s → AreBytes t → AreBytes (s ++ t)
bytes_append [] t h k = k
bytes_append (b ∷ s) t h k = (h.0, bytes_append s t h.1 k)
