-- The unsafe list of a code: its occurrences that aren't safe, by rising address. Own.
use Rattle.std.specs.Prelude.{◌≡◌, ◌<◌, ◌≤◌, refl, ℕ, ◌^◌, Option, Some, None, List, [], ◌∷◌, ◌++◌}
use Rattle.std.specs.Prelude.{zero, suc}
use Rattle.erim_defs.specs.declared.found.Found.{Found}
use Rattle.erim_defs.specs.Inspection.Code.{Code, or_else}
use Rattle.erim_defs.specs.Inspection.Image.{image_code, image_trust}
use Rattle.erim_defs.specs.Inspection.Trust.{TrustValue}
use Rattle.erim_defs.specs.Inspection.Safe.{unsafe_at}

abbrev pub option_list : {X : Type 0} → Option X → List X
option_list None = []
option_list (Some x) = x ∷ []

-- what a function gives at the numbers below n, rising
unfoldable pub list_below : {X : Type 0} → ℕ → (ℕ → Option X) → List X
list_below zero f = []
list_below (suc n) f = list_below n f ++ option_list (f n)

-- the first of them
unfoldable pub first_below : {X : Type 0} → ℕ → (ℕ → Option X) → Option X
first_below zero f = None
first_below (suc n) f = or_else (first_below n f) (f n)

-- 2^47, where user addresses end; sealed, so that no proof counts up to it
pub top : ℕ
top = 2 ^ 47

pub top_is : top ≡ 2 ^ 47
unfolding top
top_is = refl

-- the unsafe list of a code under the trust of its image
unfoldable pub unsafe_list : TrustValue → Code → List Found
unsafe_list trust c = list_below top (unsafe_at trust c)

-- its first element
unfoldable pub first_unsafe : TrustValue → Code → Option Found
first_unsafe trust c = first_below top (unsafe_at trust c)

-- the unsafe list of the code of an image
abbrev pub image_list : List ℕ → List Found
image_list bytes = unsafe_list (image_trust bytes) (image_code bytes)

-- nothing of a code is unsafe from an address up to another
abbrev pub NoneUnsafe : TrustValue → Code → ℕ → ℕ → Type 0
NoneUnsafe trust c low high = (a : ℕ) → low ≤ a → a < high → unsafe_at trust c a ≡ None

-- it is the first unsafe sequence of a code from an address up to another, or there is none
abbrev pub IsFirstUnsafe : TrustValue → Code → ℕ → ℕ → Option Found → Type 0
IsFirstUnsafe trust c low high None = NoneUnsafe trust c low high
IsFirstUnsafe trust c low high (Some o) =
    (low ≤ o.at) × (o.at < high) × (unsafe_at trust c o.at ≡ Some o) × NoneUnsafe trust c low o.at
