-- Which domains a PKRU opens. Own, after ERIM: AD of the domain is 0, and WD too where all threads
-- may read its pages.
use Rattle.std.specs.Prelude.{ℕ, ◌&&◌, ◌||◌, ◌==◌, not, Bool, false, List, [], ◌∷◌, zero, suc}
use Rattle.std.specs.Prelude.{if◌then◌else◌}
use Rattle.std.specs.List.{list_any}
use Rattle.erim_defs.specs.Inspection.Trust.{TrustValue, is_domain, is_integrity, text_key}
use Rattle.erim_defs.specs.Machine.Access.{opens, opens_write}

abbrev pub opens_domain : TrustValue → ℕ → ℕ → Bool
opens_domain trust pkru domain = is_domain trust domain
    && (if is_integrity trust domain then opens_write pkru domain else opens pkru domain)

-- of each key from 0 to 4: is it a domain that the PKRU opens; 0 is none
unfoldable pub opened_domains : TrustValue → ℕ → List Bool
opened_domains trust pkru =
    false ∷ opens_domain trust pkru 1 ∷ opens_domain trust pkru 2 ∷ opens_domain trust pkru 3
    ∷ opens_domain trust pkru 4 ∷ []

-- a flag is set, but for the one at a place
unfoldable pub is_set_but : ℕ → List Bool → Bool
is_set_but k [] = false
is_set_but zero (b ∷ bs) = list_any (λ c. c) bs
is_set_but (suc k) (b ∷ bs) = b || is_set_but k bs

-- the address lies in the text of a domain, and the PKRU opens no other one
abbrev pub is_at_home : TrustValue → ℕ → ℕ → Bool
is_at_home trust pkru a = not (text_key trust a == 0)
    && not (is_set_but (text_key trust a) (opened_domains trust pkru))

-- the key is a domain that the PKRU doesn't open
abbrev pub is_denied : TrustValue → ℕ → ℕ → Bool
is_denied trust pkru key = is_domain trust key && not (opens_domain trust pkru key)
