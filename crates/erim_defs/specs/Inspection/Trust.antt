-- The trusted part of a program: its text and the designated entries. ERIM (USENIX Security 2019),
-- section 3. Own: several domains, each with a protection key, a text and entries of its own; all
-- threads may read the pages of an integrity domain.
use Rattle.std.specs.Prelude.{ℕ, ◌+◌, ◌*◌, ◌==◌, ◌&&◌, nat_le, nat_lt, Bool, true, false, List, []}
use Rattle.std.specs.Prelude.{◌∷◌, map}
use Rattle.std.specs.Prelude.{get_or, if◌then◌else◌}
use Rattle.std.specs.List.{list_any}
use Rattle.erim_defs.specs.declared.trust.Span.{Span}

-- what contracts see of a `Trust`
pub record TrustValue : Type 0 where
  pub texts : List Span
  pub entries : List ℕ
  -- the key of each text and of each entry, in their order
  pub text_keys : List ℕ
  pub entry_keys : List ℕ
  -- of each key from 0 on: is it a domain, and is it an integrity domain
  pub domains : List Bool
  pub integrity : List Bool
  -- an entry after a WRPKRU isn't enough: its check follows there too
  pub strict : Bool

-- is the address in the range
abbrev pub spans : ℕ → Span → Bool
spans a s = nat_le s.start a && nat_lt a (s.start + s.length)

-- is the address in trusted text
abbrev pub in_text_of : TrustValue → ℕ → Bool
in_text_of trust a = list_any (spans a) trust.texts

-- is the address an entry
abbrev pub is_entry_of : TrustValue → ℕ → Bool
is_entry_of trust a = list_any (λ entry. entry == a) trust.entries

-- ---- domains

-- a note of version 1 with these texts and entries: one domain, with key 1
abbrev pub plain_trust : List Span → List ℕ → TrustValue
plain_trust texts entries = record {
  texts = texts;
  entries = entries;
  text_keys = map (λ _. 1) texts;
  entry_keys = map (λ _. 1) entries;
  domains = false ∷ true ∷ false ∷ false ∷ false ∷ [];
  integrity = false ∷ false ∷ false ∷ false ∷ false ∷ [];
  strict = false;
}

abbrev pub flag_at : List Bool → ℕ → Bool
flag_at flags k = get_or flags k false

abbrev pub is_domain : TrustValue → ℕ → Bool
is_domain trust key = flag_at trust.domains key

abbrev pub is_integrity : TrustValue → ℕ → Bool
is_integrity trust key = flag_at trust.integrity key

-- the key beside the first of which a test holds; 0, which is no domain, where there is none
abbrev pub key_beside : {X : Type 0} → (X → Bool) → List X → List ℕ → ℕ
key_beside test [] keys = 0
key_beside test (x ∷ xs) [] = 0
key_beside test (x ∷ xs) (key ∷ keys) = if test x then key else key_beside test xs keys

-- the domain in whose text an address is, and the domain whose entry it is; 0 where there is none
unfoldable pub text_key : TrustValue → ℕ → ℕ
text_key trust a = key_beside (spans a) trust.texts trust.text_keys

unfoldable pub entry_key : TrustValue → ℕ → ℕ
entry_key trust a = key_beside (λ entry. entry == a) trust.entries trust.entry_keys

-- ---- values of PKRU: AD of a key is bit 2 * key, WD bit 2 * key + 1

-- AD is 1 for a key, for an integrity domain WD alone; neither for the one that is opened
abbrev pub key_bits : TrustValue → ℕ → ℕ → ℕ
key_bits trust opened key =
    if key == opened then 0 else (if is_integrity trust key then 2 else 1)

-- the PKRU that opens one domain alone, or none where the key is 0
unfoldable pub pkru_of : TrustValue → ℕ → ℕ
pkru_of trust opened =
    0x55555400 + 4 * key_bits trust opened 1 + 16 * key_bits trust opened 2
    + 64 * key_bits trust opened 3 + 256 * key_bits trust opened 4
