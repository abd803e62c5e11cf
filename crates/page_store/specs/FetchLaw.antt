-- A law of fetches: what a memory that holds every page gives.
use Rattle.std.specs.Prelude.{◌≡◌, ℕ, Ok}
use Rattle.erim_defs.specs.Machine.Access.{whole}
use Rattle.erim_defs.specs.Machine.Pages.{ByteMap, RightsMap, code_bytes, published_code}
use Rattle.page_store.specs.Answers.{fetch_of}

-- the bytes that are present in the published code
abbrev pub WholeFetchLaw : Type 0
WholeFetchLaw = (rights : RightsMap) (bytes : ByteMap) (a n : ℕ)
    → fetch_of (whole rights) bytes a n ≡ Ok (code_bytes (published_code rights bytes) a n)
