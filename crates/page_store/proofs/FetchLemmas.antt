-- What a memory that holds every page fetches.
use Rattle.std.proofs.Common.{◌≡◌, ℕ, zero, suc, ◌/◌, if◌then◌else◌, Ok, List, Option, Some, None}
use Rattle.std.proofs.Common.{refl, ◌∙◌, ap, inl, inr}
use Rattle.std.proofs.lemmas.Bool.{cases_Bool}
use Rattle.erim_defs.specs.declared.machine.Rights.{Rights}
use Rattle.erim_defs.specs.Machine.Pages.{RightsMap, ByteMap, is_published, published_code}
use Rattle.erim_defs.specs.Machine.Pages.{code_bytes, code_bytes_on}
use Rattle.erim_defs.specs.Machine.Access.{whole}
use Rattle.page_store.specs.Answers.{fetch_of, code_told}

code_told_present : (r : Option Rights) (q x : ℕ) (rest : List ℕ) (byte : Option ℕ)
    → byte ≡ (if is_published r then Some x else None)
    → code_told (Some r) q x (Ok rest) ≡ Ok (code_bytes_on byte rest)
code_told_present None q x rest byte e = rw e refl
code_told_present (Some r) q x rest byte e = elim (cases_Bool r.exec) [
  | inl t ↦ rw (e, t) refl
  | inr f ↦ rw (e, f) refl
]

-- the bytes that are present in the published code
pub fetch_of_whole : (rights : RightsMap) (bytes : ByteMap) (a n : ℕ)
    → fetch_of (whole rights) bytes a n ≡ Ok (code_bytes (published_code rights bytes) a n)
unfolding fetch_of code_bytes
fetch_of_whole rights bytes a zero = refl
fetch_of_whole rights bytes a (suc n) =
    ap (code_told (Some (rights (a / 4096))) (a / 4096) (bytes a))
    (fetch_of_whole rights bytes (suc a) n)
    ∙ code_told_present (rights (a / 4096)) (a / 4096) (bytes a) _ (published_code rights bytes a)
    refl
