-- The causes of the whole, in two parts: those before the new file is made, and those of the file.
use Rattle.std.proofs.Common.{◌≡◌, ◌∙◌, ◌||◌, ◌==◌, ℕ, List, Bool, true, false, length}
use Rattle.std.proofs.Common.{refl, ap, sym}
use Rattle.std.specs.Prelude.{nat_lt}
use Rattle.erim_defs.specs.declared.limits.TheConstants.{MOST_HEADERS}
use Rattle.erim_defs.specs.Inspection.Image.{header_count}
use Rattle.erim_defs.specs.Rewriting.Layout.{Copy, segment_bytes}
use Rattle.erim_defs.specs.Rewriting.NewFile.{header_in_note, new_base, new_file}
use Rattle.erim_defs.specs.Rewriting.Rewriting.{is_bad, is_hopeless}
use Rattle.erim_defs.specs.declared.limits.TheConstants.{MOST_COPIED}

-- there is too much to add, or no place for what says of it
abbrev pub is_full : List ℕ → List ℕ → Bool
is_full bytes segment = nat_lt MOST_COPIED (length segment)
    || (header_in_note bytes || header_count bytes == MOST_HEADERS)

or_last : (w x y z : Bool) → (w || (x || (y || z))) ≡ ((w || (x || y)) || z)
or_last true x y z = refl
or_last false true y z = refl
or_last false false y z = refl

hopeless_parts : (bytes : List ℕ) (copies : List Copy)
    → is_hopeless bytes copies
    ≡ (is_full bytes (segment_bytes copies) || is_bad (new_file bytes (new_base bytes) copies))
unfolding is_hopeless
hopeless_parts bytes copies =
    or_last (nat_lt MOST_COPIED (length (segment_bytes copies))) (header_in_note bytes)
    (header_count bytes == MOST_HEADERS) (is_bad (new_file bytes (new_base bytes) copies))

pub when_full : (bytes segment : List ℕ) (copies : List Copy) → segment ≡ segment_bytes copies
    → is_full bytes segment ≡ true → is_hopeless bytes copies ≡ true
when_full bytes segment copies same full =
    let whole : is_full bytes (segment_bytes copies) ≡ true = rw same at full in
    hopeless_parts bytes copies
    ∙ ap (λ b. b || is_bad (new_file bytes (new_base bytes) copies)) whole

pub when_made : (bytes segment file : List ℕ) (base : ℕ) (copies : List Copy) (bad : Bool)
    → segment ≡ segment_bytes copies
    → is_full bytes segment ≡ false → base ≡ new_base bytes → file ≡ new_file bytes base copies
    → bad ≡ is_bad file → is_hopeless bytes copies ≡ bad
when_made bytes segment file base copies bad same full is made judged =
    let whole : is_full bytes (segment_bytes copies) ≡ false = rw same at full in
    let new : file ≡ new_file bytes (new_base bytes) copies =
    made ∙ ap (λ b. new_file bytes b copies) is in
    hopeless_parts bytes copies
    ∙ (ap (λ b. b || is_bad (new_file bytes (new_base bytes) copies)) whole
    ∙ sym (judged ∙ ap is_bad new))
