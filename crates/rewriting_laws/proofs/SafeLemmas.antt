-- Nothing of a rewritten code is unsafe.
use Rattle.std.proofs.Common.{◌≡◌, ℕ, zero, suc, ◌||◌, ◌==◌, Bool, true, false, List, [], ◌∷◌, ◌++◌}
use Rattle.std.proofs.Common.{length, Option, Some, None, Result, Ok, Err, refl, sym, ap, ◌∙◌}
use Rattle.std.proofs.Common.{subst}
use Rattle.std.specs.Prelude.{is_some, nat_lt}
use Rattle.erim_defs.specs.declared.found.Found.{Found}
use Rattle.erim_defs.specs.declared.fault.ImageFault.{ImageFault}
use Rattle.erim_defs.specs.Inspection.Code.{Code, or_else}
use Rattle.erim_defs.specs.Inspection.Occurrence.{occurrence_at}
use Rattle.erim_defs.specs.Inspection.Safe.{is_safe, unless_safe, unsafe_at}
use Rattle.erim_defs.specs.Inspection.Image.{IsAccepted, first_fault, header_count}
use Rattle.erim_defs.specs.Inspection.Unsafe.{image_list, option_list, list_below, first_below, top}
use Rattle.erim_defs.specs.Inspection.Unsafe.{unsafe_list, first_unsafe}
use Rattle.erim_defs.proofs.UnsafeLemmas.{list_below_none}
use Rattle.erim_defs.specs.Rewriting.Sites.{Program, Region, Obstacle, regions_from}
use Rattle.erim_defs.specs.Rewriting.Layout.{Copy, known_code, segment_bytes}
use Rattle.erim_defs.specs.Rewriting.NewFile.{program_of, new_base, header_in_note, new_file}
use Rattle.erim_defs.specs.Rewriting.Rewriting.{Rewritten, Fault, first_of_all}
use Rattle.erim_defs.specs.declared.limits.TheConstants.{MOST_COPIED}
use Rattle.erim_defs.specs.Rewriting.Rewriting.{image_first_unsafe, is_bad, is_hopeless}
use Rattle.erim_defs.specs.Rewriting.Rewriting.{image_regions}
use Rattle.erim_defs.specs.Rewriting.Rewriting.{rewriting_of, laid_copies, on_regions, on_fault}
use Rattle.erim_defs.specs.Rewriting.Rewriting.{rewriting}
use Rattle.rewriting_laws.specs.QuietLaws.{IsQuiet, IsOutside, SafeLaw, AnswerLaw}
use Rattle.erim_defs.proofs.OccurrenceLemmas.{occurrence_facts}
use Rattle.rewriting_laws.proofs.QuietLemmas.{quiet}
use Rattle.rewriting_laws.proofs.RegionLemmas.{regions_law}
use Rattle.erim_defs.specs.declared.limits.TheConstants.{MOST_HEADERS}

-- a sequence of a quiet code lies outside
outside : (copies : List Copy) (base : ℕ) (c : Code) (o : Found) → IsQuiet copies base c
    → occurrence_at c o.at ≡ Some o → IsOutside copies base o
outside copies base c o q h = record {
  regions = λ k w a l u low high. q.regions k w a low high (record {
    found = o;
    occurs = h;
    low =
        l;
    high = u;
  });
  segment = λ a l u low high. q.segment a low high (record {
    found = o;
    occurs = h;
    low = l;
    high =
        u;
  });
}

pub safe : SafeLaw
unfolding unsafe_list unsafe_at
safe trust elsewhere g regions copies ground h out = list_below_none top (unsafe_at trust c)
    (λ a _. by a (occurrence_at c a) refl)
  where
    c : Code
    c = known_code g copies []

    by : (a : ℕ) (o : Option Found) → occurrence_at c a ≡ o
        → unless_safe trust c (occurrence_at c a) ≡ None
    by a None e = rw e refl
    by a (Some o) e =
        let f = occurrence_facts c a o e in
        let here : occurrence_at c o.at ≡ Some o = ap (occurrence_at c) f.place ∙ e in
        let yes : is_safe trust c o ≡ true = out o here (outside copies g.base c o
        (quiet elsewhere g regions copies ground h) here) in
        rw (e, yes) refl

-- ---- the answer

none_found : {X : Type 0} (n : ℕ) (f : ℕ → Option X) → first_below n f ≡ None → list_below n f ≡ []
unfolding first_below list_below
none_found zero f h = refl
none_found {X = X} (suc n) f h = by (first_below n f) refl (none_found n f)
  where
    by : (o : Option X) → first_below n f ≡ o → (first_below n f ≡ None → list_below n f ≡ [])
        → list_below n f ++ option_list (f n) ≡ []
    by None e before =
        let last : f n ≡ None = sym (ap (λ o. or_else o (f n)) e) ∙ h in
        rw (before e, last) refl
    by (Some x) e before = (let no : Some x ≡ None = sym (ap (λ o. or_else o (f n)) e) ∙ h in
        absurd cc)

or_false : (a b : Bool) → (a || b) ≡ false → (a ≡ false) × (b ≡ false)
or_false true b h = absurd cc
or_false false b h = (refl, h)

none_some : {X : Type 0} (o : Option X) → is_some o ≡ false → o ≡ None
none_some None h = refl
none_some (Some x) h = absurd cc

not_bad : (new : List ℕ) → is_bad new ≡ false → IsAccepted new × (image_list new ≡ [])
unfolding unsafe_list first_unsafe
not_bad new h =
    let p = or_false (is_some (first_fault new)) _ h in
    (none_some (first_fault new) p.0, none_found top _ (none_some (image_first_unsafe new) p.1))

not_hopeless : (bytes : List ℕ) (copies : List Copy) → is_hopeless bytes copies ≡ false
    → is_bad (new_file bytes (new_base bytes) copies) ≡ false
unfolding is_hopeless
not_hopeless bytes copies h =
    let a = or_false (nat_lt MOST_COPIED (length (segment_bytes copies))) _ h in
    let b = or_false (header_in_note bytes) _ a.1 in
    (or_false (header_count bytes == MOST_HEADERS) _ b.1).1

on_finished : (bytes : List ℕ) (regions : List Region) (l : Result (List Copy) Region)
    (r : Rewritten)
    → rewriting_of bytes regions l ≡ Ok r → IsAccepted r.bytes × (image_list r.bytes ≡ [])
on_finished bytes regions (Err q) r h = absurd cc
on_finished bytes regions (Ok copies) r h = by (is_hopeless bytes copies) refl
  where
    made : Rewritten
    made = record {
      bytes = new_file bytes
          (new_base bytes) copies;
      regions = regions;
      copies = copies;
    }

    by : (b : Bool) → is_hopeless bytes copies ≡ b → IsAccepted r.bytes × (image_list r.bytes ≡ [])
    by true e =
        let no : Err (Fault.NoRoom (first_of_all regions)) ≡ Ok r = sym (rw e refl) ∙ h in absurd cc
    by false e =
        let yes : Ok made ≡ Ok r = sym (rw e refl) ∙ h in
        let same : made ≡ r = (cc) in
        subst (λ x. IsAccepted x.bytes × (image_list x.bytes ≡ [])) same
        (not_bad (new_file bytes (new_base bytes) copies) (not_hopeless bytes copies e))

-- the regions of an image without unsafe sequences
no_regions : (p : Program) (es : List Found) → regions_from p None es ≡ Ok [] → es ≡ []
no_regions p es h = sym (regions_law p es [] h).0

on_all : (bytes : List ℕ) → IsAccepted bytes → (rs : Result (List Region) Obstacle)
    → image_regions bytes ≡ rs → (r : Rewritten) → on_regions bytes rs ≡ Ok r
    → IsAccepted r.bytes × (image_list r.bytes ≡ [])
unfolding image_regions
on_all bytes accepted (Err refused) s r h = absurd cc
on_all bytes accepted (Ok []) s r h =
    let old : Rewritten = record { bytes = bytes; regions = []; copies = [] } in
    let kept : Ok old ≡ Ok r = h in
    let same : old ≡ r = (cc) in
    subst (λ (x : Rewritten). IsAccepted x.bytes × (image_list x.bytes ≡ [])) same
    (accepted, no_regions (program_of bytes) (image_list bytes) s)
on_all bytes accepted (Ok (q ∷ qs)) s r h =
    on_finished bytes (q ∷ qs) (laid_copies bytes (q ∷ qs)) r h

pub answered : AnswerLaw
unfolding rewriting
answered bytes r h = by (first_fault bytes) refl
  where
    by : (f : Option ImageFault) → first_fault bytes ≡ f
        → IsAccepted r.bytes × (image_list r.bytes ≡ [])
    by (Some fault) e =
        let no : Err (Fault.NotImage fault) ≡ Ok r = sym (ap (on_fault bytes) e) ∙ h in absurd cc
    by None e =
        on_all bytes e (image_regions bytes) refl r (sym (ap (on_fault bytes) e) ∙ h)
