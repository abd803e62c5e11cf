-- An accepted image is the ground of its layout: its code and its regions end before the segment
-- that the copies go into.
use Rattle.std.proofs.Common.{◌≡◌, ◌*◌, ◌/◌, ◌<◌, ◌≤◌, ℕ, max, true, false}
use Rattle.std.proofs.Common.{List, [], ◌∷◌, length, None, refl, subst, arith, inl, inr}
use Rattle.std.proofs.lemmas.Bool.{cases_Bool}
use Rattle.std.proofs.lemmas.List.Folds.{Any-from_list_any}
use Rattle.erim_defs.specs.declared.segment.Segment.{Segment}
use Rattle.erim_defs.specs.Encoding.Grammar.{In}
use Rattle.erim_defs.specs.Inspection.Image.{IsAccepted, IsPlaced, code_of, end_page}
use Rattle.erim_defs.specs.Inspection.Image.{image_code}
use Rattle.erim_defs.specs.Inspection.Image.{holds_function, is_executable, segments, touches}
use Rattle.erim_defs.specs.Rewriting.NewFile.{free_page, high_page, new_base, program_of}
use Rattle.erim_defs.specs.Rewriting.Sites.{Region}
use Rattle.erim_defs.proofs.FilePartLemmas.{holds_view}
use Rattle.erim_defs.proofs.PageLemmas.{touches_view}
use Rattle.erim_defs.proofs.PlaceLemmas.{accepted_segments}
use Rattle.rewriting_laws.specs.QuietLaws.{GroundLaw, rest_end}
use Rattle.rewriting_laws.specs.RegionLaws.{IsWide}
use Rattle.rewriting_laws.proofs.PlaceLemmas.{LiesIn, each_region, in_at, is_held}

-- ---- the highest page

-- no executable segment ends after it
end_below : (ss : List Segment) (s : Segment) → In ss s → is_executable s ≡ true
    → end_page s ≤ high_page ss
end_below [] s there e = absurd there
end_below (t ∷ ts) s (inl same) e = by s same e
  where
    by : (s : Segment) → t ≡ s → is_executable s ≡ true → end_page s ≤ high_page (t ∷ ts)
    by s same e = (let on : is_executable t ≡ true = rw same e in
        let ends : end_page t ≡ end_page s = rw same refl in
        rw on (omega (arith, ends)))
end_below (t ∷ ts) s (inr there) e =
    let rest = end_below ts s there e in
    elim (cases_Bool (is_executable t)) [
      | inl on ↦ rw on (omega (arith, rest))
      | inr off ↦ rw off rest
    ]

-- no code is on it, or after it
none_above : (bytes : List ℕ) (ss : List Segment) (a : ℕ) → high_page ss ≤ a / 4096
    → code_of bytes ss a ≡ None
none_above bytes [] a high = refl
none_above bytes (s ∷ ss) a high =
    elim (cases_Bool (is_executable s)) [
      | inl on ↦ (let most : max (end_page s) (high_page ss) ≤ a / 4096 = rw on at high in
          let off : touches s (a / 4096) ≡ false = beyond s (a / 4096) (omega (arith, most)) in
          rw (on, off) (none_above bytes ss a (omega (arith, most))))
      | inr off ↦ rw off (none_above bytes ss a (rw off at high))
    ]
  where
    beyond : (s : Segment) (page : ℕ) → end_page s ≤ page → touches s page ≡ false
    beyond s page le = elim (cases_Bool (touches s page)) [
      | inl on ↦ absurd (let t = touches_view s page on in omega (arith, le, t.high))
      | inr off ↦ off
    ]

-- the new segment begins there or later
base_above : (bytes : List ℕ) → 4096 * high_page (segments bytes) ≤ new_base bytes
unfolding free_page
base_above bytes = omega arith

-- ---- a region ends before it

region_below : (bytes : List ℕ) (r : Region) → IsAccepted bytes → LiesIn (program_of bytes) r
    → IsWide r → rest_end r ≤ new_base bytes
region_below bytes r h lies wide =
    let is = is_held bytes r h lies wide in
    let any = Any-from_list_any (holds_function is.span) (segments bytes) is.held in
    let l = accepted_segments bytes h in
    let t : Segment = any.1 in
    let lt : any.0 < length (segments bytes) = any.2 in
    let placed : IsPlaced (length bytes) t =
    subst (IsPlaced (length bytes)) any.3 (l.placed any.0 t lt) in
    let there : In (segments bytes) t =
    subst (In (segments bytes)) any.3 (in_at (segments bytes) any.0 t lt) in
    let holds = holds_view t is.span any.4 in
    let ends = end_below (segments bytes) t there holds.exec in
    let high = is.high in
    let file_part = holds.high in
    let part = placed.part in
    let base = base_above bytes in
    let five = wide.five in
    omega (arith, ends, high, file_part, part, base, five)

pub ground : GroundLaw
unfolding image_code
ground bytes regions h e = record {
  above = λ a le. (let base = base_above bytes in
      none_above bytes (segments bytes) a (omega (arith, base, le)));
  below = λ r there. (let each = each_region bytes regions e r there in
      region_below bytes r h each.0 each.1);
}
