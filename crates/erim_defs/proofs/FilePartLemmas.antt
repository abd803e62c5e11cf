-- The bytes of a function that lies in the file part of an executable segment.
use Rattle.std.proofs.Common.{◌≡◌, ℕ, zero, suc, ◌+◌, ◌-◌, ◌/◌, ◌<◌, ◌≤◌, List, [], ◌∷◌}
use Rattle.std.proofs.Common.{length, take, drop, get_or, Some, None, true, false, ◌&&◌}
use Rattle.std.proofs.Common.{refl, arith}
use Rattle.std.specs.List.{All, AllPairs, list_any}
use Rattle.std.proofs.Math.Seq.{drop-cons}
use Rattle.std.proofs.lemmas.Bool.{and_parts, and_right, leb-true, le-leb, lt-ltb}
use Rattle.erim_defs.specs.declared.segment.Segment.{Segment}
use Rattle.erim_defs.specs.declared.trust.Span.{Span}
use Rattle.erim_defs.specs.Inspection.Code.{Code}
use Rattle.erim_defs.specs.Inspection.Image.{IsAccepted, IsPlaced, code_of, function_fault}
use Rattle.erim_defs.specs.Inspection.Image.{header_fault, holds_function}
use Rattle.erim_defs.specs.Inspection.Image.{image_functions, is_executable, is_function}
use Rattle.erim_defs.specs.Inspection.Image.{later_fault, segment_fault, segments, shares_page}
use Rattle.erim_defs.specs.Inspection.Image.{touches, trust_fault}
use Rattle.erim_defs.specs.Machine.Pages.{code_bytes}
use Rattle.erim_defs.proofs.FaultLemmas.{cond_fault, later_none, or_none}
use Rattle.erim_defs.proofs.PageLemmas.{apart_page, touches_from}

-- ---- the bytes of a code that are a list's

pub code_bytes_part : (c : Code) (bytes : List ℕ) (a place n : ℕ) → place + n ≤ length bytes
    → ((k : ℕ) → k < n → c (a + k) ≡ Some (get_or bytes (place + k) 0))
    → code_bytes c a n ≡ take n (drop place bytes)
unfolding code_bytes
code_bytes_part c bytes a place zero room same = refl
code_bytes_part c bytes a place (suc n) room same =
    let at_a : a + 0 ≡ a = omega arith in
    let at_place : place + 0 ≡ place = omega arith in
    let first : c a ≡ Some (get_or bytes place 0) =
    rw (at_a, at_place) at (same 0 (omega arith)) in
    let rest : code_bytes c (suc a) n ≡ take n (drop (suc place) bytes) =
    code_bytes_part c bytes (suc a) (suc place) n (omega (arith, room)) (later c bytes a place n
    same) in
    rw (first, rest, drop-cons bytes place 0 (omega (arith, room))) refl
  where
    later : (c : Code) (bytes : List ℕ) (a place n : ℕ)
        → ((k : ℕ) → k < suc n → c (a + k) ≡ Some (get_or bytes (place + k) 0))
        → (k : ℕ) → k < n → c (suc a + k) ≡ Some (get_or bytes (suc place + k) 0)
    later c bytes a place n same k lt =
        let from : a + suc k ≡ suc a + k = omega arith in
        let to : place + suc k ≡ suc place + k = omega arith in
        rw (from, to) at (same (suc k) (omega (arith, lt)))

-- ---- the code of a segment among others

-- the segments apart from an executable one have no byte on its pages
pub code_here : (bytes : List ℕ) (ss : List Segment) (i : ℕ) (d : Segment) (a : ℕ)
    → AllPairs (λ s t. shares_page s t ≡ false) ss → i < length ss
    → is_executable (get_or ss i d) ≡ true → touches (get_or ss i d) (a / 4096) ≡ true
    → (get_or ss i d).vaddr ≤ a → a < (get_or ss i d).vaddr + (get_or ss i d).filesz
    → code_of bytes ss a
    ≡ Some (get_or bytes ((get_or ss i d).offset + (a - (get_or ss i d).vaddr)) 0)
code_here bytes [] i d a apart lt exec there low high = absurd (omega (arith, lt))
code_here bytes (s ∷ ss) zero d a apart lt exec there low high =
    rw (exec, there, le-leb s.vaddr a low, lt-ltb a (s.vaddr + s.filesz) high) refl
code_here bytes (s ∷ ss) (suc i) d a apart lt exec there low high =
    let off : touches s (a / 4096) ≡ false =
    apart_page s (get_or ss i d) (a / 4096) (apart 0 (suc i) d (omega arith) lt) there in
    let none : (is_executable s && touches s (a / 4096)) ≡ false = and_right _ _ off in
    rw none (code_here bytes ss i d a
    (λ k j e before in_list. apart (suc k) (suc j) e (omega (arith, before))
    (omega (arith, in_list)))
    (omega (arith, lt)) exec there low high)

-- ---- a function in the file part of a segment

-- what the test says
pub record Holds (s : Segment) (f : Span) : Type 0 where
  pub exec : is_executable s ≡ true
  pub low : s.vaddr ≤ f.start
  pub high : f.start + f.length ≤ s.vaddr + s.filesz

pub holds_view : (s : Segment) (f : Span) → holds_function f s ≡ true → Holds s f
holds_view s f h =
    let p = and_parts _ _ h in
    let q = and_parts _ _ p.1 in
    record { exec = p.0; low = leb-true _ _ q.0; high = leb-true _ _ q.1 }

pub file_part_is : (bytes : List ℕ) (ss : List Segment) (i : ℕ) (d : Segment) (f : Span)
    → All (IsPlaced (length bytes)) ss → AllPairs (λ s t. shares_page s t ≡ false) ss
    → i < length ss → holds_function f (get_or ss i d) ≡ true
    → code_bytes (code_of bytes ss) f.start f.length
    ≡ take f.length (drop ((get_or ss i d).offset + (f.start - (get_or ss i d).vaddr)) bytes)
file_part_is bytes ss i d f placed apart lt held =
    let s = get_or ss i d in
    let v = holds_view s f held in
    let p : IsPlaced (length bytes) s = placed i d lt in
    code_bytes_part (code_of bytes ss) bytes f.start (s.offset + (f.start - s.vaddr)) f.length
    (omega (arith, v.low, v.high, p.file))
    (λ k within.
    (let a = f.start + k in
    let on : touches s (a / 4096) ≡ true = touches_from s (a / 4096) (record {
      some = p.some;
      low = omega (arith, v.low);
      high = omega (arith, v.high, within, p.part);
    }) in
    let place : s.offset + (a - s.vaddr) ≡ s.offset + (f.start - s.vaddr) + k =
    omega (arith, v.low) in
    rw place at (code_here bytes ss i d a apart lt v.exec on (omega (arith, v.low))
    (omega (arith, v.high, within)))))

-- ---- the functions of an accepted image

all_held : (index : ℕ) (ss : List Segment) (seen fs : List Span)
    → function_fault index ss seen fs ≡ None
    → All (λ f. list_any (holds_function f) ss ≡ true) fs
unfolding function_fault
all_held index ss seen [] none k d below = absurd (omega (arith, below))
all_held index ss seen (f ∷ fs) none zero d below =
    let p = cond_fault (is_function ss seen f) _ (function_fault (index + 1) ss (f ∷ seen) fs)
    none in
    (and_parts _ _ (and_parts _ _ p.0).1).0
all_held index ss seen (f ∷ fs) none (suc k) d below =
    let p = cond_fault (is_function ss seen f) _ (function_fault (index + 1) ss (f ∷ seen) fs)
    none in
    all_held (index + 1) ss (f ∷ seen) fs p.1 k d (omega (arith, below))

-- each lies in the file part of an executable segment
pub functions_held : (bytes : List ℕ) → IsAccepted bytes
    → All (λ f. list_any (holds_function f) (segments bytes) ≡ true) (image_functions bytes)
unfolding later_fault
functions_held bytes h =
    let behind = (or_none (header_fault bytes) _ (later_none bytes h)).1 in
    let p = or_none (segment_fault bytes) _ behind in
    let q = or_none (trust_fault bytes) _ p.1 in
    all_held 0 (segments bytes) [] (image_functions bytes)
    (or_none (function_fault 0 (segments bytes) [] (image_functions bytes)) _ q.1).0
