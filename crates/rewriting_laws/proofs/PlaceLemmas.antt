-- The regions of an accepted image lie in the file: each lies in a function, and that in a segment.
use Rattle.std.proofs.Common.{◌≡◌, ◌∙◌, ℕ, zero, suc, ◌+◌, ◌-◌, ◌/◌, ◌<◌, ◌≤◌, ◌&&◌}
use Rattle.std.proofs.Common.{Bool, true, false}
use Rattle.std.proofs.Common.{List, [], ◌∷◌, ◌++◌, length, map, get_or, not}
use Rattle.std.proofs.Common.{Option, Some, None, Result, Ok, Err, refl, sym, ap, arith, inl, inr}
use Rattle.std.proofs.Common.{ltb, subst}
use Rattle.std.specs.List.{All, AllPairs, list_any}
use Rattle.std.proofs.lemmas.Bool.{and_parts, leb-true, le-leb}
use Rattle.std.proofs.lemmas.Bool.{lt-ltb, ltb-true}
use Rattle.std.proofs.lemmas.List.Folds.{Any-from_list_any}
use Rattle.erim_defs.specs.declared.found.Found.{Found}
use Rattle.erim_defs.specs.declared.rewriting.Why.{Why}
use Rattle.erim_defs.specs.declared.rewriting.Why.TheVariants as reasons
use Rattle.erim_defs.specs.declared.segment.Segment.{Segment}
use Rattle.erim_defs.specs.declared.trust.Span.{Span}
use Rattle.erim_defs.specs.Encoding.Grammar.{In}
use Rattle.erim_defs.specs.Inspection.Code.{Code}
use Rattle.erim_defs.specs.Inspection.Image.{IsAccepted, IsPlaced, holds_function, image_code}
use Rattle.erim_defs.specs.Inspection.Image.{image_functions, is_executable, segments}
use Rattle.erim_defs.specs.Inspection.Image.{shares_page, touches}
use Rattle.erim_defs.specs.Inspection.Unsafe.{image_list}
use Rattle.erim_defs.specs.Machine.Pages.{code_bytes, code_bytes_on}
use Rattle.erim_defs.specs.Rewriting.NewFile.{file_place, function_of, has_in_file, program_of}
use Rattle.erim_defs.specs.Rewriting.Rewriting.{image_regions}
use Rattle.erim_defs.specs.Rewriting.Sites.{Function, Program, Obstacle, Region, region_at}
use Rattle.erim_defs.specs.Rewriting.Sites.{first_of, in_function, insns_from, insns_in, insns_of}
use Rattle.erim_defs.specs.Rewriting.Sites.{is_whole, left_by, or_refuse, region_end, region_for}
use Rattle.erim_defs.specs.Rewriting.Sites.{region_goal, region_insns, region_start, regions_by}
use Rattle.erim_defs.specs.Rewriting.Sites.{tests, why, with_regions}
use Rattle.erim_defs.proofs.FilePartLemmas.{Holds, functions_held, holds_view}
use Rattle.erim_defs.proofs.PageLemmas.{apart_page, touches_from}
use Rattle.erim_defs.proofs.PlaceLemmas.{accepted_segments}
use Rattle.erim_defs.specs.Rewriting.NewFile.{HasPlace}
use Rattle.rewriting_laws.specs.PlaceLaws.{PlaceLaw}
use Rattle.rewriting_laws.specs.RegionLaws.{IsWide}
use Rattle.rewriting_laws.proofs.RegionLemmas.{in_both, none_holds, regions_law, with_view}
use Rattle.rewriting_laws.proofs.SweepLemmas.{Within, bounds, from_within, swept_within}

-- ---- a region lies in a function

-- its instructions are those of a function from some address on
pub record LiesIn (p : Program) (r : Region) : Type 0 where
  pub function : Function
  pub there : In p.functions function
  pub low : ℕ
  pub from : r.from ≡ insns_from low (insns_of function)

record FirstOf (a : ℕ) (fs : List Function) : Type 0 where
  pub function : Function
  pub is : first_of (in_function a) fs ≡ Some function
  pub there : In fs function

first_there : (a : ℕ) (fs : List Function)
    → list_any (λ f. in_function a f && is_whole f) fs ≡ true → FirstOf a fs
unfolding first_of
first_there a [] h = absurd cc
first_there a (f ∷ fs) h = by (in_function a f) refl (first_there a fs)
  where
    later : in_function a f ≡ false → FirstOf a fs → FirstOf a (f ∷ fs)
    later e more = record {
      function = more.function;
      is = rw e more.is;
      there = inr more.there;
    }

    by : (b : Bool) → in_function a f ≡ b
        → (list_any (λ f. in_function a f && is_whole f) fs ≡ true → FirstOf a fs)
        → FirstOf a (f ∷ fs)
    by true e rest = record { function = f; is = rw e refl; there = inl refl }
    by false e rest = later e (rest (sym (rw e refl) ∙ h))

-- an element that isn't refused has a function that decodes
decodes : (p : Program) (r : Region) (e : Found) → why p r e ≡ None
    → list_any (λ f. in_function e.at f && is_whole f) p.functions ≡ true
unfolding why
decodes p r e h =
    let known : Bool = list_any (λ f. in_function e.at f && is_whole f) p.functions in
    let off : not known ≡ false = none_holds
    (tests p (region_start r) (region_goal r) (region_insns r) e)
    (not known, reasons.Undecoded) h (inr (inr (inl refl))) in
    by known off
  where
    by : (b : Bool) → not b ≡ false → b ≡ true
    by true e = refl
    by false e = absurd cc

begun_lies : (p : Program) (e : Found)
    → list_any (λ f. in_function e.at f && is_whole f) p.functions ≡ true → LiesIn p (region_at p e)
begun_lies p e h =
    let first = first_there e.at p.functions h in
    record {
      function = first.function;
      there = first.there;
      low = e.at;
      from = ap (λ o. insns_from e.at (insns_in o)) first.is;
    }

pub BeforeLies : Program → Option Region → Type 0
BeforeLies p None = Unit {0}
BeforeLies p (Some r) = LiesIn p r

for_lies : (p : Program) (before : Option Region) (e : Found) → BeforeLies p before
    → list_any (λ f. in_function e.at f && is_whole f) p.functions ≡ true
    → LiesIn p (region_for (region_at p) before e)
unfolding BeforeLies
for_lies p None e b h = begun_lies p e h
for_lies p (Some q) e b h = by (ltb e.at (region_end q)) refl
  where
    grown : LiesIn p (record q { elements = q.elements ++ e ∷ [] })
    grown = record { function = b.function; there = b.there; low = b.low; from = b.from }

    by : (x : Bool) → ltb e.at (region_end q) ≡ x → LiesIn p (region_for (region_at p) (Some q) e)
    by true same = rw same grown
    by false same = rw same (begun_lies p e h)

left_lies : (p : Program) (before : Option Region) (e : Found) → BeforeLies p before → (r : Region)
    → In (left_by before e) r → LiesIn p r
unfolding BeforeLies
left_lies p None e b r w = absurd w
left_lies p (Some q) e b r w = by (ltb e.at (region_end q)) refl
  where
    by : (x : Bool) → ltb e.at (region_end q) ≡ x → LiesIn p r
    by true h = (let no : In [] r = rw h at w in absurd no)
    by false h = (let one : In (q ∷ []) r = rw h at w in
        elim one [ inl same ↦ subst (LiesIn p) same b | inr none ↦ absurd none ])

pub regions_lie : (p : Program) (es : List Found) (before : Option Region) (regions : List Region)
    → BeforeLies p before → regions_by (region_at p) (why p) before es ≡ Ok regions → (r : Region)
    → In regions r → LiesIn p r
unfolding regions_by BeforeLies
regions_lie p [] None regions b h r w =
    (let e : [] ≡ regions = cc in let no : In [] r = subst (λ rs. In rs r) (sym e) w in absurd no)
regions_lie p [] (Some q) regions b h r w =
    (let e : q ∷ [] ≡ regions = cc in
    let one : In (q ∷ []) r = subst (λ rs. In rs r) (sym e) w in
    elim one [ inl same ↦ subst (LiesIn p) same b | inr none ↦ absurd none ])
regions_lie p (e ∷ es) before regions b h r w =
    by (why p (region_for (region_at p) before e) e) refl
    (regions_lie p es (Some (region_for (region_at p) before e)))
  where
    rest : Result (List Region) Obstacle
    rest = regions_by (region_at p) (why p) (Some (region_for (region_at p) before e)) es

    by : (o : Option Why) → why p (region_for (region_at p) before e) e ≡ o
        → ((more : List Region) → LiesIn p (region_for (region_at p) before e) → rest ≡ Ok more
        → (s : Region) → In more s → LiesIn p s) → LiesIn p r
    by (Some y) x next = (let no : Err (record { at = e.at; why = y })
        ≡ Ok regions = sym (ap (λ o. or_refuse o e (with_regions (left_by before e) rest)) x) ∙ h in
        absurd cc)
    by None x next =
        let v = with_view (left_by before e) rest regions (sym
        (ap (λ o. or_refuse o e (with_regions (left_by before e) rest)) x) ∙ h) in
        let here = for_lies p before e b (decodes p (region_for (region_at p) before e) e x) in
        elim (in_both (left_by before e) v.0 r (subst (λ rs. In rs r) v.2 w)) [
          | inl i ↦ left_lies p before e b r i
          | inr i ↦ next v.0 here v.1 r i
        ]

-- ---- a function lies in a segment

all_tail : {X : Type 0} (P : X → Type 0) (x : X) (xs : List X) → All P (x ∷ xs) → All P xs
all_tail P x xs all k d lt = all (suc k) d (omega (arith, lt))

pub all_in : {X : Type 0} (P : X → Type 0) (xs : List X) (x : X) → All P xs → In xs x → P x
all_in P [] x all w = absurd w
all_in P (y ∷ ys) x all (inl same) = subst P same (all 0 y (omega arith))
all_in P (y ∷ ys) x all (inr w) = all_in P ys x (all_tail P y ys all) w

pub in_at : {X : Type 0} (xs : List X) (k : ℕ) (d : X) → k < length xs → In xs (get_or xs k d)
in_at [] k d lt = absurd (omega (arith, lt))
in_at (x ∷ xs) zero d lt = inl refl
in_at (x ∷ xs) (suc k) d lt = inr (in_at xs k d (omega (arith, lt)))

pub in_map : {X Y : Type 0} (f : X → Y) (xs : List X) (y : Y) → In (map f xs) y
    → (x : X) × In xs x × (f x ≡ y)
in_map f [] y w = absurd w
in_map f (x ∷ xs) y (inl same) = (x, inl refl, same)
in_map f (x ∷ xs) y (inr w) = (let r = in_map f xs y w in (r.0, inr r.1, r.2))

code_low : (c : Code) (a n : ℕ) → length (code_bytes c a n) ≤ n
unfolding code_bytes
code_low c a zero = omega arith
code_low c a (suc n) = by (c a) (code_low c (suc a) n)
  where
    by : (o : Option ℕ) → length (code_bytes c (suc a) n) ≤ n
        → length (code_bytes_on o (code_bytes c (suc a) n)) ≤ suc n
    by None le = omega arith
    by (Some x) le = omega (arith, le)

-- what the test of an address says
record HasAddress (a : ℕ) (t : Segment) : Type 0 where
  pub exec : is_executable t ≡ true
  pub low : t.vaddr ≤ a
  pub high : a < t.vaddr + t.filesz

has_view : (a : ℕ) (t : Segment) → has_in_file a t ≡ true → HasAddress a t
has_view a t h =
    let p = and_parts _ _ h in
    let q = and_parts _ _ p.1 in
    record { exec = p.0; low = leb-true _ _ q.0; high = ltb-true _ _ q.1 }

has_from : (a : ℕ) (t : Segment) → HasAddress a t → has_in_file a t ≡ true
has_from a t v = rw (v.exec, le-leb t.vaddr a v.low, lt-ltb a (t.vaddr + t.filesz) v.high) refl

-- then the segment touches its page
address_page : (n a : ℕ) (t : Segment) → IsPlaced n t → HasAddress a t
    → touches t (a / 4096) ≡ true
address_page n a t p v = touches_from t (a / 4096) (record {
  some = p.some;
  low = (let l = v.low in omega arith);
  high = (let h = v.high in let m = p.part in omega arith);
})

-- a function's segment has its addresses
held_address : (s : Span) (t : Segment) (a : ℕ) → Holds t s → s.start ≤ a
    → a < s.start + s.length → HasAddress a t
held_address s t a v low high = record {
  exec = v.exec;
  low = omega (arith, v.low, low);
  high = omega (arith, v.high, high);
}

-- no segment before it has them
alone : (n : ℕ) (t : Segment) (ts : List Segment) (s : Span) (a : ℕ) → All (IsPlaced n) (t ∷ ts)
    → AllPairs (λ u v. shares_page u v ≡ false) (t ∷ ts)
    → list_any (holds_function s) ts ≡ true → s.start ≤ a → a < s.start + s.length
    → HasAddress a t → ⊥
alone n t ts s a placed apart held low high has =
    let any = Any-from_list_any (holds_function s) ts held in
    let u : Segment = any.1 in
    let there : IsPlaced n u =
    subst (IsPlaced n) any.3 (placed (suc any.0) u (let lt = any.2 in omega arith)) in
    let far : shares_page t u ≡ false =
    subst (λ (w : Segment). shares_page t w ≡ false) any.3
    (apart 0 (suc any.0) u (omega arith) (let lt = any.2 in omega arith)) in
    let on_other : touches u (a / 4096) ≡ true =
    address_page n a u there (held_address s u a (holds_view u s any.4) low high) in
    let on : touches t (a / 4096) ≡ true =
    address_page n a t (placed 0 t (omega arith)) has in
    let off : touches t (a / 4096) ≡ false = apart_page t u (a / 4096) far on_other in
    let no : true ≡ false = sym on ∙ off in
    absurd cc

-- so the bytes of a function from an address on lie in the file from its place on
place_within : (n : ℕ) (ss : List Segment) (s : Span) (a e : ℕ) → All (IsPlaced n) ss
    → AllPairs (λ t u. shares_page t u ≡ false) ss → list_any (holds_function s) ss ≡ true
    → s.start ≤ a → a < e → e ≤ s.start + s.length → file_place ss a + (e - a) ≤ n
place_within n [] s a e placed apart held low some high = absurd cc
place_within n (t ∷ ts) s a e placed apart held low some high =
    by (has_in_file a t) refl (holds_function s t) refl
    (λ more. place_within n ts s a e (all_tail (IsPlaced n) t ts placed)
    (λ i j d before in_list. apart (suc i) (suc j) d (omega (arith, before))
    (omega (arith, in_list))) more low some high)
  where
    inside : a < s.start + s.length
    inside = omega (arith, some, high)

    here : Holds t s → t.offset + (a - t.vaddr) + (e - a) ≤ n
    here v = (let p : IsPlaced n t = placed 0 t (omega arith) in
        let l = v.low in
        let h = v.high in
        let f = p.file in
        omega arith)

    by : (x : Bool) → has_in_file a t ≡ x → (y : Bool) → holds_function s t ≡ y
        → (list_any (holds_function s) ts ≡ true → file_place ts a + (e - a) ≤ n)
        → file_place (t ∷ ts) a + (e - a) ≤ n
    by true has true holds rest = rw has (here (holds_view t s holds))
    by true has false holds rest =
        absurd (alone n t ts s a placed apart (sym (rw holds refl) ∙ held) low inside
        (has_view a t has))
    by false has true holds rest =
        (let no : true ≡ false = sym (has_from a t (held_address s t a (holds_view t s holds) low
        inside)) ∙ has in
        absurd cc)
    by false has false holds rest =
        (let behind : file_place ts a + (e - a) ≤ n = rest (sym (rw holds refl) ∙ held) in
        rw has behind)

-- ---- a region of an accepted image lies in its file

function_within : (bytes : List ℕ) (s : Span)
    → Within s.start (s.start + s.length) (insns_of (function_of bytes s))
function_within bytes s =
    let code : List ℕ = code_bytes (image_code bytes) s.start s.length in
    let le : length code ≤ s.length = code_low (image_code bytes) s.start s.length in
    swept_within (length code) s.start s.start (s.start + s.length) code (omega arith)
    (omega (arith, le))

pub region_within : (bytes : List ℕ) (s : Span) (f : Function) (r : Region) (a : ℕ)
    → function_of bytes s ≡ f → r.from ≡ insns_from a (insns_of f)
    → Within s.start (s.start + s.length) r.from
region_within bytes s f r a same from =
    let whole : Within s.start (s.start + s.length) (insns_of f) =
    subst (λ g. Within s.start (s.start + s.length) (insns_of g)) same (function_within bytes s) in
    subst (Within s.start (s.start + s.length)) (sym from)
    (from_within s.start (s.start + s.length) a (insns_of f) whole)

-- a region has the range of a function, which some segment's file part holds
pub record IsHeld (bytes : List ℕ) (r : Region) : Type 0 where
  pub span : Span
  pub held : list_any (holds_function span) (segments bytes) ≡ true
  pub low : span.start ≤ region_start r
  pub high : region_end r ≤ span.start + span.length

pub is_held : (bytes : List ℕ) (r : Region) → IsAccepted bytes → LiesIn (program_of bytes) r
    → IsWide r → IsHeld bytes r
unfolding program_of
is_held bytes r h lies wide =
    let m = in_map (function_of bytes) (image_functions bytes) lies.function lies.there in
    let s : Span = m.0 in
    let held : list_any (holds_function s) (segments bytes) ≡ true =
    all_in (λ f. list_any (holds_function f) (segments bytes) ≡ true) (image_functions bytes) s
    (functions_held bytes h) m.1 in
    let within = region_within bytes s lies.function r lies.low m.2 lies.from in
    let b = bounds s.start (s.start + s.length) (region_goal r) r.from within wide.five in
    record { span = s; held = held; low = b.0; high = b.1 }

has_place : (bytes : List ℕ) (r : Region) → IsAccepted bytes → LiesIn (program_of bytes) r
    → IsWide r → HasPlace bytes r
has_place bytes r h lies wide =
    let l = accepted_segments bytes h in
    let is = is_held bytes r h lies wide in
    let five : region_start r + 5 ≤ region_end r = wide.five in
    record {
      within = place_within (length bytes) (segments bytes) is.span (region_start r)
          (region_end r) l.placed l.apart is.held is.low (omega (arith, five)) is.high;
      five = five;
    }

-- each region of an accepted image lies in a function, and is wide
pub each_region : (bytes : List ℕ) (regions : List Region) → image_regions bytes ≡ Ok regions
    → (r : Region) → In regions r → LiesIn (program_of bytes) r × IsWide r
unfolding image_regions BeforeLies
each_region bytes regions e r there = (
  regions_lie (program_of bytes) (image_list bytes) None regions tt e r there,
  (regions_law (program_of bytes) (image_list bytes) regions e).1 r there,
)

pub places : PlaceLaw
places bytes regions h e k d lt =
    let each = each_region bytes regions e (get_or regions k d) (in_at regions k d lt) in
    has_place bytes (get_or regions k d) h each.0 each.1
