-- Laws of regions.
use Rattle.std.proofs.Common.{◌≡◌, ◌≤◌, ◌+◌, ◌⊎◌, ℕ, Bool, true, false, List, [], ◌∷◌, ◌++◌}
use Rattle.std.proofs.Common.{append_assoc, Option, Some, None, Result, Ok, Err, refl, sym, ap, ◌∙◌}
use Rattle.std.proofs.Common.{arith, inl, inr, ltb, subst}
use Rattle.std.specs.Prelude.{max, nat_lt}
use Rattle.std.specs.List.{flat_map}
use Rattle.std.proofs.lemmas.Bool.{cases_lt, lt-ltb}
use Rattle.std.proofs.lemmas.List.{append-nil}
use Rattle.erim_defs.specs.declared.found.Found.{Found}
use Rattle.erim_defs.specs.Encoding.Grammar.{In}
use Rattle.erim_defs.specs.Rewriting.Sites.{Program, Region, Obstacle, goal, region_start}
use Rattle.erim_defs.specs.Rewriting.Sites.{region_end}
use Rattle.erim_defs.specs.Rewriting.Sites.{region_goal, region_insns, region_at, region_for}
use Rattle.erim_defs.specs.Rewriting.Sites.{left_by, with_regions}
use Rattle.erim_defs.specs.Rewriting.Sites.{or_refuse, regions_by, first_why, tests, why}
use Rattle.erim_defs.specs.declared.rewriting.Why.{Why}
use Rattle.erim_defs.specs.declared.rewriting.Why.TheVariants.{Room}
use Rattle.rewriting_laws.specs.RegionLaws.{IsWide, RegionsLaw}

goal_five : (start : ℕ) (es : List Found) → start + 5 ≤ goal start es
goal_five start [] = omega arith
goal_five start (e ∷ es) = (let h = goal_five start es in omega (arith, h))

goal_holds : (start : ℕ) (es : List Found) (e : Found) → In es e → e.at + e.len ≤ goal start es
goal_holds start [] e w = absurd w
goal_holds start (x ∷ xs) e (inl same) = subst (λ (y : Found). y.at + y.len ≤ max (x.at + x.len)
    (goal start xs)) same (omega arith)
goal_holds start (x ∷ xs) e (inr w) = (let h = goal_holds start xs e w in omega (arith, h))

wide : (r : Region) → region_goal r ≤ region_end r → IsWide r
wide r le = record {
  five = (let f = goal_five (region_start r) r.elements in omega (arith, f, le));
  holds = λ e w. (let h = goal_holds (region_start r) r.elements e w in omega (arith, h, le));
}

-- what a judge lets through is wide, and a region that is begun is for one element
Judges : (Found → Region) → (Region → Found → Option Why) → Type 0
Judges begin judge = ((r : Region) (e : Found) → judge r e ≡ None → IsWide r)
    × ((e : Found) → (begin e).elements ≡ e ∷ [])

before_elements : Option Region → List Found
before_elements None = []
before_elements (Some r) = r.elements

AllWide : List Region → Type 0
AllWide regions = (r : Region) → In regions r → IsWide r

BeforeWide : Option Region → Type 0
BeforeWide None = Unit {0}
BeforeWide (Some r) = IsWide r

pub with_view : (before : List Region) (rest : Result (List Region) Obstacle)
    (regions : List Region)
    → with_regions before rest ≡ Ok regions → (more : List Region) × (rest ≡ Ok more)
    × (regions ≡ before ++ more)
with_view before (Ok more) regions h = (
  more,
  refl,
  (let e : before ++ more
      ≡ regions = (cc) in sym e),
)
with_view before (Err r) regions h = absurd cc

pub in_both : {A : Type 0} (xs ys : List A) (x : A) → In (xs ++ ys) x → In xs x ⊎ In ys x
in_both [] ys x w = inr w
in_both (z ∷ xs) ys x (inl e) = inl (inl e)
in_both (z ∷ xs) ys x (inr w) = elim (in_both xs ys x w) [ inl i ↦ inl (inr i) | inr i ↦ inr i ]

elements_append : (xs ys : List Region) → flat_map (λ r. r.elements) (xs ++ ys)
    ≡ flat_map (λ r. r.elements) xs ++ flat_map (λ r. r.elements) ys
elements_append [] ys = refl
elements_append (r ∷ xs) ys = ap (λ es. r.elements ++ es) (elements_append xs ys)
    ∙ sym (append_assoc r.elements (flat_map (λ r. r.elements) xs) (flat_map (λ r. r.elements) ys))

-- an element's region and what is left before it have the elements so far and that one
split_elements : (begin : Found → Region) (before : Option Region) (e : Found) → (begin e).elements
    ≡ e ∷ []
    → flat_map (λ r. r.elements) (left_by before e) ++ (region_for begin before e).elements
    ≡ before_elements before ++ e ∷ []
unfolding before_elements
split_elements begin None e one = one
split_elements begin (Some r) e one = by (ltb e.at (region_end r)) refl
  where
    by : (b : Bool) → ltb e.at (region_end r) ≡ b → flat_map (λ r. r.elements) (left_by (Some r) e)
        ++ (region_for begin (Some r) e).elements ≡ r.elements ++ e ∷ []
    by true h = rw h refl
    by false h = rw (h, one) (ap (λ es. es ++ e ∷ []) (append-nil r.elements))

left_wide : (before : Option Region) (e : Found) → BeforeWide before → AllWide (left_by before e)
unfolding BeforeWide AllWide
left_wide None e b r w = absurd w
left_wide (Some q) e b r w = by (ltb e.at (region_end q)) refl
  where
    by : (x : Bool) → ltb e.at (region_end q) ≡ x → IsWide r
    by true h = (let no : In [] r = rw h at w in absurd no)
    by false h = (let one : In (q ∷ []) r = rw h at w in
        elim one [ inl same ↦ subst IsWide same b | inr none ↦ absurd none ])

regions_hold : (begin : Found → Region) (judge : Region → Found → Option Why) → Judges begin judge
    → (es : List Found) (before : Option Region) (regions : List Region) → BeforeWide before
    → regions_by begin judge before es ≡ Ok regions → (flat_map (λ r. r.elements) regions
    ≡ before_elements before ++ es) × AllWide regions
unfolding regions_by Judges before_elements AllWide BeforeWide
regions_hold begin judge j [] None regions b h = (let e : [] ≡ regions = (cc) in (
  subst (λ rs. flat_map (λ r. r.elements) rs ≡ []) e refl,
  subst (λ rs. (r : Region) → In rs r → IsWide r) e (λ r w. absurd w),
))
regions_hold begin judge j [] (Some q) regions b h = (let e : q ∷ [] ≡ regions = (cc) in (
  subst (λ rs. flat_map (λ r. r.elements) rs ≡ q.elements ++ []) e refl,
  subst (λ rs. (r : Region) → In rs r → IsWide r) e (λ r w. elim w [
    | inl same ↦
        subst IsWide same b
    | inr none ↦ absurd none
  ]),
))
regions_hold begin judge j (e ∷ es) before regions b h = by (judge
    (region_for begin before e) e) refl
    (regions_hold begin judge j es (Some (region_for begin before e)))
  where
    rest : Result (List Region) Obstacle
    rest = regions_by begin judge (Some (region_for begin before e)) es

    by : (o : Option Why) → judge (region_for begin before e) e ≡ o
        → ((more : List Region) → IsWide (region_for begin before e) → rest ≡ Ok more
        → (flat_map (λ r. r.elements) more ≡ (region_for begin before e).elements ++ es)
        × ((r : Region) → In more r → IsWide r))
        → (flat_map (λ r. r.elements) regions ≡ before_elements before ++ e ∷ es)
        × ((r : Region) → In regions r → IsWide r)
    by (Some w) x next = (let no : Err (record { at = e.at; why = w })
        ≡ Ok regions = sym (ap (λ o. or_refuse o e (with_regions (left_by before e) rest)) x) ∙ h in
        absurd cc)
    by None x next =
        let v = with_view (left_by before e) rest regions (sym
        (ap (λ o. or_refuse o e (with_regions (left_by before e) rest)) x) ∙ h) in
        let n = next v.0 (j.0 (region_for begin before e) e x) v.1 in
        let left : flat_map (λ r. r.elements) (left_by before e ++ v.0) ≡ before_elements before
        ++ e ∷ es =
        elements_append (left_by before e) v.0 ∙ (ap (λ xs. flat_map (λ r. r.elements)
        (left_by before e) ++ xs) n.0
        ∙ (sym (append_assoc (flat_map (λ r. r.elements) (left_by before e))
        (region_for begin before e).elements es)
        ∙ (ap (λ xs. xs ++ es) (split_elements begin before e (j.1 e))
        ∙ append_assoc (before_elements before) (e ∷ []) es))) in (
          ap (λ rs. flat_map (λ r. r.elements) rs) v.2 ∙ left,
          λ r w. elim (in_both (left_by before e) v.0 r (subst (λ rs. In rs r) v.2 w)) [
            | inl i ↦
                left_wide before e b r i
            | inr i ↦ n.1 r i
          ],
        )

-- ---- the judge of rewriting

pub none_holds : (xs : List (Bool × Why)) (x : Bool × Why) → first_why xs ≡ None → In xs x
    → x.0 ≡ false
none_holds [] x h w = absurd w
none_holds (y ∷ ys) x h w = by (none_holds ys x) y.0 refl w
  where
    by : (first_why ys ≡ None → In ys x → x.0 ≡ false) → (b : Bool) → y.0 ≡ b → In (y ∷ ys) x → x.0
        ≡ false
    by rest true e i = (let no : Some y.1 ≡ None = sym (rw e refl) ∙ h in absurd cc)
    by rest false e (inl same) = ap (λ (z : Bool × Why). z.0) (sym same) ∙ e
    by rest false e (inr i) = rest (sym (rw e refl) ∙ h) i

why_room : (p : Program) (r : Region) (e : Found) → why p r e ≡ None → IsWide r
unfolding why
why_room p r e h =
    let g : ltb (region_end r) (region_goal r) ≡ false = none_holds
    (tests p (region_start r) (region_goal r) (region_insns r) e)
    (nat_lt (region_end r) (region_goal r), Room) h (inr (inr (inr (inr (inr (inl refl)))))) in
    elim (cases_lt (region_end r) (region_goal r)) [
      | inl less ↦ (let no : true ≡ false = sym (lt-ltb (region_end r) (region_goal r) less) ∙ g in
          absurd cc)
      | inr le ↦ wide r le
    ]

pub regions_law : RegionsLaw
unfolding Judges before_elements AllWide BeforeWide
regions_law p es regions h = regions_hold (region_at p) (why p) (
  λ r e. why_room p r e,
  λ e. refl,
) es None regions tt h
