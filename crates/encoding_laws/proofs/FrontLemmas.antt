-- Prefixes, F3 and REX are read exactly.
use Rattle.std.proofs.Common.{◌⊎◌, ◌≡◌, ℕ, ◌+◌, ◌<◌, ◌≤◌, ◌==◌, ◌&&◌, ◌||◌, not, nat_lt, Bool, true}
use Rattle.std.proofs.Common.{false, List, [], ◌∷◌, ◌++◌, length, Result, Ok, Err, refl, sym, ap}
use Rattle.std.proofs.Common.{subst, ◌∙◌, arith, inl, inr, if◌then◌else◌}
use Rattle.std.proofs.lemmas.Bool.{eqb-true, ltb-true}
use Rattle.erim_defs.specs.declared.grammar.Stop.{Stop}
use Rattle.erim_defs.specs.declared.grammar.Stop.TheVariants.{Undefined, Short}
use Rattle.erim_defs.specs.declared.grammar.Lead.{Lead}
use Rattle.erim_defs.specs.Encoding.Parts.{AreBytes, Byte, Choose}
use Rattle.encoding_laws.proofs.Exact.{Meets, Exact, IsFree}
use Rattle.erim_defs.specs.Encoding.OpcodeTable.{Line, table_lines, in_line, same_bool, w_fits}
use Rattle.erim_defs.specs.Encoding.Grammar.{at_line, InsnAndSizes, In, every, After, Opcode}
use Rattle.erim_defs.specs.Encoding.Grammar.{Escaped, Body, is_prefix, is_rex, prefix_lead, with_f3}
use Rattle.erim_defs.specs.Encoding.Grammar.{with_rex}
use Rattle.erim_defs.specs.Encoding.Decoding.{least_body, body_at, rex_at, f3_at, front_at}
use Rattle.encoding_laws.proofs.PartLemmas.{Ends, ends_exact, exact_as, byte_lift, byte_free}
use Rattle.encoding_laws.proofs.PartLemmas.{when_to}
use Rattle.encoding_laws.proofs.LineLemmas.{and_true, every_in}
use Rattle.erim_defs.proofs.TableLemmas.{bools, by_bools, table, tabulated}
use Rattle.encoding_laws.proofs.BodyLemmas.{choose_left, choose_right}
use Rattle.encoding_laws.proofs.StopLemmas.{body_ends}
use Rattle.encoding_laws.proofs.BodyExact.{body_exact, body_free}

-- ---- no opcode is a prefix, F3 or REX

abbrev pub leads : ℕ → Bool
leads b = is_prefix b || (b == 0xF3 || is_rex b)

abbrev lead_free : ℕ → Line → Bool
lead_free b line = not (not line.escape && in_line line line.escape b)

-- ---- a part whose first byte may be skipped

-- b where p holds of it, and then R; else S from b on
abbrev pub Maybe : {A : Type 0} → (ℕ → Bool) → (ℕ → List ℕ → A → Type 0) → (List ℕ → A → Type 0)
    → List ℕ → A → Type 0
Maybe p R S = Byte (λ b. Choose (p b) (R b) (λ v a. S (b ∷ v) a))

-- encodings that begin with b are the same
local_meets : {A : Type 0} (R S : List ℕ → A → Type 0) (b : ℕ) (rest encoding : List ℕ) (a : A)
    → ((a : A) → R [] a → ⊥) → ((u : List ℕ) (a : A) → R (b ∷ u) a → S (b ∷ u) a)
    → Meets R (b ∷ rest) encoding a → Meets S (b ∷ rest) encoding a
local_meets R S b rest [] a empty to m = absurd (empty a m.is_encoding)
local_meets {A} R S b rest (c ∷ u) a empty to m =
    let e : b ∷ (rest ++ m.after) ≡ c ∷ (u ++ m.rest) = m.same in
    let head : c ≡ b = cc in
    let P : ℕ → Type 0 = λ n. R (n ∷ u) a in
    let Q : ℕ → Type 0 = λ n. S (n ∷ u) a in
    record {
      is_encoding = subst Q (sym head) (to u a (subst P head m.is_encoding));
      after = m.after;
      rest = m.rest;
      same = m.same;
    }

local_begins : {A : Type 0} (R S : List ℕ → A
    → Type 0) (b : ℕ) (rest : List ℕ) (a : A) (after encoding : List ℕ) → ((a : A) → R [] a
    → ⊥) → ((u : List ℕ) (a : A) → R (b ∷ u) a
    → S (b ∷ u) a) → R encoding a → b ∷ rest ≡ encoding ++ after → S encoding a
local_begins R S b rest a after [] empty to h e = absurd (empty a h)
local_begins {A} R S b rest a after (c ∷ u) empty to h e =
    let e' : b ∷ rest ≡ c ∷ (u ++ after) = e in
    let head : c ≡ b = cc in
    let P : ℕ → Type 0 = λ n. R (n ∷ u) a in
    let Q : ℕ → Type 0 = λ n. S (n ∷ u) a in
    subst Q (sym head) (to u a (subst P head h))

local_exact : {A : Type 0} (R S : List ℕ → A
    → Type 0) (b : ℕ) (rest : List ℕ) (r : Result (A × List ℕ) Stop) → ((a : A) → R [] a
    → ⊥) → ((a : A) → S [] a → ⊥) → ((u : List ℕ) (a : A) → R (b ∷ u) a
    → S (b ∷ u) a) → ((u : List ℕ) (a : A) → S (b ∷ u) a
    → R (b ∷ u) a) → Exact R (b ∷ rest) r → Exact S (b ∷ rest) r
local_exact R S b rest (Ok x) empty gone to back h =
    record {
      encoding = h.encoding;
      is_encoding = local_begins R S b rest x.0 x.1 h.encoding empty
          to h.is_encoding h.parts;
      parts = h.parts;
    }
local_exact R S b rest (Err Undefined) empty gone to back h =
    λ encoding a m. h encoding a (local_meets S R b rest encoding a gone back m)
local_exact R S b rest (Err (Short n)) empty gone to back h = record {
  more = h.more;
  tail = h.tail;
  value = h.value;
  is_encoding = to (rest ++ h.tail) h.value h.is_encoding;
  long = h.long;
  least = λ encoding a m. h.least encoding a (local_meets S R b rest encoding a gone back m);
}

maybe_empty : {A : Type 0} (p : ℕ → Bool) (R : ℕ → List ℕ → A → Type 0) (S : List ℕ → A
    → Type 0) (a : A) → Maybe p R S [] a → ⊥
maybe_empty p R S a h = h

maybe_exact : {A : Type 0} (p : ℕ → Bool) (R : ℕ → List ℕ → A → Type 0) (S : List ℕ → A
    → Type 0) (b : ℕ) (rest : List ℕ) (r s : Result (A × List ℕ) Stop) → b < 256 → ((a : A) → S [] a
    → ⊥) → (p b ≡ true → Exact (R b) rest r) → Exact S (b ∷ rest) s → Exact (Maybe p R S) (b
    ∷ rest) (if p b then r else s)
maybe_exact {A} p R S b rest r s lt empty hr hs = by_test (p b) refl
  where
    Q : ℕ → List ℕ → A → Type 0
    Q c = Choose (p c) (R c) (λ v a. S (c ∷ v) a)

    by_test : (x : Bool) → p b ≡ x → Exact (Byte Q) (b ∷ rest) (if x then r else s)
    by_test true e =
        byte_lift Q b rest r lt
        (exact_as (R b) (Q b) (λ u a h. choose_left (p b) (R b) (λ v a. S (b ∷ v) a) u a e h)
        (λ u a h. left u a (p b) e h) rest r (hr e))
      where
        left : (u : List ℕ) (a : A) (x : Bool) → x ≡ true → Choose x (R b) (λ v a. S (b ∷ v) a) u a
            → R b u a
        left u a true e h = h
        left u a false e h = absurd cc
    by_test false e =
        local_exact S (Byte Q) b rest s empty (λ a h. h)
        (λ u a h. (lt, choose_right (p b) (R b) (λ v a. S (b ∷ v) a) u a e h))
        (λ u a h. right u a (p b) e h.1) hs
      where
        right : (u : List ℕ) (a : A) (x : Bool) → x ≡ false
            → Choose x (R b) (λ v a. S (b ∷ v) a) u a → S (b ∷ u) a
        right u a false e h = h
        right u a true e h = absurd cc

maybe_free : {A : Type 0} (p : ℕ → Bool) (R : ℕ → List ℕ → A → Type 0) (S : List ℕ → A → Type 0)
    → ((b : ℕ) → IsFree (R b)) → IsFree S → IsFree (Maybe p R S)
maybe_free {A} p R S fr fs =
    byte_free (λ b. Choose (p b) (R b) (λ v a. S (b ∷ v) a)) (λ b _. by_test b (p b))
  where
    tail : (b : ℕ) (t u : List ℕ) → b ∷ t ≡ b ∷ u → t ≡ u
    tail b t u e = cc

    by_test : (b : ℕ) (x : Bool) → IsFree (Choose x (R b) (λ v a. S (b ∷ v) a))
    by_test b true = fr b
    by_test b false = record {
      one = λ t u x y v w h k e. let j = fs.one (b ∷ t) (b ∷ u) x y v w h k
          (ap (λ (s : List ℕ). b ∷ s) e) in (tail b t u j.0, j.1);
    }

-- ---- how long encodings are

abbrev pub Late : Stop → ℕ → Type 0
Late (Short k) n = k ≤ n
Late Undefined n = ⊥

pub late_of : {A : Type 0} (R : List ℕ → A → Type 0) (stop : Stop) → Ends R stop
    → (t : List ℕ) (a : A) → R t a → Late stop (length t)
late_of R (Short n) h t a r = h.1.low t a r
late_of R Undefined h t a r = absurd (h t a r)

-- one byte before what s says isn't sooner than t
abbrev pub later : Stop → Stop → Bool
later Undefined t = true
later (Short m) (Short n) = nat_lt n (2 + m)
later (Short m) Undefined = false

late_by : (s t : Stop) (n : ℕ) → later s t ≡ true → Late s n → Late t (1 + n)
late_by Undefined t n e h = absurd h
late_by (Short m) (Short k) n e h = let lt = ltb-true k (2 + m) e in omega arith
late_by (Short m) Undefined n e h = absurd cc

late_low : {A : Type 0} (R S : List ℕ → A → Type 0) (stop : Stop) → Ends S stop
    → ((t : List ℕ) (a : A) → S t a → Late stop (length t) → R t a)
    → ((t : List ℕ) (a : A) → R t a → Late stop (length t)) → Ends R stop
late_low R S (Short n) h to low = (
  h.0,
  record {
    encoding = h.1.encoding;
    value = h.1.value;
    is_encoding = to h.1.encoding
        h.1.value h.1.is_encoding (h.1.low h.1.encoding h.1.value h.1.is_encoding);
    long =
        h.1.long;
    low = low;
  },
)
late_low R S Undefined h to low = low

-- ---- the first byte of an opcode

leads_table : table (λ b. every (λ (line : Line). not (leads b
    && (not line.escape && in_line line line.escape b))) table_lines) 256 ≡ table (λ b. true) 256
unfolding is_prefix is_rex
leads_table = refl

escape_leads : leads 0x0F ≡ false
unfolding is_prefix is_rex
escape_leads = refl

body_first : (lead : Lead) (t : List ℕ) (a : InsnAndSizes) → Body lead t a
    → (b : ℕ) × (u : List ℕ) × (t ≡ b ∷ u) × (b < 256) × (leads b ≡ false)
body_first lead t a h = by_escape h.0 h.1 h.0.escape refl t h.2
  where
    right : (x y z : Bool) → y ≡ true → z ≡ true → not (x && (y && z)) ≡ true → x ≡ false
    right false y z p q e = refl
    right true true true p q e = absurd cc
    right true false z p q e = absurd cc
    right true true false p q e = absurd cc

    plain : (line : Line) (b : ℕ) → In table_lines line → line.escape ≡ false → b < 256
        → in_line line line.escape b ≡ true → leads b ≡ false
    plain line b i e lt k =
        let all : every (λ (l : Line). not (leads b && (not l.escape && in_line l l.escape b)))
        table_lines ≡ true = tabulated
        (λ n. every (λ (l : Line). not (leads n && (not l.escape && in_line l l.escape n)))
        table_lines) (λ n. true) 256 leads_table b lt in
        right (leads b) (not line.escape) (in_line line line.escape b) (ap not e) k
        (every_in (λ (l : Line). not (leads b && (not l.escape && in_line l l.escape b)))
        table_lines line all i)

    by_escape : (line : Line) → In table_lines line → (x : Bool) → line.escape ≡ x → (t : List ℕ)
        → Escaped x (Opcode line lead) t a
        → (b : ℕ) × (u : List ℕ) × (t ≡ b ∷ u) × (b < 256) × (leads b ≡ false)
    by_escape line i true e [] p = absurd p
    by_escape line i true e (b ∷ u) p = let w = when_to (b == 0x0F) (Opcode line lead) u a p.1 in
        (b, u, refl, p.0, ap leads (eqb-true b 0x0F w.0) ∙ escape_leads)
    by_escape line i false e [] p = absurd p
    by_escape line i false e (op ∷ u) p =
        let w = when_to (at_line line lead op) (After line lead op) u a p.1 in (
          op,
          u,
          refl,
          p.0,
          plain line op i e p.0
              (and_true (in_line line line.escape op) (same_bool line.f3 lead.f3
              && w_fits line.w lead.rex.w) w.0).0,
        )

pub body_empty : (lead : Lead) (a : InsnAndSizes) → Body lead [] a → ⊥
body_empty lead a h = let f = body_first lead [] a h in absurd cc

pub or_false : (x y : Bool) → (x || y) ≡ false → (x ≡ false) × (y ≡ false)
or_false true y e = absurd cc
or_false false y e = (refl, e)

head_leads : (b c : ℕ) (u v : List ℕ) → b ∷ u ≡ c ∷ v → leads c ≡ false → leads b ≡ false
head_leads b c u v e h = let k : b ≡ c = cc in ap leads k ∙ h

pub body_leads : (lead : Lead) (b : ℕ) (u : List ℕ) (a : InsnAndSizes) → Body lead (b ∷ u) a
    → (b < 256) × (leads b ≡ false)
body_leads lead b u a h = let f = body_first lead (b ∷ u) a h in let k : b ≡ f.0 = cc in let lt =
    f.3 in (omega arith, head_leads b f.0 u f.1 f.2 f.4)

-- ---- REX

unfoldable pub RexPart : Lead → List ℕ → InsnAndSizes → Type 0
RexPart lead = Maybe is_rex (λ b. Body (with_rex lead b)) (Body lead)

-- the part as it is without the byte
pub maybe_right : {A : Type 0} (p : ℕ → Bool) (R : ℕ → List ℕ → A → Type 0) (S : List ℕ → A
    → Type 0) (b : ℕ) (u : List ℕ) (a : A) → b < 256 → p b ≡ false → S (b ∷ u) a → Maybe p R S (b
    ∷ u) a
maybe_right p R S b u a lt e h = (lt, choose_right (p b) (R b) (λ v x. S (b ∷ v) x) u a e h)

pub maybe_left : {A : Type 0} (p : ℕ → Bool) (R : ℕ → List ℕ → A → Type 0) (S : List ℕ → A
    → Type 0) (b : ℕ) (u : List ℕ) (a : A) → b < 256 → p b ≡ true → R b u a → Maybe p R S (b ∷ u) a
maybe_left p R S b u a lt e h = (lt, choose_left (p b) (R b) (λ v x. S (b ∷ v) x) u a e h)

pub choose_case : {A : Type 0} (b : Bool) (R S : List ℕ → A → Type 0) (t : List ℕ) (a : A)
    → Choose b R S t a → ((b ≡ true) × R t a) ⊎ ((b ≡ false) × S t a)
choose_case true R S t a h = inl (refl, h)
choose_case false R S t a h = inr (refl, h)

-- least_body with a lead that has no REX
abbrev stop5 : Lead → Stop
stop5 lead = least_body lead.lock lead.size_prefix lead.f3 false

rex_later : bools (λ l. bools
    (λ s. bools (λ f. bools (λ b. later (least_body l s f b) (least_body l s f false))))) ≡ bools (λ
    l. bools (λ s. bools (λ f. bools (λ b. true))))
unfolding least_body
rex_later = refl

rex_later_is : (l s f b : Bool) → later (least_body l s f b) (least_body l s f false) ≡ true
rex_later_is l s f b =
    by_bools (λ b. later (least_body l s f b) (least_body l s f false)) (λ b. true)
    (by_bools (λ f. bools (λ b. later (least_body l s f b) (least_body l s f false)))
    (λ f. bools (λ b. true))
    (by_bools (λ s. bools (λ f. bools (λ b. later (least_body l s f b) (least_body l s f false))))
    (λ s. bools (λ f. bools (λ b. true)))
    (by_bools (λ l. bools (λ s. bools
    (λ f. bools (λ b. later (least_body l s f b) (least_body l s f false))))) (λ l. bools (λ s.
    bools (λ f. bools (λ b. true)))) rex_later l) s) f) b

rex_ends : (lead : Lead) → lead.rex.b ≡ false → Ends (RexPart lead) (stop5 lead)
unfolding RexPart with_rex
rex_ends lead e =
    late_low (RexPart lead) (Body lead) (stop5 lead) ends to low
  where
    ends : Ends (Body lead) (least_body lead.lock lead.size_prefix lead.f3 false)
    ends = let P : Bool → Type 0 =
        λ b. Ends (Body lead) (least_body lead.lock lead.size_prefix lead.f3 b) in
        subst P e (body_ends lead)

    plain_rex : (b : ℕ) → leads b ≡ false → is_rex b ≡ false
    plain_rex b h = (or_false (b == 0xF3) (is_rex b) (or_false (is_prefix b) (b == 0xF3
        || is_rex b) h).1).1

    to : (t : List ℕ) (a : InsnAndSizes) → Body lead t a → Late (stop5 lead) (length t)
        → RexPart lead t a
    to [] a h l = absurd (body_empty lead a h)
    to (b ∷ u) a h l = let k = body_leads lead b u a h in
        maybe_right is_rex (λ b. Body (with_rex lead b)) (Body lead) b u a k.0 (plain_rex b k.1) h

    low : (t : List ℕ) (a : InsnAndSizes) → RexPart lead t a → Late (stop5 lead) (length t)
    low [] a h = absurd h
    low (b ∷ u) a h = elim (choose_case (is_rex b) (Body (with_rex lead b))
        (λ v x. Body lead (b ∷ v) x) u a h.1) [
          | inl k ↦ let P : ℕ → Type 0 = Late (stop5 lead) in
              let q : 1 + length u ≡ length (b ∷ u) =
              omega arith in subst P q
              (late_by (least_body lead.lock lead.size_prefix lead.f3 (with_rex lead b).rex.b)
              (stop5 lead) (length u) (rex_later_is lead.lock lead.size_prefix lead.f3
              (with_rex lead b).rex.b) (late_of (Body (with_rex lead b))
              (least_body lead.lock lead.size_prefix lead.f3 (with_rex lead b).rex.b)
              (body_ends (with_rex lead b)) u a k.1))
          | inr k ↦ late_of (Body lead) (stop5 lead) ends (b ∷ u) a k.1
        ]

-- the code without bytes says what stands for the lead
body_nothing : (lead : Lead)
    → body_at lead [] ≡ Err (least_body lead.lock lead.size_prefix lead.f3 lead.rex.b)
unfolding body_at
body_nothing lead = refl

nothing_left : {A : Type 0} (R : List ℕ → A → Type 0) (stop : Stop) (r : Result (A × List ℕ) Stop)
    → r ≡ Err stop → Ends R stop → Exact R [] r
nothing_left {A} R stop r e h = let P : Result (A × List ℕ) Stop
    → Type 0 = Exact R [] in subst P (sym e) (ends_exact R stop h)

pub rex_exact : (lead : Lead) (bytes : List ℕ) → lead.rex.b ≡ false → AreBytes bytes
    → Exact (RexPart lead) bytes (rex_at lead bytes)
unfolding RexPart rex_at
rex_exact lead [] e h = nothing_left (RexPart lead) (stop5 lead) (body_at lead [])
    (body_nothing lead ∙ ap (λ b. Err (least_body lead.lock lead.size_prefix lead.f3 b)) e)
    (rex_ends lead e)
rex_exact lead (b ∷ rest) e h =
    maybe_exact is_rex (λ b. Body (with_rex lead b)) (Body lead) b rest
    (body_at (with_rex lead b) rest) (body_at lead (b ∷ rest)) h.0 (body_empty lead)
    (λ _. body_exact (with_rex lead b) rest h.1) (body_exact lead (b ∷ rest) h)

pub rex_free : (lead : Lead) → IsFree (RexPart lead)
unfolding RexPart
rex_free lead = maybe_free is_rex (λ b. Body (with_rex lead b)) (Body lead)
    (λ b. body_free (with_rex lead b)) (body_free lead)

rex_apart : table (λ b. not (is_rex b && (is_prefix b || b == 0xF3))) 256 ≡ table (λ b. true) 256
unfolding is_prefix is_rex
rex_apart = refl

-- the first byte is no prefix, and no F3
pub rex_first : (lead : Lead) (b : ℕ) (u : List ℕ) (a : InsnAndSizes) → RexPart lead (b ∷ u) a
    → (b < 256) × (is_prefix b ≡ false) × ((b == 0xF3) ≡ false)
unfolding RexPart
rex_first lead b u a h =
    elim (choose_case (is_rex b) (Body (with_rex lead b)) (λ v x. Body lead (b ∷ v) x) u a h.1) [
      | inl k ↦ let t = rex_is b h.0 k.0 in (h.0, t.0, t.1)
      | inr k ↦ let l = or_false (is_prefix b) (b == 0xF3
          || is_rex b) (body_leads lead b u a k.1).1 in
          (h.0, l.0, (or_false (b == 0xF3) (is_rex b) l.1).0)
    ]
  where
    rex_table : table (λ b. not (is_rex b && (is_prefix b || b == 0xF3))) 256
        ≡ table (λ b. true) 256
    rex_table = rex_apart

    both : (x y z : Bool) → x ≡ true → not (x && (y || z)) ≡ true → (y ≡ false) × (z ≡ false)
    both true true z p q = absurd cc
    both true false true p q = absurd cc
    both true false false p q = (refl, refl)
    both false y z p q = absurd cc

    rex_is : (b : ℕ) → b < 256 → is_rex b ≡ true → (is_prefix b ≡ false) × ((b == 0xF3) ≡ false)
    rex_is b lt e = both (is_rex b) (is_prefix b) (b == 0xF3) e
        (tabulated (λ b. not (is_rex b && (is_prefix b || b == 0xF3))) (λ b. true) 256 rex_table b
        lt)

-- ---- F3

unfoldable pub F3Part : Lead → List ℕ → InsnAndSizes → Type 0
F3Part lead = Maybe (λ b. b == 0xF3) (λ b. RexPart (with_f3 lead)) (RexPart lead)

pub rex_empty : (lead : Lead) (a : InsnAndSizes) → RexPart lead [] a → ⊥
unfolding RexPart
rex_empty lead a h = h

f3_later : bools (λ l. bools (λ s. later (least_body l s true false) (least_body l s false false)))
    ≡ bools (λ l. bools (λ s. true))
unfolding least_body
f3_later = refl

f3_later_is : (l s : Bool) → later (least_body l s true false) (least_body l s false false) ≡ true
f3_later_is l s = by_bools (λ s. later (least_body l s true false) (least_body l s false false))
    (λ s. true) (by_bools (λ l. bools
    (λ s. later (least_body l s true false) (least_body l s false false))) (λ l. bools
    (λ s. true)) f3_later l) s

f3_ends : (n : ℕ) (l s : Bool) → Ends (F3Part (prefix_lead n l s)) (least_body l s false false)
unfolding F3Part with_f3 prefix_lead
f3_ends n l s = late_low (F3Part (prefix_lead n l s)) (RexPart (prefix_lead n l s))
    (least_body l s false false) (rex_ends (prefix_lead n l s) refl) to low
  where
    to : (t : List ℕ) (a : InsnAndSizes) → RexPart (prefix_lead n l s) t a
        → Late (least_body l s false false) (length t) → F3Part (prefix_lead n l s) t a
    to [] a h k = absurd (rex_empty (prefix_lead n l s) a h)
    to (b ∷ u) a h k = let f = rex_first (prefix_lead n l s) b u a h in
        maybe_right (λ b. b == 0xF3) (λ b. RexPart (with_f3 (prefix_lead n l s)))
        (RexPart (prefix_lead n l s)) b u a f.0 f.2 h

    low : (t : List ℕ) (a : InsnAndSizes) → F3Part (prefix_lead n l s) t a
        → Late (least_body l s false false) (length t)
    low [] a h = absurd h
    low (b ∷ u) a h = elim (choose_case (b == 0xF3) (RexPart (with_f3 (prefix_lead n l s)))
        (λ v x. RexPart (prefix_lead n l s) (b ∷ v) x) u a h.1) [
          | inl k ↦ let P : ℕ → Type 0 = Late (least_body l s false false) in
              let q : 1 + length u ≡ length (b ∷ u) = omega arith in
              subst P q (late_by (least_body l s true false) (least_body l s false false) (length u)
              (f3_later_is l s) (late_of (RexPart (with_f3 (prefix_lead n l s)))
              (least_body l s true false) (rex_ends (with_f3 (prefix_lead n l s)) refl) u a k.1))
          | inr k ↦ late_of (RexPart (prefix_lead n l s)) (least_body l s false false)
              (rex_ends (prefix_lead n l s) refl) (b ∷ u) a k.1
        ]

f3_exact : (n : ℕ) (l s : Bool) (bytes : List ℕ) → AreBytes bytes
    → Exact (F3Part (prefix_lead n l s)) bytes (f3_at (prefix_lead n l s) bytes)
unfolding F3Part f3_at rex_at with_f3 prefix_lead
f3_exact n l s [] h = nothing_left (F3Part (prefix_lead n l s)) (least_body l s false false)
    (body_at (prefix_lead n l s) []) (body_nothing (prefix_lead n l s)) (f3_ends n l s)
f3_exact n l s (b ∷ rest) h =
    maybe_exact (λ b. b == 0xF3) (λ b. RexPart (with_f3 (prefix_lead n l s)))
    (RexPart (prefix_lead n l s)) b rest (rex_at (with_f3 (prefix_lead n l s)) rest)
    (rex_at (prefix_lead n l s) (b ∷ rest)) h.0 (rex_empty (prefix_lead n l s))
    (λ _. rex_exact (with_f3 (prefix_lead n l s)) rest refl h.1)
    (rex_exact (prefix_lead n l s) (b ∷ rest) refl h)

f3_free : (lead : Lead) → IsFree (F3Part lead)
unfolding F3Part
f3_free lead = maybe_free (λ b. b == 0xF3) (λ b. RexPart (with_f3 lead)) (RexPart lead)
    (λ b. rex_free (with_f3 lead)) (rex_free lead)

pub f3_empty : (lead : Lead) (a : InsnAndSizes) → F3Part lead [] a → ⊥
unfolding F3Part
f3_empty lead a h = h

f3_no_prefix : is_prefix 0xF3 ≡ false
unfolding is_prefix
f3_no_prefix = refl

pub f3_first : (lead : Lead) (b : ℕ) (u : List ℕ) (a : InsnAndSizes) → F3Part lead (b ∷ u) a
    → (b < 256) × (is_prefix b ≡ false)
unfolding F3Part
f3_first lead b u a h = elim (choose_case (b == 0xF3) (RexPart (with_f3 lead))
    (λ v x. RexPart lead (b ∷ v) x) u a h.1) [
      | inl k ↦ (h.0, ap is_prefix (eqb-true b 0xF3 k.0) ∙ f3_no_prefix)
      | inr k ↦ let f = rex_first lead b u a k.1 in (f.0, f.1)
    ]

-- ---- prefixes

unfoldable pub Front : ℕ → Bool → Bool → List ℕ → InsnAndSizes → Type 0
Front n l s [] a = ⊥
Front n l s (b ∷ u) a = (b < 256)
    × (((is_prefix b ≡ true) × Front (n + 1) (l || b == 0xF0) (s || b == 0x66) u a)
    ⊎ ((is_prefix b ≡ false) × F3Part (prefix_lead n l s) (b ∷ u) a))

Prefixed : ℕ → Bool → Bool → List ℕ → InsnAndSizes → Type 0
Prefixed n l s = Maybe is_prefix (λ b. Front (n + 1) (l || b == 0xF0) (s || b == 0x66))
    (F3Part (prefix_lead n l s))

front_to : (n : ℕ) (l s : Bool) (t : List ℕ) (a : InsnAndSizes) → Prefixed n l s t a
    → Front n l s t a
unfolding Prefixed Front
front_to n l s [] a h = h
front_to n l s (b ∷ u) a h = (
  h.0,
  choose_case (is_prefix b) (Front (n + 1) (l || b == 0xF0) (s || b == 0x66))
      (λ v x. F3Part (prefix_lead n l s) (b ∷ v) x) u a h.1,
)

front_back : (n : ℕ) (l s : Bool) (t : List ℕ) (a : InsnAndSizes) → Front n l s t a
    → Prefixed n l s t a
unfolding Prefixed Front
front_back n l s [] a h = h
front_back n l s (b ∷ u) a h = elim h.1 [
  | inl k ↦ maybe_left is_prefix (λ b. Front (n + 1) (l || b == 0xF0) (s || b == 0x66))
      (F3Part (prefix_lead n l s)) b u a h.0 k.0 k.1
  | inr k ↦ maybe_right is_prefix (λ b. Front (n + 1) (l || b == 0xF0) (s || b == 0x66))
      (F3Part (prefix_lead n l s)) b u a h.0 k.0 k.1
]

prefix_later : bools (λ l. bools
    (λ s. bools (λ x. bools (λ y. later (least_body (l || x) (s || y) false false)
    (least_body l s false false))))) ≡ bools (λ l. bools (λ s. bools (λ x. bools (λ y. true))))
unfolding least_body
prefix_later = refl

prefix_later_is : (l s x y : Bool)
    → later (least_body (l || x) (s || y) false false) (least_body l s false false) ≡ true
prefix_later_is l s x y =
    by_bools (λ y. later (least_body (l || x) (s || y) false false) (least_body l s false false))
    (λ y. true)
    (by_bools (λ x. bools (λ y. later (least_body (l || x) (s || y) false false)
    (least_body l s false false))) (λ x. bools (λ y. true))
    (by_bools (λ s. bools (λ x. bools (λ y. later (least_body (l || x) (s || y) false false)
    (least_body l s false false)))) (λ s. bools (λ x. bools (λ y. true)))
    (by_bools (λ l. bools (λ s. bools
    (λ x. bools (λ y. later (least_body (l || x) (s || y) false false)
    (least_body l s false false))))) (λ l. bools (λ s. bools (λ x. bools (λ y.
    true)))) prefix_later l) s) x) y

front_low : (n : ℕ) (l s : Bool) (t : List ℕ) (a : InsnAndSizes) → Front n l s t a
    → Late (least_body l s false false) (length t)
unfolding Front
front_low n l s [] a h = absurd h
front_low n l s (b ∷ u) a h = elim h.1 [
  | inl k ↦ let P : ℕ → Type 0 = Late (least_body l s false false) in
      let q : 1 + length u ≡ length (b ∷ u) = omega arith in
      subst P q (late_by (least_body (l || b == 0xF0) (s || b == 0x66) false false)
      (least_body l s false false) (length u) (prefix_later_is l s (b == 0xF0) (b == 0x66))
      (front_low (n + 1) (l || b == 0xF0) (s || b == 0x66) u a k.1))
  | inr k ↦ late_of (F3Part (prefix_lead n l s)) (least_body l s false false) (f3_ends n l s) (b
      ∷ u) a k.1
]

front_ends : (n : ℕ) (l s : Bool) → Ends (Front n l s) (least_body l s false false)
unfolding Front
front_ends n l s = late_low (Front n l s) (F3Part (prefix_lead n l s)) (least_body l s false false)
    (f3_ends n l s) to (front_low n l s)
  where
    to : (t : List ℕ) (a : InsnAndSizes) → F3Part (prefix_lead n l s) t a
        → Late (least_body l s false false) (length t) → Front n l s t a
    to [] a h k = absurd (f3_empty (prefix_lead n l s) a h)
    to (b ∷ u) a h k = let f = f3_first (prefix_lead n l s) b u a h in (f.0, inr (f.1, h))

pub front_exact : (n : ℕ) (l s : Bool) (bytes : List ℕ) → AreBytes bytes
    → Exact (Front n l s) bytes (front_at n l s bytes)
unfolding Prefixed front_at f3_at rex_at prefix_lead
front_exact n l s [] h =
    nothing_left (Front n l s) (least_body l s false false) (body_at (prefix_lead n l s) [])
    (body_nothing (prefix_lead n l s)) (front_ends n l s)
front_exact n l s (b ∷ rest) h =
    exact_as (Prefixed n l s) (Front n l s) (front_to n l s) (front_back n l s) (b
    ∷ rest) (if is_prefix b then front_at (n + 1) (l || b == 0xF0) (s || b == 0x66) rest
    else f3_at (prefix_lead n l s) (b ∷ rest))
    (maybe_exact is_prefix (λ b. Front (n + 1) (l || b == 0xF0) (s || b == 0x66))
    (F3Part (prefix_lead n l s)) b rest (front_at (n + 1) (l || b == 0xF0) (s
    || b == 0x66) rest) (f3_at (prefix_lead n l s) (b
    ∷ rest)) h.0 (f3_empty (prefix_lead n l s))
    (λ _. front_exact (n + 1) (l || b == 0xF0) (s || b == 0x66) rest h.1)
    (f3_exact n l s (b ∷ rest) h))

front_one : (n : ℕ) (l s : Bool) (t u : List ℕ) (a b : InsnAndSizes) (x y : List ℕ)
    → Front n l s t a → Front n l s u b → t ++ x ≡ u ++ y → (t ≡ u) × (a ≡ b)
unfolding Front
front_one n l s [] u a b x y p q e = absurd p
front_one n l s (c ∷ t) [] a b x y p q e = absurd q
front_one n l s (c ∷ t) (d ∷ u) a b x y p q e =
    let e' : c ∷ (t ++ x) ≡ d ∷ (u ++ y) = e in
    let head : d ≡ c = cc in
    let rest : t ++ x ≡ u ++ y = cc in
    let P : ℕ → Type 0 = λ n'. Front n l s (n' ∷ u) b in
    let q' : Front n l s (c ∷ u) b = subst P head q in
    let j = same c p.1 q'.1 rest (front_one (n + 1) (l || c == 0xF0) (s
    || c == 0x66) t u a b x y) in
    (cc, j.1)
  where
    drop_head : (c : ℕ) → c ∷ t ≡ c ∷ u → t ≡ u
    drop_head c e = cc

    same : (c : ℕ) → ((is_prefix c ≡ true) × Front (n + 1) (l || c == 0xF0) (s || c == 0x66) t a)
        ⊎ ((is_prefix c ≡ false) × F3Part (prefix_lead n l s) (c ∷ t) a)
        → ((is_prefix c ≡ true) × Front (n + 1) (l || c == 0xF0) (s || c == 0x66) u b)
        ⊎ ((is_prefix c ≡ false) × F3Part (prefix_lead n l s) (c ∷ u) b) → t ++ x ≡ u ++ y
        → (Front (n + 1) (l || c == 0xF0) (s || c == 0x66) t a
        → Front (n + 1) (l || c == 0xF0) (s || c == 0x66) u b → t ++ x ≡ u ++ y
        → (t ≡ u) × (a ≡ b)) → (t ≡ u) × (a ≡ b)
    same c (inl h) (inl k) r rec = rec h.1 k.1 r
    same c (inl h) (inr k) r rec = let z = h.0 in let w = k.0 in absurd cc
    same c (inr h) (inl k) r rec = let z = h.0 in let w = k.0 in absurd cc
    same c (inr h) (inr k) r rec = let j =
        (f3_free (prefix_lead n l s)).one (c ∷ t) (c ∷ u) a b x y h.1 k.1
        (ap (λ (z : List ℕ). c ∷ z) r) in (drop_head c j.0, j.1)

pub front_free : (n : ℕ) (l s : Bool) → IsFree (Front n l s)
front_free n l s = record { one = front_one n l s }
