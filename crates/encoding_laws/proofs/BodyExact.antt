-- Opcode and operands are read exactly.
use Rattle.std.proofs.Common.{◌≡◌, ℕ, ◌==◌, ◌&&◌, not, Bool, true, false, List, [], ◌∷◌, refl, sym}
use Rattle.std.proofs.Common.{ap, subst, ◌∙◌, if◌then◌else◌}
use Rattle.std.proofs.lemmas.Bool.{eqb-true}
use Rattle.erim_defs.specs.declared.grammar.Lead.{Lead}
use Rattle.erim_defs.specs.Encoding.Cursor.{byte_at, ◌>>=◌}
use Rattle.erim_defs.specs.Encoding.Parts.{AreBytes, Byte, Choose}
use Rattle.encoding_laws.proofs.Exact.{Exact, IsFree}
use Rattle.erim_defs.specs.Encoding.OpcodeTable.{Line, table_lines, in_line, same_bool, w_fits}
use Rattle.erim_defs.specs.Encoding.Grammar.{at_line, InsnAndSizes, In, After, Opcode, Escaped}
use Rattle.erim_defs.specs.Encoding.Grammar.{Body}
use Rattle.erim_defs.specs.Encoding.Decoding.{least_body, least_second, tail_at, body_at}
use Rattle.encoding_laws.proofs.PartLemmas.{ends_as, exact_as, free_as, byte_exact, byte_free}
use Rattle.encoding_laws.proofs.PartLemmas.{when_to}
use Rattle.encoding_laws.proofs.PartLemmas.{when_back}
use Rattle.encoding_laws.proofs.LineLemmas.{and_true}
use Rattle.encoding_laws.proofs.OpcodeMapLemmas.{not_escape}
use Rattle.encoding_laws.proofs.TailLemmas.{Tail, tail_exact, tail_free}
use Rattle.encoding_laws.proofs.BodyLemmas.{Opcoded, opcoded_to, opcoded_back, choose_left}
use Rattle.encoding_laws.proofs.StopLemmas.{two_ends, body_ends}

-- by its first byte
unfoldable pub First : Lead → ℕ → List ℕ → InsnAndSizes → Type 0
First lead op = Choose (op == 0x0F) (Byte (Tail lead true)) (Tail lead false op)

no_escape : (line : Line) (lead : Lead) (op : ℕ) → In table_lines line → line.escape ≡ false
    → (op == 0x0F) ≡ true → at_line line lead op ≡ true → ⊥
no_escape line lead op i e q h =
    let is : op ≡ 0x0F = eqb-true op 0x0F q in
    let here = (and_true (in_line line line.escape op) (same_bool line.f3 lead.f3
    && w_fits line.w lead.rex.w) h).0 in
    let there : in_line line false 0x0F ≡ true = ap (λ b. in_line line b 0x0F) (sym e)
    ∙ ap (in_line line line.escape) (sym is) ∙ here in
    contrary (in_line line false 0x0F) there (not_escape line i)
  where
    contrary : (b : Bool) → b ≡ true → not b ≡ true → ⊥
    contrary true p q = absurd cc
    contrary false p q = absurd cc

body_to : (lead : Lead) (t : List ℕ) (a : InsnAndSizes) → Body lead t a → Byte (First lead) t a
unfolding First Opcoded
body_to lead t a h = by_escape h.0 h.1 h.0.escape refl t h.2
  where
    by_first : (line : Line) (op : ℕ) (u : List ℕ) → In table_lines line → line.escape ≡ false
        → Opcode line lead (op ∷ u) a → (b : Bool) → (op == 0x0F) ≡ b
        → Choose b (Byte (Tail lead true)) (Tail lead false op) u a
    by_first line op u i e p true q =
        absurd (no_escape line lead op i e q (when_to (at_line line lead op) (After line lead op) u
        a p.1).0)
    by_first line op u i e p false q = (opcoded_to lead false (op ∷ u) a (line, i, e, p)).1

    by_escape : (line : Line) → In table_lines line → (b : Bool) → line.escape ≡ b → (t : List ℕ)
        → Escaped b (Opcode line lead) t a → Byte (First lead) t a
    by_escape line i true e [] p = absurd p
    by_escape line i true e (b ∷ u) p =
        let w = when_to (b == 0x0F) (Opcode line lead) u a p.1 in (
          p.0,
          choose_left (b == 0x0F) (Byte (Tail lead true)) (Tail lead false b) u a w.0
              (opcoded_to lead true u a (line, i, e, w.1)),
        )
    by_escape line i false e [] p = absurd p
    by_escape line i false e (op ∷ u) p = (p.0, by_first line op u i e p (op == 0x0F) refl)

pub body_back : (lead : Lead) (t : List ℕ) (a : InsnAndSizes) → Byte (First lead) t a
    → Body lead t a
unfolding First Opcoded
body_back lead [] a h = absurd h
body_back lead (op ∷ u) a h = by_first (op == 0x0F) refl h.1
  where
    escaped : (line : Line) (b : Bool) (t : List ℕ) → line.escape ≡ b
        → Escaped b (Opcode line lead) t a → Escaped line.escape (Opcode line lead) t a
    escaped line b t e p = let P : Bool
        → Type 0 = λ x. Escaped x (Opcode line lead) t a in subst P (sym e) p

    by_first : (b : Bool) → (op == 0x0F) ≡ b
        → Choose b (Byte (Tail lead true)) (Tail lead false op) u a → Body lead (op ∷ u) a
    by_first true q p = let o = opcoded_back lead true u a p in (
      o.0,
      o.1,
      escaped o.0 true (op
          ∷ u) o.2 (h.0, when_back (op == 0x0F) (Opcode o.0 lead) u a q o.3),
    )
    by_first false q p = let o = opcoded_back lead false (op ∷ u) a (h.0, p) in
        (o.0, o.1, escaped o.0 false (op ∷ u) o.2 o.3)

first_exact : (lead : Lead) (op : ℕ) (bytes : List ℕ) → AreBytes bytes
    → Exact (First lead op) bytes (if op == 0x0F
    then (byte_at (least_second lead.lock lead.size_prefix lead.f3) bytes >>= λ y. tail_at lead true
    y.0 y.1) else tail_at lead false op bytes)
unfolding First
first_exact lead op bytes h = by_first (op == 0x0F)
  where
    by_first : (b : Bool) → Exact (Choose b (Byte (Tail lead true)) (Tail lead false op)) bytes
        (if b then (byte_at (least_second lead.lock lead.size_prefix lead.f3) bytes >>= λ y. tail_at
        lead true y.0 y.1) else tail_at lead false op bytes)
    by_first true =
        byte_exact (Tail lead true) (λ y. tail_at lead true y.0 y.1)
        (least_second lead.lock lead.size_prefix lead.f3)
        (ends_as (Opcoded lead true) (Byte (Tail lead true))
        (least_second lead.lock lead.size_prefix lead.f3) (opcoded_to lead true)
        (opcoded_back lead true) (two_ends lead))
        (λ b rest _ are. tail_exact lead true b rest are) bytes h
    by_first false = tail_exact lead false op bytes h

first_free : (lead : Lead) (op : ℕ) → IsFree (First lead op)
unfolding First
first_free lead op = by_first (op == 0x0F)
  where
    by_first : (b : Bool) → IsFree (Choose b (Byte (Tail lead true)) (Tail lead false op))
    by_first true = byte_free (Tail lead true) (λ b _. tail_free lead true b)
    by_first false = tail_free lead false op

pub body_exact : (lead : Lead) (bytes : List ℕ) → AreBytes bytes
    → Exact (Body lead) bytes (body_at lead bytes)
unfolding body_at
body_exact lead bytes h =
    exact_as (Byte (First lead)) (Body lead) (body_back lead) (body_to lead) bytes
    (body_at lead bytes)
    (byte_exact (First lead) (λ x. if x.0 == 0x0F
    then (byte_at (least_second lead.lock lead.size_prefix lead.f3) x.1 >>= λ y. tail_at lead
    true y.0 y.1) else tail_at lead false x.0 x.1)
    (least_body lead.lock lead.size_prefix lead.f3 lead.rex.b)
    (ends_as (Body lead) (Byte (First lead))
    (least_body lead.lock lead.size_prefix lead.f3 lead.rex.b) (body_to lead) (body_back lead)
    (body_ends lead))
    (λ op rest _ are. first_exact lead op rest are) bytes h)

pub body_free : (lead : Lead) → IsFree (Body lead)
body_free lead = free_as (Byte (First lead)) (Body lead) (body_to lead)
    (byte_free (First lead) (λ op _. first_free lead op))
