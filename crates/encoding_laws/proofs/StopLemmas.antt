-- The shortest encoding of each line, and of all lines.
use Rattle.std.proofs.Common.{◌⊎◌, ◌≡◌, ℕ, ◌+◌, ◌*◌, ◌<◌, ◌≤◌, ◌==◌, ◌&&◌, ◌||◌, not, nat_lt, Bool}
use Rattle.std.proofs.Common.{true, false, List, [], ◌∷◌, length, refl, sym, ap, subst, ◌∙◌, arith}
use Rattle.std.proofs.Common.{inl, inr, if◌then◌else◌}
use Rattle.std.proofs.lemmas.Bool.{ltb-true}
use Rattle.erim_defs.specs.declared.grammar.Stop.{Stop}
use Rattle.erim_defs.specs.declared.grammar.Stop.TheVariants.{Undefined, Short}
use Rattle.erim_defs.specs.declared.grammar.Lead.{Lead}
use Rattle.erim_defs.specs.declared.grammar.Row.{Row}
use Rattle.erim_defs.specs.declared.insn.Place.TheVariants.{Reg}
use Rattle.erim_defs.specs.Encoding.Parts.{Byte, Choose, When}
use Rattle.erim_defs.specs.Encoding.OpcodeTable.{Line, Ask, NoModRM, Any, AnyMemory, Ext, Memory}
use Rattle.erim_defs.specs.Encoding.OpcodeTable.{Exactly, table_lines, in_line, has_modrm, ask_fits}
use Rattle.erim_defs.specs.Encoding.OpcodeTable.{same_bool, w_fits}
use Rattle.encoding_laws.proofs.LineLemmas.{every, and_true, both_true}
use Rattle.erim_defs.specs.Encoding.Grammar.{at_line, InsnAndSizes, In, Rest, After, Opcode}
use Rattle.erim_defs.specs.Encoding.Grammar.{Escaped, Body, admits}
use Rattle.erim_defs.specs.Encoding.Decoding.{sooner_stop, least_body, least_second}
use Rattle.erim_defs.specs.Encoding.Operand.{Operand}
use Rattle.encoding_laws.proofs.PartLemmas.{Sized, Ends, union_ends, ends_as, sized_is, byte_sized}
use Rattle.encoding_laws.proofs.PartLemmas.{when_to}
use Rattle.encoding_laws.proofs.OperandLemmas.{operand_size, operand_sized}
use Rattle.erim_defs.proofs.TableLemmas.{bools, by_bools}
use Rattle.encoding_laws.proofs.TailLemmas.{rest_sized, OfPlain, OfModrm}
use Rattle.encoding_laws.proofs.BodyLemmas.{Opcoded}

-- a byte that fits, with neither SIB nor displacement, and memory where that is asked for
abbrev pub sample : Ask → ℕ
sample NoModRM = 0
sample Any = 0
sample AnyMemory = 0
sample (Ext r) = 8 * r
sample (Memory r) = 8 * r
sample (Exactly m) = m

abbrev pub sound : Line → Bool
sound line = (in_line line line.escape line.from && nat_lt line.from 256)
    && ((nat_lt (sample line.ask) 256 && ask_fits line.ask (sample line.ask))
    && (nat_lt (operand_size (sample line.ask)) 1
    && (not line.row.locks || nat_lt (sample line.ask) 192)))

pub lines_sound : every sound table_lines ≡ true
unfolding Rattle.erim_defs.specs.Encoding.Operand.has_sib
    Rattle.erim_defs.specs.Encoding.Operand.disp_size
lines_sound = refl

-- ---- admitted with some byte is admitted with the sample

abbrev pub admit : Bool → Bool → Bool → Row → ℕ → Bool
admit lock size_prefix b row m = (not lock || (row.locks && nat_lt m 192))
    && ((not size_prefix || row.size_prefix) && (not b || not row.low))

sample_admits : (lead : Lead) (row : Row) (m n : ℕ) → (not row.locks || nat_lt n 192) ≡ true
    → admits lead row m ≡ true → admits lead row n ≡ true
unfolding admits
sample_admits lead row m n e h =
    let k = and_true (not lead.lock || (row.locks && nat_lt m 192)) ((not lead.size_prefix
    || row.size_prefix) && (not lead.rex.b || not row.low)) h in
    both_true (not lead.lock || (row.locks && nat_lt n 192)) ((not lead.size_prefix
    || row.size_prefix) && (not lead.rex.b
    || not row.low)) (by_lock lead.lock row.locks (nat_lt m 192) (nat_lt n 192) e k.0) k.1
  where
    by_lock : (l r a b : Bool) → (not r || b) ≡ true → (not l || (r && a)) ≡ true
        → (not l || (r && b)) ≡ true
    by_lock false r a b p q = refl
    by_lock true true a b p q = p
    by_lock true false a b p q = absurd cc

-- ---- one line

abbrev pub line_fits : Line → Bool → Bool → Bool
line_fits line f3 w = same_bool line.f3 f3 && w_fits line.w w

abbrev pub size : Line → ℕ
size line = 1 + (if has_modrm line.ask then 1 + line.row.imm else line.row.imm)

record Sound (line : Line) : Type 0 where
  inside : in_line line line.escape line.from ≡ true
  from : line.from < 256
  byte : sample line.ask < 256
  asked : ask_fits line.ask (sample line.ask) ≡ true
  bare : operand_size (sample line.ask) < 1
  locks : (not line.row.locks || nat_lt (sample line.ask) 192) ≡ true

sound_is : (line : Line) → sound line ≡ true → Sound line
sound_is line e =
    let a = and_true (in_line line line.escape line.from
    && nat_lt line.from 256) ((nat_lt (sample line.ask) 256
    && ask_fits line.ask (sample line.ask)) && (nat_lt (operand_size (sample line.ask)) 1
    && (not line.row.locks || nat_lt (sample line.ask) 192))) e in
    let b = and_true (in_line line line.escape line.from) (nat_lt line.from 256) a.0 in
    let c = and_true (nat_lt (sample line.ask) 256
    && ask_fits line.ask (sample line.ask)) (nat_lt (operand_size (sample line.ask)) 1
    && (not line.row.locks || nat_lt (sample line.ask) 192)) a.1 in
    let d = and_true (nat_lt (sample line.ask) 256) (ask_fits line.ask (sample line.ask)) c.0 in
    let f = and_true (nat_lt (operand_size (sample line.ask)) 1) (not line.row.locks
    || nat_lt (sample line.ask) 192) c.1 in
    record {
      inside = b.0;
      from = ltb-true line.from 256 b.1;
      byte = ltb-true (sample line.ask) 256
          d.0;
      asked = d.1;
      bare = ltb-true (operand_size (sample line.ask)) 1 f.0;
      locks = f.1;
    }

when_sized : {A : Type 0} (b : Bool) (R : List ℕ → A → Type 0) (n : ℕ) → b ≡ true → Sized R n
    → Sized (When b R) n
when_sized true R n e h = h
when_sized false R n e h = absurd cc

plain_sample : (ask : Ask) → has_modrm ask ≡ false → sample ask ≡ 0
plain_sample NoModRM e = refl
plain_sample Any e = absurd cc
plain_sample AnyMemory e = absurd cc
plain_sample (Ext r) e = absurd cc
plain_sample (Memory r) e = absurd cc
plain_sample (Exactly r) e = absurd cc

abbrev tail_size : Line → ℕ
tail_size line = if has_modrm line.ask then 1 + line.row.imm else line.row.imm

after_sized : (line : Line) (lead : Lead) (op : ℕ) → Sound line
    → admits lead line.row (sample line.ask) ≡ true → Sized (After line lead op) (tail_size line)
after_sized line lead op s a = by_modrm (has_modrm line.ask) refl
  where
    Modrm : ℕ → List ℕ → InsnAndSizes → Type 0
    Modrm m = When (ask_fits line.ask m && admits lead line.row m) (OfModrm lead op m line.row)

    Plain : List ℕ → InsnAndSizes → Type 0
    Plain = When (admits lead line.row 0) (OfPlain lead op line.row)

    operand : (m : ℕ) → Sized (OfModrm lead op m line.row) (operand_size m + line.row.imm)
    operand m = operand_sized lead.rex m (λ place. Rest lead op m line.row place) line.row.imm
        (λ place. rest_sized lead op m line.row place)

    low : (m : ℕ) (u : List ℕ) (x : InsnAndSizes) → m < 256 → Modrm m u x → line.row.imm ≤ length u
    low m u x lt h = let w =
        when_to (ask_fits line.ask m && admits lead line.row m) (OfModrm lead op m line.row) u x
        h in let k : operand_size m + line.row.imm ≤ length u = (operand m).low u x w.1 in
        omega arith

    by_modrm : (b : Bool) → has_modrm line.ask ≡ b
        → Sized (Choose b (Byte Modrm) Plain) (if b then 1 + line.row.imm else line.row.imm)
    by_modrm true e =
        let bare = s.bare in
        byte_sized Modrm line.row.imm (sample line.ask) s.byte
        (when_sized (ask_fits line.ask (sample line.ask)
        && admits lead line.row (sample line.ask)) (OfModrm lead op (sample line.ask)
        line.row) line.row.imm
        (both_true (ask_fits line.ask (sample line.ask)) (admits lead line.row (sample line.ask))
        s.asked a)
        (sized_is (OfModrm lead op (sample line.ask) line.row)
        (operand_size (sample line.ask) + line.row.imm) line.row.imm (omega arith)
        (operand (sample line.ask))))
        low
    by_modrm false e = when_sized (admits lead line.row 0) (OfPlain lead op line.row) line.row.imm
        (ap (λ m. admits lead line.row m) (sym (plain_sample line.ask e))
        ∙ a) (rest_sized lead op 0 line.row (Reg 0, 0))

-- some byte is admitted where there is an encoding
after_admits : (line : Line) (lead : Lead) (op : ℕ) (t : List ℕ) (x : InsnAndSizes) → Sound line
    → After line lead op t x → admits lead line.row (sample line.ask) ≡ true
after_admits line lead op t x s h = by_modrm (has_modrm line.ask) refl t h
  where
    Modrm : ℕ → List ℕ → InsnAndSizes → Type 0
    Modrm m = When (ask_fits line.ask m && admits lead line.row m) (OfModrm lead op m line.row)

    Plain : List ℕ → InsnAndSizes → Type 0
    Plain = When (admits lead line.row 0) (OfPlain lead op line.row)

    by_modrm : (b : Bool) → has_modrm line.ask ≡ b → (u : List ℕ) → Choose b (Byte Modrm) Plain u x
        → admits lead line.row (sample line.ask) ≡ true
    by_modrm true e [] p = absurd p
    by_modrm true e (m ∷ v) p =
        let w = when_to (ask_fits line.ask m && admits lead line.row m) (OfModrm lead op m line.row)
        v x p.1 in
        sample_admits lead line.row m (sample line.ask) s.locks
        (and_true (ask_fits line.ask m) (admits lead line.row m) w.0).1
    by_modrm false e u p = sample_admits lead line.row 0 (sample line.ask) s.locks
        (when_to (admits lead line.row 0) (OfPlain lead op line.row) u x p).0

-- what a line's opcode begins at the least
unfoldable pub opcode_stop : Lead → Line → Stop
opcode_stop lead line = if line_fits line lead.f3 lead.rex.w
    && admits lead line.row (sample line.ask) then Short (1 + tail_size line) else Undefined

opcode_ends : (line : Line) (lead : Lead) → Sound line
    → Ends (Opcode line lead) (opcode_stop lead line)
unfolding opcode_stop
opcode_ends line lead s =
    by_test (line_fits line lead.f3 lead.rex.w && admits lead line.row (sample line.ask)) refl
  where
    S : ℕ → List ℕ → InsnAndSizes → Type 0
    S op = When (at_line line lead op) (After line lead op)

    here : (op : ℕ) (u : List ℕ) (x : InsnAndSizes) → S op u x
        → (line_fits line lead.f3 lead.rex.w && admits lead line.row (sample line.ask)) ≡ true
    here op u x h =
        let w = when_to (at_line line lead op) (After line lead op) u x h in
        both_true (line_fits line lead.f3 lead.rex.w) (admits lead line.row (sample line.ask))
        (and_true (in_line line line.escape op) (line_fits line lead.f3 lead.rex.w) w.0).1
        (after_admits line lead op u x s w.1)

    low : admits lead line.row (sample line.ask) ≡ true → (op : ℕ) (u : List ℕ) (x : InsnAndSizes)
        → op < 256 → S op u x → tail_size line ≤ length u
    low a op u x lt h = (after_sized line lead op s a).low u x
        (when_to (at_line line lead op) (After line lead op) u x h).1

    none : (line_fits line lead.f3 lead.rex.w && admits lead line.row (sample line.ask)) ≡ false
        → (t : List ℕ) (x : InsnAndSizes) → Byte S t x → ⊥
    none e [] x h = h
    none e (op ∷ u) x h = let k = here op u x h.1 in absurd cc

    by_test : (b : Bool) → (line_fits line lead.f3 lead.rex.w
        && admits lead line.row (sample line.ask)) ≡ b → Ends (Byte S) (if b
        then Short (1 + tail_size line) else Undefined)
    by_test true e =
        let both = and_true (line_fits line lead.f3 lead.rex.w)
        (admits lead line.row (sample line.ask)) e in (
          omega arith,
          byte_sized S (tail_size line) line.from s.from
              (when_sized (at_line line lead line.from) (After line lead line.from) (tail_size line)
              (both_true (in_line line line.escape line.from)
              (line_fits line lead.f3 lead.rex.w) s.inside both.0) (after_sized line lead
              line.from s both.1))
              (low both.1),
        )
    by_test false e = none e

-- ---- several lines

abbrev pub stops : (Line → Stop) → List Line → Stop
stops f [] = Undefined
stops f (line ∷ ls) = sooner_stop (f line) (stops f ls)

Some-line : (Line → List ℕ → InsnAndSizes → Type 0) → List Line → List ℕ → InsnAndSizes → Type 0
Some-line G ls t a = (line : Line) × In ls line × G line t a

stops_ends : (G : Line → List ℕ → InsnAndSizes → Type 0) (f : Line → Stop)
    → ((line : Line) → Sound line → Ends (G line) (f line)) → (ls : List Line)
    → every sound ls ≡ true → Ends (Some-line G ls) (stops f ls)
unfolding Some-line
stops_ends G f each [] e = λ t a h. h.1
stops_ends G f each (line ∷ ls) e =
    let k = and_true (sound line) (every sound ls) e in
    union_ends (Some-line G (line ∷ ls)) (G line) (Some-line G ls) (f line) (stops f ls)
    (record {
      left = λ t a h. (line, inl refl, h);
      right = λ t a h. (h.0, inr h.1, h.2);
      either = λ t a h. by_place t a h.0 h.2 h.1;
    })
    (each line (sound_is line k.0)) (stops_ends G f each ls k.1)
  where
    by_place : (t : List ℕ) (a : InsnAndSizes) (l : Line) → G l t a → (line ≡ l) ⊎ In ls l
        → (G line t a) ⊎ ((x : Line) × In ls x × G x t a)
    by_place t a l g (inl e) = let P : Line → Type 0 = λ x. G x t a in inl (subst P (sym e) g)
    by_place t a l g (inr i) = inr (l, i, g)

-- ---- the two places

unfoldable pub escaped_stop : Stop → Stop
escaped_stop (Short n) = Short (1 + n)
escaped_stop Undefined = Undefined

unfoldable pub two_stop : Lead → Line → Stop
two_stop lead line = if line.escape then opcode_stop lead line else Undefined

unfoldable pub body_stop : Lead → Line → Stop
body_stop lead line = if line.escape then escaped_stop (opcode_stop lead line)
    else opcode_stop lead line

two_line_ends : (lead : Lead) (line : Line) → Sound line
    → Ends (λ t a. (line.escape ≡ true) × Opcode line lead t a) (two_stop lead line)
unfolding two_stop
two_line_ends lead line s = by_escape line.escape refl
  where
    by_escape : (b : Bool) → line.escape ≡ b
        → Ends (λ t a. (line.escape ≡ true) × Opcode line lead t a) (if b then opcode_stop lead line
        else Undefined)
    by_escape true e = ends_as (Opcode line lead) (λ t a. (line.escape ≡ true)
        × Opcode line lead t a) (opcode_stop lead line) (λ t a h. (e, h)) (λ t a h.
        h.1) (opcode_ends line lead s)
    by_escape false e = λ t a h. let k = h.0 in absurd cc

escaped_ends : (R : List ℕ → InsnAndSizes → Type 0) (stop : Stop) → Ends R stop
    → Ends (Byte (λ b. When (b == 0x0F) R)) (escaped_stop stop)
unfolding escaped_stop
escaped_ends R (Short n) h = (
  omega arith,
  byte_sized (λ b. When (b == 0x0F) R) n 0x0F (omega arith) h.1
      (λ c u x lt w. h.1.low u x (when_to (c == 0x0F) R u x w).1),
)
escaped_ends R Undefined h = none
  where
    none : (t : List ℕ) (x : InsnAndSizes) → Byte (λ b. When (b == 0x0F) R) t x → ⊥
    none [] x p = p
    none (b ∷ u) x p = h u x (when_to (b == 0x0F) R u x p.1).1

body_line_ends : (lead : Lead) (line : Line) → Sound line
    → Ends (Escaped line.escape (Opcode line lead)) (body_stop lead line)
unfolding body_stop
body_line_ends lead line s = by_escape line.escape
  where
    by_escape : (b : Bool) → Ends (Escaped b (Opcode line lead)) (if b
        then escaped_stop (opcode_stop lead line) else opcode_stop lead line)
    by_escape true = escaped_ends (Opcode line lead) (opcode_stop lead line)
        (opcode_ends line lead s)
    by_escape false = opcode_ends line lead s

-- ---- the code's numbers, computed by the checker

abbrev made : Bool → Bool → Bool → Bool → Bool → Lead
made l s f w b = record {
  skip = 0;
  lock = l;
  size_prefix = s;
  f3 = f;
  rex = record { any = false; w = w; r = false; x = false; b = b };
}

-- the values of a function of five truth values
abbrev five : {A : Type 0} → (Bool → Bool → Bool → Bool → Bool → A)
    → List (List (List (List (List A))))
five f = bools (λ l. bools (λ s. bools (λ p. bools (λ w. bools (λ b. f l s p w b)))))

five_is : {A : Type 0} (f g : Bool → Bool → Bool → Bool → Bool → A) → five f ≡ five g
    → (l s p w b : Bool) → f l s p w b ≡ g l s p w b
five_is f g e l s p w b =
    by_bools (λ b. f l s p w b) (λ b. g l s p w b)
    (by_bools (λ w. bools (λ b. f l s p w b)) (λ w. bools (λ b. g l s p w b))
    (by_bools (λ p. bools (λ w. bools (λ b. f l s p w b)))
    (λ p. bools (λ w. bools (λ b. g l s p w b)))
    (by_bools (λ s. bools (λ p. bools (λ w. bools (λ b. f l s p w b))))
    (λ s. bools (λ p. bools (λ w. bools (λ b. g l s p w b))))
    (by_bools (λ l. bools (λ s. bools (λ p. bools (λ w. bools (λ b. f l s p w b)))))
    (λ l. bools (λ s. bools (λ p. bools (λ w. bools (λ b. g l s p w b))))) e l) s) p) w) b

two_table : five (λ l s f w b. stops (two_stop (made l s f w b)) table_lines)
    ≡ five (λ l s f w b. least_second l s f)
unfolding two_stop opcode_stop sooner_stop admits least_second
two_table = refl

body_table : five (λ l s f w b. stops (body_stop (made l s f w b)) table_lines)
    ≡ five (λ l s f w b. least_body l s f b)
unfolding body_stop opcode_stop escaped_stop sooner_stop admits least_body
body_table = refl

stops_same : (f g : Line → Stop) (ls : List Line) → ((line : Line) → f line ≡ g line)
    → stops f ls ≡ stops g ls
stops_same f g [] e = refl
stops_same f g (line ∷ ls) e = ap (λ x. sooner_stop x (stops f ls)) (e line)
    ∙ ap (sooner_stop (g line)) (stops_same f g ls e)

made_of : Lead → Lead
made_of lead = made lead.lock lead.size_prefix lead.f3 lead.rex.w lead.rex.b

two_made : (lead : Lead) (line : Line) → two_stop lead line ≡ two_stop (made_of lead) line
unfolding two_stop opcode_stop admits made_of
two_made lead line = refl

body_made : (lead : Lead) (line : Line) → body_stop lead line ≡ body_stop (made_of lead) line
unfolding body_stop opcode_stop admits made_of
body_made lead line = refl

two_is : (lead : Lead) → stops (two_stop lead) table_lines
    ≡ least_second lead.lock lead.size_prefix lead.f3
unfolding made_of
two_is lead = stops_same (two_stop lead) (two_stop (made_of lead)) table_lines (two_made lead)
    ∙ five_is (λ l s f w b. stops (two_stop (made l s f w b)) table_lines)
    (λ l s f w b. least_second l s f) two_table lead.lock lead.size_prefix lead.f3 lead.rex.w
    lead.rex.b

body_is : (lead : Lead) → stops (body_stop lead) table_lines
    ≡ least_body lead.lock lead.size_prefix lead.f3 lead.rex.b
unfolding made_of
body_is lead = stops_same (body_stop lead) (body_stop (made_of lead)) table_lines (body_made lead)
    ∙ five_is (λ l s f w b. stops (body_stop (made l s f w b)) table_lines)
    (λ l s f w b. least_body l s f b) body_table lead.lock lead.size_prefix lead.f3 lead.rex.w
    lead.rex.b

pub two_ends : (lead : Lead)
    → Ends (Opcoded lead true) (least_second lead.lock lead.size_prefix lead.f3)
unfolding Opcoded Some-line
two_ends lead =
    let P : Stop → Type 0 = Ends (Opcoded lead true) in
    subst P (two_is lead) (ends_as (Some-line (λ line t a. (line.escape ≡ true)
    × Opcode line lead t a) table_lines) (Opcoded lead true) (stops (two_stop lead) table_lines)
    (λ t a h. (h.0, h.1, h.2.0, h.2.1)) (λ t a h. (h.0, h.1, (h.2, h.3)))
    (stops_ends (λ line t a. (line.escape ≡ true)
    × Opcode line lead t a) (two_stop lead) (λ line s. two_line_ends lead line
    s) table_lines lines_sound))

pub body_ends : (lead : Lead)
    → Ends (Body lead) (least_body lead.lock lead.size_prefix lead.f3 lead.rex.b)
unfolding Some-line
body_ends lead =
    let P : Stop → Type 0 = Ends (Body lead) in
    subst P (body_is lead) (ends_as (Some-line (λ line. Escaped line.escape (Opcode line lead))
    table_lines) (Body lead) (stops (body_stop lead) table_lines)
    (λ t a h. h) (λ t a h. h)
    (stops_ends (λ line. Escaped line.escape (Opcode line lead)) (body_stop lead)
    (λ line s. body_line_ends lead line s) table_lines lines_sound))
