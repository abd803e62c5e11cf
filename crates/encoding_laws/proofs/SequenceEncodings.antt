-- Which bytes encode WRPKRU and XRSTOR: each of their encodings ends as its sequence does.
use Rattle.std.proofs.Common.{◌≡◌, ℕ, suc, ◌+◌, ◌==◌, ◌&&◌, nat_lt, nat_le, Bool, true, false}
use Rattle.std.proofs.Common.{List, [], ◌∷◌, ◌++◌, length, refl, sym, ap, subst, ◌∙◌, arith, inl}
use Rattle.std.proofs.Common.{inr, ◌⊎◌, append_assoc, if◌then◌else◌, Option, Some, None}
use Rattle.std.proofs.lemmas.Bool.{eqb-true, ltb-true, leb-true, both_ways, and_from}
use Rattle.std.proofs.lemmas.List.{length-append}
use Rattle.erim_defs.specs.declared.found.SeqKind.{SeqKind}
use Rattle.erim_defs.specs.declared.found.SeqKind.TheVariants as kinds
use Rattle.erim_defs.specs.declared.grammar.Fields.{Fields}
use Rattle.erim_defs.specs.declared.grammar.Lead.{Lead}
use Rattle.erim_defs.specs.declared.grammar.Row.{Row}
use Rattle.erim_defs.specs.declared.grammar.Form.{Form}
use Rattle.erim_defs.specs.declared.grammar.Form.TheVariants as forms
use Rattle.erim_defs.specs.declared.grammar.Arithmetic.TheVariants as arithmetics
use Rattle.erim_defs.specs.declared.grammar.Move.TheVariants as moves
use Rattle.erim_defs.specs.declared.grammar.Flow.TheVariants as flows
use Rattle.erim_defs.specs.declared.grammar.Exchange.TheVariants as exchanges
use Rattle.erim_defs.specs.declared.grammar.System.TheVariants as systems
use Rattle.erim_defs.specs.declared.insn.Insn.{Insn}
use Rattle.erim_defs.specs.declared.insn.Insn.TheVariants.{Wrpkru, Xrstor}
use Rattle.erim_defs.specs.declared.insn.Place.{Place}
use Rattle.erim_defs.specs.declared.insn.Place.TheVariants.{Reg}
use Rattle.erim_defs.specs.Inspection.Occurrence.{are_present, byte_or_zero, is_xrstor_modrm}
use Rattle.erim_defs.specs.Inspection.Occurrence.{occurrence_at, xrstor_len}
use Rattle.erim_defs.specs.Inspection.Code.{Code}
use Rattle.erim_defs.proofs.OccurrenceLemmas.{AsWrpkru, AsXrstor, occurrence_from, without_sib}
use Rattle.erim_defs.specs.Encoding.Parts.{Byte, Choose, Chunk, Nothing, When, signed_value}
use Rattle.erim_defs.specs.Encoding.Operand.{has_sib, disp_size, place_of, Operand}
use Rattle.erim_defs.specs.Encoding.OpcodeTable.{Line, table_lines, plain_row, two_byte_opcode}
use Rattle.erim_defs.specs.Encoding.OpcodeTable.{Ask, Exactly, Memory, in_line, ask_fits, has_modrm}
use Rattle.erim_defs.specs.Encoding.Forms.{arithmetic_of, move_of, flow_of, exchange_of, system_of}
use Rattle.erim_defs.specs.Encoding.Forms.{insn_of}
use Rattle.erim_defs.specs.Encoding.Grammar.{at_line, InsnAndSizes, insn_and_sizes, Encodes, In}
use Rattle.erim_defs.specs.Encoding.Grammar.{Rest, After, Opcode, Escaped, admits, lead_of}
use Rattle.erim_defs.specs.Encoding.Grammar.{f3_bytes, rex_bytes}
use Rattle.encoding_laws.proofs.PartLemmas.{when_to}
use Rattle.encoding_laws.proofs.LineLemmas.{and_true}
use Rattle.encoding_laws.proofs.FieldLemmas.{body_says}
use Rattle.encoding_laws.proofs.LengthLemmas.{lead_skip}

-- ---- each has one line of the table

-- which sequence an instruction is
abbrev pub insn_kind : Insn → Option SeqKind
insn_kind Wrpkru = Some kinds.Wrpkru
insn_kind (Xrstor m) = Some kinds.Xrstor
insn_kind other = None

abbrev form_kind : Form → Option SeqKind
form_kind (forms.System systems.WrpkruZo) = Some kinds.Wrpkru
form_kind (forms.System systems.XrstorM) = Some kinds.Xrstor
form_kind other = None

-- a form means the sequence that it is
kind_is : (v : Form) (f : Fields) (imm : List ℕ) → insn_kind (insn_of v f imm) ≡ form_kind v
unfolding insn_of arithmetic_of move_of flow_of exchange_of system_of
kind_is (forms.Arithmetic arithmetics.AluMr) f imm = refl
kind_is (forms.Arithmetic arithmetics.AluRm) f imm = refl
kind_is (forms.Arithmetic arithmetics.AluI) f imm = refl
kind_is (forms.Arithmetic arithmetics.AluMi) f imm = refl
kind_is (forms.Arithmetic arithmetics.TestMr) f imm = refl
kind_is (forms.Arithmetic arithmetics.TestI) f imm = refl
kind_is (forms.Arithmetic arithmetics.TestMi) f imm = refl
kind_is (forms.Arithmetic arithmetics.ImulRm) f imm = refl
kind_is (forms.Arithmetic arithmetics.ImulRmi) f imm = refl
kind_is (forms.Arithmetic arithmetics.UnaryM) f imm = refl
kind_is (forms.Arithmetic arithmetics.ShiftMi) f imm = refl
kind_is (forms.Arithmetic arithmetics.ShiftM1) f imm = refl
kind_is (forms.Arithmetic arithmetics.ShiftMc) f imm = refl
kind_is (forms.Arithmetic arithmetics.BtMi) f imm = refl
kind_is (forms.Move moves.MovMr) f imm = refl
kind_is (forms.Move moves.MovRm) f imm = refl
kind_is (forms.Move moves.MovByteOi) f imm = refl
kind_is (forms.Move moves.MovOi) f imm = refl
kind_is (forms.Move moves.MovMi) f imm = refl
kind_is (forms.Move moves.MovWideOi) f imm = refl
kind_is (forms.Move moves.LeaRm) f imm = refl
kind_is (forms.Move moves.MovSxdRm) f imm = refl
kind_is (forms.Move moves.MovZxByteRm) f imm = refl
kind_is (forms.Move moves.MovZxWordRm) f imm = refl
kind_is (forms.Move moves.MovSxByteRm) f imm = refl
kind_is (forms.Move moves.MovSxWordRm) f imm = refl
kind_is (forms.Move moves.WidenZo) f imm = refl
kind_is (forms.Move moves.SpreadZo) f imm = refl
kind_is (forms.Move moves.CmovRm) f imm = refl
kind_is (forms.Move moves.SetM) f imm = refl
kind_is (forms.Flow flows.JccD) f imm = refl
kind_is (forms.Flow flows.JmpD) f imm = refl
kind_is (forms.Flow flows.CallD) f imm = refl
kind_is (forms.Flow flows.JmpM) f imm = refl
kind_is (forms.Flow flows.CallM) f imm = refl
kind_is (forms.Flow flows.RetZo) f imm = refl
kind_is (forms.Flow flows.PushO) f imm = refl
kind_is (forms.Flow flows.PushI) f imm = refl
kind_is (forms.Flow flows.PushM) f imm = refl
kind_is (forms.Flow flows.PopO) f imm = refl
kind_is (forms.Flow flows.LeaveZo) f imm = refl
kind_is (forms.Exchange exchanges.XchgMr) f imm = refl
kind_is (forms.Exchange exchanges.CmpxchgMr) f imm = refl
kind_is (forms.Exchange exchanges.XaddMr) f imm = refl
kind_is (forms.System systems.SyscallZo) f imm = refl
kind_is (forms.System systems.WrpkruZo) f imm = refl
kind_is (forms.System systems.RdpkruZo) f imm = refl
kind_is (forms.System systems.XrstorM) f imm = refl
kind_is (forms.System systems.FenceZo) f imm = refl
kind_is (forms.System systems.Nop) f imm = refl

-- the lines of a form that passes a test
abbrev of_form : (Form → Bool) → List Line → List Line
of_form p [] = []
of_form p (line ∷ ls) = if p line.row.form then line ∷ of_form p ls else of_form p ls

of_form_in : (p : Form → Bool) (ls : List Line) (line : Line) → In ls line → p line.row.form ≡ true
    → In (of_form p ls) line
of_form_in p [] line i e = absurd i
of_form_in p (l ∷ ls) line i e = by_test (p l.row.form) refl i (λ j. of_form_in p ls line j e)
  where
    by_test : (b : Bool) → p l.row.form ≡ b → (l ≡ line) ⊎ In ls line
        → (In ls line → In (of_form p ls) line)
        → In (if b then l ∷ of_form p ls else of_form p ls) line
    by_test true h (inl j) rec = inl j
    by_test true h (inr j) rec = inr (rec j)
    by_test false h (inl j) rec = let e' : p l.row.form ≡ true = ap (λ (x : Line). p x.row.form) j
        ∙ e in absurd cc
    by_test false h (inr j) rec = rec j

-- the line of a sequence: after 0F, one opcode, and a ModRM byte
abbrev line_of : SeqKind → Line
line_of kinds.Wrpkru =
    two_byte_opcode 0x01 1 (Exactly 0xEF) (plain_row (forms.System systems.WrpkruZo) 0)
line_of kinds.Xrstor =
    two_byte_opcode 0xAE 1 (Memory 5) (plain_row (forms.System systems.XrstorM) 0)

abbrev same_kind : SeqKind → Option SeqKind → Bool
same_kind k None = false
same_kind kinds.Wrpkru (Some kinds.Wrpkru) = true
same_kind kinds.Xrstor (Some kinds.Xrstor) = true
same_kind k (Some j) = false

same_itself : (k : SeqKind) → same_kind k (Some k) ≡ true
same_itself kinds.Wrpkru = refl
same_itself kinds.Xrstor = refl

one_line : (k : SeqKind) → of_form (λ v. same_kind k (form_kind v)) table_lines ≡ line_of k ∷ []
one_line kinds.Wrpkru = refl
one_line kinds.Xrstor = refl

line_is : (k : SeqKind) (line : Line) → In table_lines line → form_kind line.row.form ≡ Some k
    → line ≡ line_of k
line_is k line i e =
    let p : Form → Bool = λ v. same_kind k (form_kind v) in
    let fits : p line.row.form ≡ true = ap (same_kind k) e ∙ same_itself k in
    let P : List Line → Type 0 = λ ls. In ls line in
    by_place (subst P (one_line k) (of_form_in p table_lines line i fits))
  where
    by_place : In (line_of k ∷ []) line → line ≡ line_of k
    by_place (inl j) = sym j
    by_place (inr j) = absurd j

-- ---- what stands after the opcode

none_left : (xs : List ℕ) → length xs ≡ 0 → xs ≡ []
none_left [] e = refl
none_left (x ∷ xs) e = absurd (omega arith)

-- a given number of bytes, and then nothing
sized_chunk : (n : ℕ) (S : List ℕ → List ℕ → InsnAndSizes → Type 0) (t : List ℕ) (a : InsnAndSizes)
    → ((f u : List ℕ) → S f u a → u ≡ []) → Chunk n S t a → length t ≡ n
sized_chunk n S t a each h =
    let ended : h.back ≡ [] = each h.front h.back h.then in
    let parts : length t ≡ length h.front + length h.back =
    ap length h.parts ∙ length-append h.front h.back in
    omega (arith, parts, h.long, ap length ended)

rest_none : (lead : Lead) (row : Row) (op m : ℕ) (place : Place × ℕ) (t : List ℕ) (a : InsnAndSizes)
    → row.imm ≡ 0 → Rest lead op m row place t a → t ≡ []
rest_none lead row op m place t a e h =
    none_left t (sized_chunk row.imm (λ imm. Nothing (insn_and_sizes lead op m row place imm)) t a
    (λ f u k. k.0) h ∙ e)

-- the bytes of an operand after its ModRM byte
pub record OperandBytes (m : ℕ) (t : List ℕ) : Type 0 where
  pub sib : ℕ
  -- the SIB byte is the first, where there is one
  pub first : has_sib m ≡ true → (rest : List ℕ) × (t ≡ sib ∷ rest)
  pub long : 3 + length t ≡ xrstor_len m sib

operand_bytes : (lead : Lead) (row : Row) (op m : ℕ) (t : List ℕ) (a : InsnAndSizes) → row.imm ≡ 0
    → Operand lead.rex m (λ place. Rest lead op m row place) t a → OperandBytes m t
operand_bytes lead row op m t a e h = by (has_sib m) refl h
  where
    disp : (sib : ℕ) (u : List ℕ) → Chunk (disp_size m sib) (λ d. Rest lead op m row
        (place_of lead.rex m sib (signed_value d), disp_size m sib)) u a
        → length u ≡ disp_size m sib
    disp sib u k = sized_chunk (disp_size m sib) (λ d. Rest lead op m row
        (place_of lead.rex m sib (signed_value d), disp_size m sib)) u a
        (λ f v r. rest_none lead row
        op m (place_of lead.rex m sib (signed_value f), disp_size m sib) v a e r) k

    S : ℕ → List ℕ → InsnAndSizes → Type 0
    S sib = Chunk (disp_size m sib) (λ d. Rest lead op m row
        (place_of lead.rex m sib (signed_value d), disp_size m sib))

    behind_sib : (u : List ℕ) → Byte S u a → has_sib m ≡ true → OperandBytes m u
    behind_sib [] k is = absurd k
    behind_sib (sib ∷ u) k is = record {
      sib = sib;
      first = λ _. (u, refl);
      long = (let d = disp sib u k.1 in rw is (omega (arith, d)));
    }

    by : (b : Bool) → has_sib m ≡ b → Choose b (Byte S) (S 0) t a → OperandBytes m t
    by true is k = behind_sib t k is
    by false is k = record {
      sib = 0;
      first = λ e. absurd (both_ways (has_sib m) is e);
      long = (let d = disp 0 t k in rw is (omega (arith, d)));
    }

-- 0F, an opcode, ModRM, and the bytes of the operand
record IsSplit (opcode : ℕ) (ask : Ask) (t : List ℕ) : Type 0 where
  modrm : ℕ
  rest : List ℕ
  parts : t ≡ 0x0F ∷ opcode ∷ modrm ∷ rest
  fits : ask_fits ask modrm ≡ true
  operand : OperandBytes modrm rest

choose_first : (b : Bool) (R S : List ℕ → InsnAndSizes → Type 0) (t : List ℕ) (a : InsnAndSizes)
    → b ≡ true → Choose b R S t a → R t a
choose_first true R S t a e h = h
choose_first false R S t a e h = absurd cc

body_split : (opcode : ℕ) (ask : Ask) (form : Form) (lead : Lead) (t : List ℕ) (a : InsnAndSizes)
    → has_modrm ask ≡ true
    → Escaped true (Opcode (two_byte_opcode opcode 1 ask (plain_row form 0)) lead) t a
    → IsSplit opcode ask t
body_split opcode ask form lead t a asks h = first t h
  where
    line : Line
    line = two_byte_opcode opcode 1 ask (plain_row form 0)

    third : (op m : ℕ) (u : List ℕ) → at_line line lead op ≡ true
        → When (ask_fits ask m && admits lead line.row m)
        (Operand lead.rex m (λ place. Rest lead op m line.row place)) u a
        → IsSplit opcode ask (0x0F ∷ op ∷ m ∷ u)
    third op m u at k =
        let x = when_to (ask_fits ask m && admits lead line.row m)
        (Operand lead.rex m (λ place. Rest lead op m line.row place)) u a k in
        let inside = and_true (nat_le opcode op) (nat_lt op (opcode + 1))
        (and_true (in_line line true op) _ at).0 in
        let is : op ≡ opcode =
        omega (arith, leb-true opcode op inside.0, ltb-true op (opcode + 1) inside.1) in
        record {
          modrm = m;
          rest = u;
          parts = ap (λ n. 0x0F ∷ n ∷ m ∷ u) is;
          fits = (and_true (ask_fits ask m) (admits lead line.row m) x.0).0;
          operand = operand_bytes lead line.row op m u a refl x.1;
        }

    second : (op : ℕ) (u : List ℕ) → at_line line lead op ≡ true → After line lead op u a
        → IsSplit opcode ask (0x0F ∷ op ∷ u)
    second op u at k = by u (choose_first (has_modrm ask)
        (Byte (λ m. When (ask_fits ask m && admits lead line.row m)
        (Operand lead.rex m (λ place. Rest lead op m line.row place))))
        (When (admits lead line.row 0) (Rest lead op 0 line.row (Reg 0, 0))) u a asks k)
      where
        by : (u : List ℕ) → Byte (λ m. When (ask_fits ask m && admits lead line.row m)
            (Operand lead.rex m (λ place. Rest lead op m line.row place))) u a
            → IsSplit opcode ask (0x0F ∷ op ∷ u)
        by [] j = absurd j
        by (m ∷ v) j = third op m v at j.1

    first : (t : List ℕ) → Escaped true (Opcode line lead) t a → IsSplit opcode ask t
    first [] k = absurd k
    first (b ∷ []) k = absurd (when_to (b == 0x0F) (Opcode line lead) [] a k.1).1
    first (b ∷ op ∷ u) k =
        let w = when_to (b == 0x0F) (Opcode line lead) (op ∷ u) a k.1 in
        let v = when_to (at_line line lead op) (After line lead op) u a w.1.1 in
        let P : ℕ → Type 0 = λ n. IsSplit opcode ask (n ∷ op ∷ u) in
        subst P (sym (eqb-true b 0x0F w.0)) (second op u v.0 v.1)

-- ---- whole encodings

-- what stands before the opcode, and the rest by the line of the sequence
record IsParted (k : SeqKind) (encoding : List ℕ) (insn : Insn) (skip : ℕ) : Type 0 where
  front : List ℕ
  body : List ℕ
  lead : Lead
  sizes : ℕ × ℕ
  parts : encoding ≡ front ++ body
  skipped : skip ≡ length front
  line : Escaped (line_of k).escape (Opcode (line_of k) lead) body (insn, skip, sizes.0, sizes.1)

parted : (k : SeqKind) (encoding : List ℕ) (insn : Insn) (skip : ℕ) → insn_kind insn ≡ Some k
    → Encodes encoding insn skip → IsParted k encoding insn skip
parted k encoding insn skip kind s =
    let w = s.format in
    let lead = lead_of w.prefixes w.f3 w.rex in
    let said = body_says lead w.body (insn, skip, s.disp, s.imm) w.line in
    let line = w.line.0 in
    let form : form_kind line.row.form ≡ Some k =
    sym (kind_is line.row.form said.fields said.number) ∙ ap insn_kind (sym said.insn) ∙ kind in
    let P : Line → Type 0 = λ l. Escaped l.escape (Opcode l lead) w.body
    (insn, skip, s.disp, s.imm) in
    let front = w.prefixes ++ (f3_bytes w.f3 ++ rex_bytes w.rex) in
    record {
      front = front;
      body = w.body;
      lead = lead;
      sizes = (s.disp, s.imm);
      parts = w.parts ∙ ap (λ (x : List ℕ). w.prefixes
          ++ x) (sym (append_assoc (f3_bytes w.f3) (rex_bytes w.rex) w.body)) ∙ sym (append_assoc
          w.prefixes (f3_bytes w.f3 ++ rex_bytes w.rex) w.body);
      skipped = said.bare ∙ lead_skip w.prefixes w.f3 w.rex
          ∙ ap (λ n. length w.prefixes + n) (sym (length-append (f3_bytes w.f3) (rex_bytes w.rex)))
          ∙ sym (length-append w.prefixes (f3_bytes w.f3 ++ rex_bytes w.rex));
      line = subst P (line_is k line w.line.1 form) w.line.2;
    }

-- the bytes of a text lie in a code from an address on
abbrev pub LiesAt : Code → ℕ → List ℕ → Type 0
LiesAt c a [] = Unit {0}
LiesAt c a (x ∷ xs) = (c a ≡ Some x) × LiesAt c (suc a) xs

lies_present : (c : Code) (a : ℕ) (xs : List ℕ) → LiesAt c a xs
    → are_present c a (length xs) ≡ true
unfolding are_present
lies_present c a [] h = refl
lies_present c a (x ∷ xs) h = and_from _ _ (rw h.0 refl) (lies_present c (suc a) xs h.1)

-- where the text lies an occurrence of this kind stands, of just these bytes
abbrev pub Spells : SeqKind → List ℕ → Type 0
Spells k text = (c : Code) (a : ℕ) → LiesAt c a text
    → occurrence_at c a ≡ Some (record { at = a; len = length text; kind = k })

wrpkru_spells : Spells kinds.Wrpkru (0x0F ∷ 0x01 ∷ 0xEF ∷ [])
wrpkru_spells c a h = occurrence_from c a _ (record {
  first = h.0;
  rest = AsWrpkru (ap c (omega arith) ∙ h.1.0) (ap c (omega arith) ∙ h.1.1.0) refl;
})

xrstor_spells : (m : ℕ) (rest : List ℕ) → is_xrstor_modrm m ≡ true → OperandBytes m rest
    → Spells kinds.Xrstor (0x0F ∷ 0xAE ∷ m ∷ rest)
xrstor_spells m rest memory operand c a h =
    let behind : a + 3 ≡ suc (suc (suc a)) = omega arith in
    let long : xrstor_len m (byte_or_zero (c (a + 3))) ≡ length (0x0F ∷ 0xAE ∷ m ∷ rest) =
    by_sib (has_sib m) refl (rw behind h.1.1.1) in
    occurrence_from c a _ (record {
      first = h.0;
      rest = AsXrstor m (ap c (omega arith) ∙ h.1.0) (ap c (omega arith) ∙ h.1.1.0) memory
          (rw long (lies_present c a (0x0F ∷ 0xAE ∷ m ∷ rest) h)) (rw long refl);
    })
  where
    first_is : (xs : List ℕ) (sib : ℕ) → (r : List ℕ) × (xs ≡ sib ∷ r) → LiesAt c (a + 3) xs
        → c (a + 3) ≡ Some sib
    first_is [] sib (r, e) l = absurd cc
    first_is (x ∷ xs) sib (r, e) l = let same : x ≡ sib = cc in l.0 ∙ ap Some same

    by_sib : (b : Bool) → has_sib m ≡ b → LiesAt c (a + 3) rest
        → xrstor_len m (byte_or_zero (c (a + 3))) ≡ length (0x0F ∷ 0xAE ∷ m ∷ rest)
    by_sib true is l =
        let there : c (a + 3) ≡ Some operand.sib =
        first_is rest operand.sib (operand.first is) l in
        ap (λ (x : Option ℕ). xrstor_len m (byte_or_zero x)) there ∙ sym operand.long ∙ omega arith
    by_sib false is l = without_sib m _ operand.sib memory is ∙ sym operand.long ∙ omega arith

-- an encoding that ends with a sequence, after skip bytes
pub record EndsInSequence (k : SeqKind) (encoding : List ℕ) (skip : ℕ) : Type 0 where
  pub front : List ℕ
  pub text : List ℕ
  pub parts : encoding ≡ front ++ text
  pub spells : Spells k text
  pub skipped : skip ≡ length front

wrpkru_encoding : (encoding : List ℕ) (skip : ℕ) (insn : Insn) → insn_kind insn ≡ Some kinds.Wrpkru
    → Encodes encoding insn skip → EndsInSequence kinds.Wrpkru encoding skip
unfolding has_sib disp_size
wrpkru_encoding encoding skip insn kind s =
    let w = parted kinds.Wrpkru encoding insn skip kind s in
    let b = body_split 0x01 (Exactly 0xEF) (forms.System systems.WrpkruZo) w.lead w.body _ refl
    w.line in
    let third : b.modrm ≡ 0xEF = eqb-true b.modrm 0xEF b.fits in
    let P : ℕ → Type 0 = λ m. OperandBytes m b.rest in
    let operand : OperandBytes 0xEF b.rest = subst P third b.operand in
    let last : b.rest ≡ [] = none_left b.rest (omega (arith, operand.long)) in
    record {
      front = w.front;
      text = 0x0F ∷ 0x01 ∷ 0xEF ∷ [];
      parts = w.parts ∙ ap (λ (x : List ℕ). w.front ++ x) (b.parts
          ∙ ap (λ n. 0x0F ∷ 0x01 ∷ n ∷ b.rest) third
          ∙ ap (λ (x : List ℕ). 0x0F ∷ 0x01 ∷ 0xEF ∷ x) last);
      spells = wrpkru_spells;
      skipped = w.skipped;
    }

xrstor_encoding : (encoding : List ℕ) (skip : ℕ) (insn : Insn) → insn_kind insn ≡ Some kinds.Xrstor
    → Encodes encoding insn skip → EndsInSequence kinds.Xrstor encoding skip
xrstor_encoding encoding skip insn kind s =
    let w = parted kinds.Xrstor encoding insn skip kind s in
    let b = body_split 0xAE (Memory 5) (forms.System systems.XrstorM) w.lead w.body _ refl w.line in
    record {
      front = w.front;
      text = 0x0F ∷ 0xAE ∷ b.modrm ∷ b.rest;
      parts = w.parts ∙ ap (λ (x : List ℕ). w.front ++ x) b.parts;
      spells = xrstor_spells b.modrm b.rest b.fits b.operand;
      skipped = w.skipped;
    }

pub sequence_encoding : (k : SeqKind) (encoding : List ℕ) (skip : ℕ) (insn : Insn)
    → insn_kind insn ≡ Some k → Encodes encoding insn skip → EndsInSequence k encoding skip
sequence_encoding kinds.Wrpkru encoding skip insn kind s =
    wrpkru_encoding encoding skip insn kind s
sequence_encoding kinds.Xrstor encoding skip insn kind s =
    xrstor_encoding encoding skip insn kind s
