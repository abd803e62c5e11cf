-- A row that is found, with its operands and its number, is an encoding.
use Rattle.std.proofs.Common.{◌≡◌, ℕ, ◌+◌, ◌/◌, ◌%◌, ◌<◌, ◌≤◌, ◌==◌, ◌&&◌, ◌||◌, not, nat_lt, Bool}
use Rattle.std.proofs.Common.{true, false, cond, List, [], ◌∷◌, ◌++◌, length, Option, Some, None}
use Rattle.std.proofs.Common.{refl, sym, ap, subst, ◌∙◌, arith, append_assoc}
use Rattle.std.proofs.lemmas.List.{length-append, append-nil}
use Rattle.erim_defs.specs.declared.grammar.Lead.{Lead}
use Rattle.erim_defs.specs.declared.grammar.Row.{Row}
use Rattle.erim_defs.specs.declared.insn.Insn.{Insn}
use Rattle.erim_defs.specs.declared.insn.Place.{Place}
use Rattle.erim_defs.specs.declared.insn.Place.TheVariants.{Reg}
use Rattle.erim_defs.specs.Encoding.Parts.{AreBytes, Byte}
use Rattle.erim_defs.specs.Encoding.Operand.{Operand}
use Rattle.erim_defs.specs.Encoding.OpcodeTable.{table_lines, lookup}
use Rattle.erim_defs.specs.Encoding.Forms.{insn_of}
use Rattle.erim_defs.specs.Encoding.Grammar.{InsnAndSizes, insn_and_sizes, Rest, Body, Encodes}
use Rattle.erim_defs.specs.Encoding.Grammar.{admits, fields_of, rex_bytes}
use Rattle.erim_defs.specs.Encoding.Decoding.{if_admitted, row_at, modrm_follows}
use Rattle.erim_defs.specs.Encoding.Canonical.{lock_bytes, rex_of, is_upper, opcode_bytes}
use Rattle.erim_defs.specs.Encoding.Canonical.{operand_bytes, has_upper_index, has_upper_base}
use Rattle.erim_defs.specs.Encoding.Canonical.{opcode_with_modrm, opcode_with_register}
use Rattle.erim_defs.specs.Encoding.Canonical.{opcode_alone}
use Rattle.erim_defs.proofs.ByteLemmas.{bytes_append}
use Rattle.encoding_laws.proofs.OpcodeMapLemmas.{row_in_map, row_in_map_is, modrm_in_map, asks_is}
use Rattle.encoding_laws.proofs.TailLemmas.{Found, OfPlain, OfModrm, Tail}
use Rattle.encoding_laws.proofs.BodyLemmas.{choose_left, choose_right}
use Rattle.encoding_laws.proofs.BodyExact.{First, body_back}
use Rattle.x86_encode.proofs.Facts.{PlaceFits, is_memory, raw}
use Rattle.x86_encode.proofs.Leads.{lead, lead_is, prefixes_are, lock_are, rex_is, rex_are}
use Rattle.x86_encode.proofs.Operands.{operand_of}

abbrev pub IsEncoding : List ℕ → Insn → Type 0
IsEncoding encoding insn = (skip : ℕ) × Encodes encoding insn skip

-- ---- from a row that is found

rest_is : (l : Lead) (op m : ℕ) (row : Row) (place : Place × ℕ) (imm : List ℕ)
    → length imm ≡ row.imm → AreBytes imm
    → Rest l op m row place imm (insn_and_sizes l op m row place imm)
rest_is l op m row place imm long f =
    record {
      front = imm;
      back = [];
      parts = sym (append-nil imm);
      long = long;
      bytes = f;
      then = (refl, refl);
    }

by_tail : (l : Lead) (escape : Bool) (op : ℕ) (t : List ℕ) (a : InsnAndSizes) → op < 256
    → (escape ≡ false → (op == 0x0F) ≡ false) → Tail l escape op t a
    → Body l (opcode_bytes escape op ++ t) a
unfolding First opcode_bytes
by_tail l true op t a lt apart h =
    body_back l (0x0F ∷ op ∷ t) a (
      omega arith,
      choose_left (0x0F == 0x0F) (Byte (Tail l true))
          (Tail l false 0x0F) (op ∷ t) a refl (lt, h),
    )
by_tail l false op t a lt apart h =
    body_back l (op ∷ t) a (
      lt,
      choose_right (op == 0x0F) (Byte (Tail l true)) (Tail l false op) t a
          (apart refl) h,
    )

by_plain : (l : Lead) (escape : Bool) (op : ℕ) (row : Row) (imm : List ℕ) (a : InsnAndSizes)
    → op < 256 → (escape ≡ false → (op == 0x0F) ≡ false) → modrm_follows escape op ≡ false
    → row_at l escape op 0 ≡ Some row → Rest l op 0 row (Reg 0, 0) imm a
    → Body l (opcode_bytes escape op ++ imm) a
unfolding Tail
by_plain l escape op row imm a lt apart asks is h =
    let P : Option Row → Type 0 = λ r. Found (OfPlain l op) r imm a in
    by_tail l escape op imm a lt apart
    (choose_right (modrm_follows escape op)
    (Byte (λ m. Found (OfModrm l op m) (row_at l escape op m)))
    (Found (OfPlain l op) (row_at l escape op 0)) imm a asks (subst P (sym is) h))

by_modrm : (l : Lead) (escape : Bool) (op m : ℕ) (row : Row) (t : List ℕ) (a : InsnAndSizes)
    → op < 256 → m < 256 → (escape ≡ false → (op == 0x0F) ≡ false) → modrm_follows escape op ≡ true
    → row_at l escape op m ≡ Some row → Operand l.rex m (λ place. Rest l op m row place) t a
    → Body l (opcode_bytes escape op ++ (m ∷ t)) a
unfolding Tail
by_modrm l escape op m row t a lt lm apart asks is h =
    let P : Option Row → Type 0 = λ r. Found (OfModrm l op m) r t a in
    by_tail l escape op (m ∷ t) a lt apart
    (choose_left (modrm_follows escape op)
    (Byte (λ m. Found (OfModrm l op m) (row_at l escape op m)))
    (Found (OfPlain l op) (row_at l escape op 0)) (m ∷ t) a asks (lm, subst P (sym is) h))

is_encoding : (lock asked w r x b : Bool) (body : List ℕ) (insn : Insn) (disp imm : ℕ)
    → AreBytes body → length body ≤ 13
    → Body (lead lock asked w r x b) body (insn, (lead lock asked w r x b).skip, disp, imm)
    → Encodes (lock_bytes lock ++ (rex_bytes (rex_of asked w r x b) ++ body)) insn
    (lead lock asked w r x b).skip
is_encoding lock asked w r x b body insn disp imm are short h =
    let P : Lead → Type 0 = λ l. Body l body (insn, (lead lock asked w r x b).skip, disp, imm) in
    let ps = lock_are lock in
    let rs = rex_are asked w r x b in
    let rex = rex_bytes (rex_of asked w r x b) in
    let one = length-append (lock_bytes lock) (rex ++ body) in
    let two = length-append rex body in
    record {
      disp = disp;
      imm = imm;
      format = record {
        prefixes = lock_bytes lock;
        f3 = false;
        rex = rex_of asked w r x b;
        body = body;
        parts = refl;
        fits = bytes_append (lock_bytes lock) (rex ++ body) ps.0 (bytes_append rex body rs.0 are);
        are_prefixes = prefixes_are lock;
        are_rex = rex_is asked w r x b;
        line = subst P (sym (lead_is lock asked w r x b)) h;
      };
      long = (let p = ps.1 in let r = rs.1 in omega (arith, one, two));
    }

opcode_are : (escape : Bool) (op : ℕ) → op < 256
    → AreBytes (opcode_bytes escape op) × (length (opcode_bytes escape op) ≤ 2)
unfolding opcode_bytes
opcode_are true op lt = ((omega arith, (lt, tt)), omega arith)
opcode_are false op lt = ((lt, tt), omega arith)

admitted : (l : Lead) (row : Row) (m : ℕ) → l.size_prefix ≡ false
    → (l.rex.b ≡ true → row.low ≡ false)
    → (l.lock ≡ true → (row.locks ≡ true) × (nat_lt m 192 ≡ true)) → admits l row m ≡ true
unfolding admits
admitted l row m opcode_of_width low locks =
    by_tests l.lock l.size_prefix l.rex.b row.locks (nat_lt m 192) row.low opcode_of_width low locks
  where
    by_tests : (lock s b locks memory_bytes low : Bool) → s ≡ false → (b ≡ true → low ≡ false)
        → (lock ≡ true → (locks ≡ true) × (memory_bytes ≡ true))
        → ((not lock || (locks && memory_bytes))
        && ((not s || row.size_prefix) && (not b || not low))) ≡ true
    by_tests lock true b k m low e f g = absurd cc
    by_tests true false true k m low e f g = let h = g refl in ap (λ t. (t && m) && not low) h.0
        ∙ ap (λ t. t && not low) h.1 ∙ ap not (f refl)
    by_tests true false false k m low e f g = let h = g refl in ap (λ t. (t && m) && true) h.0
        ∙ ap (λ t. t && true) h.1
    by_tests false false true k m low e f g = ap not (f refl)
    by_tests false false false k m low e f g = refl

found_is : (l : Lead) (escape : Bool) (op m : ℕ) (row : Row) → op < 256 → m < 256 → l.f3 ≡ false
    → row_in_map escape false l.rex.w op m ≡ Some row → admits l row m ≡ true
    → row_at l escape op m ≡ Some row
unfolding row_at
found_is l escape op m row lt lm f3 c a =
    ap (λ f. if_admitted l m (lookup table_lines escape f l.rex.w op m)) f3
    ∙ ap (if_admitted l m) (row_in_map_is escape false l.rex.w op m lt lm ∙ c)
    ∙ ap (λ t. cond t (Some row) None) a

-- ---- a row with ModRM

-- the row of an opcode, with these reg and E
pub record ModrmRow (escape w : Bool) (op reg : ℕ) (e : Place) (row : Row) : Type 0 where
  pub op_low : op < 256
  pub apart : escape ≡ false → (op == 0x0F) ≡ false
  pub asks : modrm_in_map escape op ≡ true
  pub found : (m : ℕ) (rest : List ℕ) → operand_bytes reg e ≡ m ∷ rest → m < 256
      → m / 8 % 8 ≡ reg % 8 → nat_lt m 192 ≡ is_memory e → row_in_map escape false w op m ≡ Some row
  pub any_low : row.low ≡ false

abbrev pub modrm_lead : Bool → Bool → Bool → ℕ → Place → Lead
modrm_lead lock w asked reg e =
    lead lock asked w (is_upper reg) (has_upper_index e) (has_upper_base e)

pub modrm_encodes : (lock w asked escape : Bool) (op reg : ℕ) (e : Place) (row : Row) (imm : List ℕ)
    (insn : Insn) → PlaceFits 16 e → ModrmRow escape w op reg e row
    → (lock ≡ true → (row.locks ≡ true) × (is_memory e ≡ true)) → length imm ≡ row.imm → row.imm ≤ 4
    → AreBytes imm → ((m : ℕ) → m / 8 % 8 ≡ reg % 8
    → insn_of row.form (fields_of (modrm_lead lock w asked reg e) op m (raw e)) imm
    ≡ insn) → IsEncoding (opcode_with_modrm lock w asked escape op reg e ++ imm) insn
unfolding opcode_with_modrm
modrm_encodes lock w asked escape op reg e row imm insn fits r locks long short are says =
    let l = modrm_lead lock w asked reg e in
    let o = operand_of l reg e fits refl refl in
    let lt = r.op_low in
    let opc = opcode_are escape op lt in
    let body = opcode_bytes escape op ++ (o.m ∷ (o.rest ++ imm)) in
    let found = found_is l escape op o.m row lt o.low refl
    (r.found o.m o.rest o.is o.low o.reg_is o.memory_is)
    (admitted l row o.m refl (λ _. r.any_low) (λ k. let j = locks k in
    (j.0, o.memory_is ∙ j.1))) in
    let P : Insn → Type 0 = λ i. Rest l op o.m row (raw e, o.size) imm
    (i, l.skip, o.size, row.imm) in
    let rest = subst P (says o.m o.reg_is) (rest_is l op o.m row (raw e, o.size) imm long are) in
    let line = by_modrm l escape op o.m row (o.rest ++ imm) (insn, l.skip, o.size, row.imm) lt o.low
    r.apart (asks_is escape op lt
    ∙ r.asks) found (o.part op row imm (insn, l.skip, o.size, row.imm) rest) in
    let bytes : AreBytes body =
    bytes_append (opcode_bytes escape op) (o.m ∷ (o.rest ++ imm)) opc.0
    (o.low, bytes_append o.rest imm o.bytes are) in
    let size : length body ≤ 13 =
    (let a = opc.1 in let b = o.short in
    omega (
      arith,
      length-append (opcode_bytes escape op) (o.m ∷ (o.rest ++ imm)),
      length-append
          o.rest imm,
    )) in
    let rex = rex_bytes (rex_of asked w (is_upper reg) (has_upper_index e) (has_upper_base e)) in
    let Q : List ℕ → Type 0 = λ t. Encodes t insn l.skip in
    let encoding : lock_bytes lock ++ (rex ++ body)
    ≡ (lock_bytes lock ++ (rex ++ (opcode_bytes escape op ++ operand_bytes reg e))) ++ imm =
    sym (append_assoc (lock_bytes lock) (rex ++ (opcode_bytes escape op ++ operand_bytes reg e))
    imm ∙ ap (λ t. lock_bytes lock
    ++ t) (append_assoc rex (opcode_bytes escape op ++ operand_bytes reg e) imm
    ∙ ap (λ t. rex ++ t) (append_assoc (opcode_bytes escape op) (operand_bytes reg e) imm
    ∙ ap (λ t. opcode_bytes escape op ++ (t ++ imm)) o.is))) in (
      l.skip,
      subst Q encoding (is_encoding lock asked w (is_upper reg) (has_upper_index e)
          (has_upper_base e) body insn o.size row.imm bytes size line),
    )

-- ---- a row without

pub record PlainRow (escape w : Bool) (op : ℕ) (row : Row) : Type 0 where
  pub op_low : op < 256
  pub apart : escape ≡ false → (op == 0x0F) ≡ false
  pub asks : modrm_in_map escape op ≡ false
  pub found : row_in_map escape false w op 0 ≡ Some row

plain_encodes : (asked w b escape : Bool) (op : ℕ) (row : Row) (imm : List ℕ) (insn : Insn)
    → PlainRow escape w op row → (b ≡ true → row.low ≡ false) → length imm ≡ row.imm → row.imm ≤ 8
    → AreBytes imm → insn_of row.form (fields_of (lead false asked w false false b) op 0 (Reg 0))
    imm ≡ insn → IsEncoding (rex_bytes (rex_of asked w false false b)
    ++ (opcode_bytes escape op ++ imm)) insn
unfolding lock_bytes
plain_encodes asked w b escape op row imm insn r low long short are says =
    let l = lead false asked w false false b in
    let lt = r.op_low in
    let opc = opcode_are escape op lt in
    let body = opcode_bytes escape op ++ imm in
    let found = found_is l escape op 0 row lt (omega arith) refl r.found
    (admitted l row 0 refl low (λ k. absurd cc)) in
    let P : Insn → Type 0 = λ i. Rest l op 0 row (Reg 0, 0) imm (i, l.skip, 0, row.imm) in
    let rest = subst P says (rest_is l op 0 row (Reg 0, 0) imm long are) in
    let line = by_plain l escape op row imm (insn, l.skip, 0, row.imm) lt r.apart
    (asks_is escape op lt ∙ r.asks) found rest in
    let bytes : AreBytes body = bytes_append (opcode_bytes escape op) imm opc.0 are in
    let size : length body ≤ 13 =
    (let a = opc.1 in omega (arith, length-append (opcode_bytes escape op) imm)) in
    (l.skip, is_encoding false asked w false false b body insn 0 row.imm bytes size line)

pub alone_encodes : (w escape : Bool) (op : ℕ) (row : Row) (imm : List ℕ) (insn : Insn)
    → PlainRow escape w op row → length imm ≡ row.imm → row.imm ≤ 8 → AreBytes imm
    → insn_of row.form (fields_of (lead false false w false false false) op 0 (Reg 0)) imm ≡ insn
    → IsEncoding (opcode_alone w escape op ++ imm) insn
unfolding opcode_alone
alone_encodes w escape op row imm insn r long short are says =
    let P : List ℕ → Type 0 = λ t. IsEncoding t insn in
    subst P (sym (append_assoc (rex_bytes (rex_of false w false false false))
    (opcode_bytes escape op) imm)) (plain_encodes false w false escape op row imm insn r (λ k.
    absurd cc) long short are says)

pub register_encodes : (w asked : Bool) (op n : ℕ) (row : Row) (imm : List ℕ) (insn : Insn)
    → PlainRow false w (op + n % 8) row → row.low ≡ false → length imm ≡ row.imm → row.imm ≤ 8
    → AreBytes imm → insn_of row.form (fields_of (lead false asked w false false (is_upper n))
    (op + n % 8) 0 (Reg 0)) imm ≡ insn → IsEncoding (opcode_with_register w asked op n ++ imm) insn
unfolding opcode_with_register opcode_bytes
register_encodes w asked op n row imm insn r low long short are says =
    let P : List ℕ → Type 0 = λ t. IsEncoding t insn in
    subst P (sym (append_assoc (rex_bytes (rex_of asked w false false (is_upper n))) ((op + n % 8)
    ∷ []) imm)) (plain_encodes asked w (is_upper n) false (op + n % 8) row imm insn r
    (λ _. low) long short are says)

-- without a number
pub bare : (encoding : List ℕ) (insn : Insn) → IsEncoding (encoding ++ []) insn
    → IsEncoding encoding insn
bare encoding insn h = let P : List ℕ
    → Type 0 = λ t. IsEncoding t insn in subst P (append-nil encoding) h
