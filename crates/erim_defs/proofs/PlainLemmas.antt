-- A trust note of version 1 means one domain, with the trusted key: what is closed, open, outside,
-- safe and protected is then said by that key alone.
use Rattle.std.proofs.Common.{◌≡◌, ◌+◌, ◌&&◌, ◌||◌, not, ℕ, List, [], ◌∷◌, Bool, true}
use Rattle.std.proofs.Common.{false}
use Rattle.std.proofs.Common.{None, cond, eqb, refl, ap, subst, ◌∙◌, arith, inl, inr, eqb-true}
use Rattle.std.specs.List.{list_any}
use Rattle.std.proofs.lemmas.Bool.{cases_Bool, and_parts}
use Rattle.erim_defs.specs.declared.found.SeqKind.TheVariants.{Wrpkru}
use Rattle.erim_defs.specs.declared.machine.Thread.{Thread}
use Rattle.erim_defs.specs.Inspection.Trust.{TrustValue, in_text_of, is_entry_of}
use Rattle.erim_defs.specs.Inspection.Trust.{entry_key, pkru_of, spans, text_key}
use Rattle.erim_defs.specs.Inspection.Check.{check_of, check_to, closed_value, compared_value}
use Rattle.erim_defs.specs.Inspection.Safe.{opens_gate}
use Rattle.erim_defs.specs.Inspection.Image.{IsAccepted, Record, has_domains, image_trust}
use Rattle.erim_defs.specs.Inspection.Image.{is_record}
use Rattle.erim_defs.specs.Inspection.Image.{is_text, marks, record_fault, records}
use Rattle.erim_defs.specs.Inspection.Image.{span_of}
use Rattle.erim_defs.specs.Inspection.Image.{is_keyed_record, is_mark}
use Rattle.std.specs.Int.{w32, to_le_bytes}
use Rattle.std.proofs.Common.{◌++◌, zero, suc, ne_eqb}
use Rattle.erim_defs.specs.Machine.Access.{opens}
use Rattle.erim_defs.specs.Machine.Domains.{is_denied, is_set_but, opened_domains}
use Rattle.erim_defs.specs.Machine.State.{is_open, is_outside}
use Rattle.erim_defs.proofs.FaultLemmas.{cond_fault, sound}
use Rattle.erim_defs.proofs.RecordLemmas.{plain_key, plain_one, covers, text_key_at}

pub record IsPlain (trust : TrustValue) : Type 0 where
  pub strict : trust.strict ≡ false
  pub domains : trust.domains ≡ false ∷ true ∷ false ∷ false ∷ false ∷ []
  pub integrity : trust.integrity ≡ false ∷ false ∷ false ∷ false ∷ false ∷ []
  pub texts : (a : ℕ) → text_key trust a ≡ cond (in_text_of trust a) 1 0

-- ---- what the words are then

pub plain_closed : (trust : TrustValue) → IsPlain trust → closed_value trust ≡ 0x55555554
unfolding pkru_of
plain_closed trust h = rw h.integrity refl

pub plain_open : (trust : TrustValue) → IsPlain trust → pkru_of trust 1 ≡ 0x55555550
unfolding pkru_of
plain_open trust h = rw h.integrity refl

or_false : (b : Bool) → (b || false) ≡ b
or_false true = refl
or_false false = refl

plain_opened : (trust : TrustValue) (p : ℕ) → IsPlain trust
    → opened_domains trust p ≡ false ∷ opens p 1 ∷ false ∷ false ∷ false ∷ []
unfolding opened_domains
plain_opened trust p h = rw (h.domains, h.integrity) refl

pub plain_is_open : (trust : TrustValue) (p : ℕ) → IsPlain trust → is_open trust p ≡ opens p 1
unfolding is_set_but
plain_is_open trust p h = rw (plain_opened trust p h) (or_false (opens p 1))

pub plain_outside : (trust : TrustValue) (t : Thread) → IsPlain trust
    → is_outside trust t ≡ (opens t.pkru 1 && not (in_text_of trust t.rip))
unfolding is_set_but
plain_outside trust t h = rw (plain_opened trust t.pkru h, h.texts t.rip)
    (by (in_text_of trust t.rip) (opens t.pkru 1))
  where
    by : (text shown : Bool)
        → is_set_but (cond text 1 0) (false ∷ shown ∷ false ∷ false ∷ false ∷ [])
        ≡ (shown && not text)
    by true true = refl
    by true false = refl
    by false true = refl
    by false false = refl

pub plain_gate : (trust : TrustValue) (next : ℕ) → IsPlain trust
    → opens_gate trust Wrpkru next ≡ is_entry_of trust next
plain_gate trust next h = rw h.strict refl

pub plain_compared : (trust : TrustValue) (next : ℕ) → IsPlain trust
    → compared_value trust next ≡ 0x55555554
plain_compared trust next h =
    ap (λ (b : Bool). pkru_of trust (cond b (entry_key trust next) 0)) h.strict
    ∙ plain_closed trust h

pub plain_check : (trust : TrustValue) (next : ℕ) → IsPlain trust
    → check_of trust Wrpkru next
    ≡ 0x3D ∷ 0x54 ∷ 0x55 ∷ 0x55 ∷ 0x55 ∷ 0x74 ∷ 0x07 ∷ 0xB8 ∷ 0xE7 ∷ 0 ∷ 0 ∷ 0 ∷ 0x0F ∷ 0x05 ∷ []
unfolding check_of
plain_check trust next h =
    ap (λ (v : ℕ). 0x3D ∷ to_le_bytes w32 v ++ (0x74 ∷ 0x07 ∷ 0xB8 ∷ 0xE7 ∷ 0 ∷ 0 ∷ 0 ∷ 0x0F ∷ 0x05
    ∷ [])) (plain_compared trust next h)

pub plain_denied : (trust : TrustValue) (p key : ℕ) → IsPlain trust
    → is_denied trust p key ≡ (eqb key 1 && not (opens p 1))
plain_denied trust p key h = by key
  where
    by : (k : ℕ) → is_denied trust p k ≡ (eqb k 1 && not (opens p 1))
    by zero = rw h.domains refl
    by (suc zero) = rw (h.domains, h.integrity) refl
    by (suc (suc zero)) = rw h.domains refl
    by (suc (suc (suc zero))) = rw h.domains refl
    by (suc (suc (suc (suc zero)))) = rw h.domains refl
    by (suc (suc (suc (suc (suc k))))) =
        rw (h.domains, ne_eqb (suc (suc (suc (suc (suc k))))) 1 (omega arith)) refl

-- the check of the gate out is the one after a WRPKRU
pub check_is : (trust : TrustValue) (next : ℕ) → check_of trust Wrpkru next
    ≡ check_to (compared_value trust next)
unfolding check_of
check_is trust next = refl

-- ---- notes of version 1

no_mark : (index : ℕ) (seen rs : List Record) (key : ℕ) → record_fault false index seen rs ≡ None
    → list_any (marks key) rs ≡ false
unfolding record_fault
no_mark index seen [] key h = refl
no_mark index seen (r ∷ rs) key h =
    let k = cond_fault (is_record false seen r) _ (record_fault false (index + 1) (r
    ∷ seen) rs) h in
    rw (none seen r k.0) (no_mark (index + 1) (r ∷ seen) rs key k.1)
  where
    none : (seen : List Record) (r : Record) → is_record false seen r ≡ true → is_mark r ≡ false
    none seen r h = elim (cases_Bool (is_mark r)) [
      | inr n ↦ n
      | inl y ↦ absurd (let five : r.kind ≡ 5 = eqb-true _ _ y in
          let form = (and_parts (is_keyed_record false r) _ h).1 in
          let z : false ≡ true = rw five at form in cc)
    ]

plain_texts : (index : ℕ) (seen rs : List Record) (a : ℕ)
    → record_fault false index seen rs ≡ None
    → text_key_at a rs ≡ cond (covers is_text a rs) 1 0
unfolding record_fault
plain_texts index seen [] a h = refl
plain_texts index seen (r ∷ rs) a h =
    let k = cond_fault (is_record false seen r) _ (record_fault false (index + 1) (r
    ∷ seen) rs) h in
    let rest = plain_texts (index + 1) (r ∷ seen) rs a k.1 in
    let one : r.key ≡ 1 = plain_one r (and_parts _ _ k.0).0 in
    elim (cases_Bool (is_text r)) [
      | inr off ↦ rw off rest
      | inl on ↦ elim (cases_Bool (spans a (span_of r))) [
        | inl here ↦ rw (on, here) one
        | inr there ↦ rw (on, there) rest
      ]
    ]

pub plain_image : (image : List ℕ) → IsAccepted image → has_domains image ≡ false
    → IsPlain (image_trust image)
unfolding image_trust text_key
plain_image image h plain =
    let s = sound image h in
    let recorded : record_fault false 0 [] (records image) ≡ None =
    subst (λ (v : Bool). record_fault v 0 [] (records image) ≡ None) plain s.recorded in
    let no = λ (key : ℕ). no_mark 0 [] (records image) key recorded in
    let two = plain_key 0 [] (records image) 2 (omega arith) recorded in
    let three = plain_key 0 [] (records image) 3 (omega arith) recorded in
    let four = plain_key 0 [] (records image) 4 (omega arith) recorded in
    record {
      strict = plain;
      domains = rw (two, three, four) refl;
      integrity = rw (no 1, no 2, no 3, no 4) refl;
      texts = λ a. plain_texts 0 [] (records image) a recorded;
    }
