-- The lines of bytes, one after the other.
use Rattle.std.proofs.Common.{◌≡◌, ◌∙◌, ℕ, zero, suc, ◌+◌, ◌-◌, ◌<◌, ◌≤◌, List, [], ◌∷◌, ◌++◌}
use Rattle.std.proofs.Common.{append_assoc, length, take, drop, refl, sym, ap, arith}
use Rattle.std.specs.Prelude.{slice_index}
use Rattle.std.proofs.lemmas.List.{append-nil, drop-drop, drop_all, length-drop, take_all}
use Rattle.erim_defs.specs.Encoding.Decoding.{decode}
use Rattle.erim_defs.specs.Output.Texts.{line}
use Rattle.erim_defs.specs.Encoding.Disasm.{first_line, first_size, lines_of, lines_past}

-- bytes that belong to a line before are passed over
passed_over : (k a : ℕ) (bytes : List ℕ) → lines_past k a bytes ≡ lines_of (a + k) (drop k bytes)
unfolding lines_past
passed_over zero a bytes = ap (λ (at : ℕ). lines_of at bytes) (omega arith)
passed_over (suc k) a [] = refl
passed_over (suc k) a (b ∷ bs) = passed_over k (a + 1) bs
    ∙ ap (λ (at : ℕ). lines_of at (drop k bs)) (omega arith)

-- the line of what stands first, and those of the bytes after it
pub lines_step : (a size : ℕ) (code : List ℕ) → 0 < length code → 0 < size
    → size ≡ first_size (decode code)
    → lines_of a code ≡ first_line a (slice_index code 0) (decode code)
    ++ lines_of (a + size) (drop size code)
unfolding lines_past
lines_step a size [] some more is = absurd (omega (arith, some))
lines_step a zero (b ∷ bs) some more is = absurd (omega (arith, more))
lines_step a (suc n) (b ∷ bs) some more is =
    let left : first_size (decode (b ∷ bs)) - 1 ≡ n = omega (arith, is) in
    let rest : lines_past (first_size (decode (b ∷ bs)) - 1) (a + 1) bs
    ≡ lines_of (a + suc n) (drop n bs) =
    rw left (passed_over n (a + 1) bs ∙ ap (λ (at : ℕ). lines_of at (drop n bs)) (omega arith)) in
    ap (λ (t : List ℕ). first_line a b (decode (b ∷ bs)) ++ t) rest

-- the bytes from a place to the end are those from there on
pub to_the_end : (code : List ℕ) (done : ℕ)
    → take (length code - done) (drop done code) ≡ drop done code
to_the_end code done = take_all (length code - done) (drop done code)
    (omega (arith, length-drop done code))

-- a given number of bytes of the code have their lines
pub record HasLines (old text : List ℕ) (base done : ℕ) (code : List ℕ) : Type 0 where
  pub within : done ≤ length code
  pub lines : text ++ lines_of (base + done) (drop done code) ≡ old ++ lines_of base code

pub lines_begin : (text : List ℕ) (base : ℕ) (code : List ℕ) → HasLines text text base 0 code
lines_begin text base code =
    record { within = omega arith; lines = ap (λ (at : ℕ). text ++ lines_of at code) (omega arith) }

pub lines_go_on : (old text new : List ℕ) (base done size : ℕ) (code : List ℕ)
    → HasLines old text base done code → done < length code
    → 0 < size → size ≤ length (drop done code) → size ≡ first_size (decode (drop done code))
    → new ≡ text ++ first_line (base + done) (slice_index (drop done code) 0)
    (decode (drop done code)) → HasLines old new base (done + size) code
lines_go_on old text new base done size code has low some inside is adds =
    let left : length (drop done code) ≡ length code - done = length-drop done code in
    let first = first_line (base + done) (slice_index (drop done code) 0)
    (decode (drop done code)) in
    let step = lines_step (base + done) size (drop done code) (omega (arith, left, low)) some is in
    let place : lines_of (base + (done + size)) (drop (done + size) code)
    ≡ lines_of (base + done + size) (drop size (drop done code)) =
    ap (λ (at : ℕ). lines_of at (drop (done + size) code)) (omega arith)
    ∙ ap (λ (bs : List ℕ). lines_of (base + done + size) bs) (sym (drop-drop size done code)) in
    record {
      within = omega (arith, left, inside, has.within);
      lines =
          ap (λ (t : List ℕ). new ++ t) place
          ∙ ap (λ (t : List ℕ). t ++ lines_of (base + done + size) (drop size (drop done code)))
          adds
          ∙ append_assoc text first (lines_of (base + done + size) (drop size (drop done code)))
          ∙ ap (λ (t : List ℕ). text ++ t) (sym step)
          ∙ has.lines;
    }

pub lines_end : (old text : List ℕ) (base done : ℕ) (code : List ℕ)
    → HasLines old text base done code → length code ≤ done → text ≡ old ++ lines_of base code
unfolding lines_past
lines_end old text base done code has past =
    let none : text ++ lines_of (base + done) (drop done code) ≡ text =
    ap (λ (bs : List ℕ). text ++ lines_of (base + done) bs) (drop_all done code past)
    ∙ append-nil text in
    sym none ∙ has.lines

-- the pieces of a line as they are written, and as the line has them
pub bad_line_joins : (old sign address word byte : List ℕ)
    → old ++ (sign ++ (address ++ (word ++ (byte ++ 10 ∷ []))))
    ≡ old ++ line ((sign ++ address) ++ word ++ byte)
bad_line_joins old sign address word byte = simp append_assoc
