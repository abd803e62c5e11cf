-- What a word looks like to `clap`, and here.
use Rattle.std.proofs.Common.{◌≡◌, ℕ, suc, ◌+◌, ◌<◌, ◌==◌, ◌&&◌, Bool, true, false, cond, List, []}
use Rattle.std.proofs.Common.{◌∷◌, Option, Some, None, refl, sym, ap, arith}
use Rattle.std.specs.Prelude.{slice_get, not, is_some, nat_lt, nat_le, ◌^◌}
use Rattle.std.specs.List.{prefix_len}
use Rattle.std.specs.Option.{option_and_then}
use Rattle.std.specs.Str.{chars, IsUtf8}
use Rattle.std.proofs.lemmas.Bool.{lt-ltb, leb-true, eqb-true}
use Rattle.std.proofs.lemmas.Str.{encodes-chars, IsUtf8-drop, IsCharBoundary-after_ascii}
use Rattle.clap.specs.Lexer.{long_of, long_of_rest, strip_byte, short_of_rest, short_of}
use Rattle.clap.specs.Lexer.{name_and_value}
use Rattle.clap.specs.ValueTests.{accepts}
use Rattle.erim_defs.specs.Output.WordForms.{Text, Kind, Name, Number, fits, is_dashed, cut}
use Rattle.erim_defs.specs.Output.WordForms.{option_parts, is_end, number_of, is_numeral}
use Rattle.command_words.specs.Clap.{is_limited, parser}

-- ---- cuts at `=`

cut_is : (text : Text) → name_and_value text ≡ cut text
cut_is [] = refl
cut_is (c ∷ rest) = by (c == 61) refl (cut_is rest)
  where
    by : (b : Bool) → (c == 61) ≡ b → name_and_value rest ≡ cut rest → name_and_value (c ∷ rest)
        ≡ cut (c ∷ rest)
    by true is more = rw is refl
    by false is more =
        let n = prefix_len (λ (x : ℕ). not (x == 61)) rest in
        let two : 1 + n + 1 ≡ suc (n + 1) = omega arith in
        let one : 1 + n ≡ suc n = omega arith in
        rw (is, ← more, two, one) refl

abbrev outer : Bool → Text → Option (Text × Option Text)
outer p rest =
    option_and_then long_of_rest (option_and_then (strip_byte 45) (cond p (Some rest) None))

abbrev inner : Bool → Text → Option (Text × Option Text)
inner q rest = option_and_then long_of_rest (cond q (Some rest) None)

one : (p : Bool) → None ≡ outer p []
one true = refl
one false = refl

two : (p : Bool) (b : ℕ) → None ≡ outer p (b ∷ [])
two true b = at (b == 45)
  where
    at : (q : Bool) → None ≡ inner q []
    at true = refl
    at false = refl
two false b = refl

three : (p : Bool) (b c : ℕ) (rest : Text) → cond (p && (b == 45)) (Some (cut (c ∷ rest))) None
    ≡ outer p (b ∷ c ∷ rest)
three true b c rest = at (b == 45)
  where
    at : (q : Bool) → cond q (Some (cut (c ∷ rest))) None ≡ inner q (c ∷ rest)
    at true = ap Some (sym (cut_is (c ∷ rest)))
    at false = refl
three false b c rest = refl

pub parts_are : (word : Text) → option_parts word ≡ long_of word
parts_are [] = refl
parts_are (a ∷ []) = one (a == 45)
parts_are (a ∷ b ∷ []) = two (a == 45) b
parts_are (a ∷ b ∷ c ∷ rest) = three (a == 45) b c rest

-- ---- a word of one dash

pub first_char : (c : ℕ) (rest : Text) → IsUtf8 (c ∷ rest)
    → is_some (slice_get (chars (c ∷ rest)) 0) ≡ true
first_char c rest utf8 = by (chars (c ∷ rest)) (encodes-chars (c ∷ rest) utf8)
  where
    by : (cs : List ℕ) → Rattle.std.proofs.Math.Utf8.encodes cs ≡ c ∷ rest
        → is_some (slice_get cs 0) ≡ true
    by [] is = absurd cc
    by (x ∷ xs) is = refl

pub behind_dash : (a c : ℕ) (rest : Text) → a < 128 → IsUtf8 (a ∷ c ∷ rest) → IsUtf8 (c ∷ rest)
behind_dash a c rest low utf8 =
    IsUtf8-drop (a ∷ c ∷ rest) 1 utf8 (IsCharBoundary-after_ascii (a ∷ c ∷ rest) 0 utf8
    (omega arith) low)

-- ---- numbers

none : (a b : Bool) → (a && (b && false)) ≡ (b && false)
none true b = refl
none false true = refl
none false false = refl

pub accepts_fits : (kind : Kind) (word : Text) → is_limited kind ≡ true
    → accepts false (parser kind) word ≡ fits kind word
accepts_fits Name word limited = refl
accepts_fits (Number least most) word limited =
    ap (λ (b : Bool). is_numeral word && b) (by (nat_le (number_of word) most) refl)
  where
    by : (b : Bool) → nat_le (number_of word) most ≡ b
        → (nat_lt (number_of word) (2 ^ 64) && (nat_le least (number_of word)
        && nat_le (number_of word) most))
        ≡ (nat_le least (number_of word) && nat_le (number_of word) most)
    by true is =
        rw (lt-ltb (number_of word) (2 ^ 64) (omega (
          arith,
          leb-true (number_of word) most is,
          Rattle.std.proofs.lemmas.Bool.ltb-true most (2 ^ 64) limited,
        ))) refl
    by false is = rw is (none (nat_lt (number_of word) (2 ^ 64)) (nat_le least (number_of word)))

-- ---- words with and without a dash

pub record IsPlainWord (word : Text) : Type 0 where
  pub goes_on : is_end word ≡ false
  pub parts : long_of word ≡ None
  pub short : short_of word ≡ None

pub plain_word_is : (word : Text) → is_dashed word ≡ false → IsPlainWord word
plain_word_is [] plain = record { goes_on = refl; parts = refl; short = refl }
plain_word_is (c ∷ []) plain =
    record { goes_on = end (c == 45); parts = sym (one (c == 45)); short = alone (c == 45) }
  where
    end : (b : Bool) → (b && false) ≡ false
    end true = refl
    end false = refl

    alone : (b : Bool) → option_and_then short_of_rest (cond b (Some []) None) ≡ None
    alone true = refl
    alone false = refl
plain_word_is (c ∷ d ∷ rest) plain = record {
  goes_on = rw plain refl;
  parts = rw plain refl;
  short = rw plain refl;
}

-- a word of one dash
pub record IsBundle (word : Text) : Type 0 where
  pub first : ℕ
  pub others : Text
  pub short : short_of word ≡ Some (first ∷ others)
  pub utf8 : IsUtf8 (first ∷ others)

pub bundle_is : (word : Text) → IsUtf8 word → is_dashed word ≡ true → is_end word ≡ false
    → long_of word ≡ None → IsBundle word
bundle_is [] utf8 dashed goes_on parts = absurd cc
bundle_is (c ∷ []) utf8 dashed goes_on parts = absurd cc
bundle_is (c ∷ d ∷ rest) utf8 dashed goes_on parts = by (d == 45) refl rest refl
  where
    low : c < 128
    low = omega (arith, eqb-true c 45 dashed)

    by : (b : Bool) → (d == 45) ≡ b → (more : Text) → more ≡ rest → IsBundle (c ∷ d ∷ rest)
    by false is more same =
        record {
          first = d;
          others = rest;
          short = rw (dashed, is) refl;
          utf8 =
              behind_dash c d rest low utf8;
        }
    by true is [] same =
        absurd (let no_end : true ≡ false = rw (← same, dashed, is) at goes_on in cc)
    by true is (e ∷ es) same =
        absurd (let some : Some (name_and_value (e ∷ es)) ≡ None =
        rw (← same, dashed, is) at parts in cc)
