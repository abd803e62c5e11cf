-- What the getters read of what was given.
use Rattle.std.proofs.Common.{◌≡◌, ◌∙◌, ℕ, ◌&&◌, Bool, true, false, cond, List, [], ◌∷◌, length}
use Rattle.std.proofs.Common.{map, find, Option, Some, None, Result, Ok, Err, refl, ap, lt-ltb}
use Rattle.std.proofs.Common.{ltb-true}
use Rattle.std.specs.Prelude.{nat_lt, ◌^◌, slice_get}
use Rattle.std.specs.Result.{result_unwrap_or}
use Rattle.std.specs.List.{list_all}
use Rattle.std.specs.Option.{option_map, option_and_then}
use Rattle.std.specs.Str.{bytes_eq}
use Rattle.std.specs.Char.{digit_value}
use Rattle.std.specs.Str.Parse.{AllDigits, ParsesUnsigned, digits_value, without_leading_plus}
use Rattle.clap.specs.Words.{found_of, first_of, first_value}
use Rattle.clap.proofs.WalkLemmas.{first_value-rows}
use Rattle.clap.specs.Walk.{Row}
use Rattle.clap.specs.declared.parser.matches.ArgMatches.{ArgMatches}
use Rattle.erim_defs.specs.Output.WordForms.{Text, Given, is_numeral, number_of, word_of}
use Rattle.erim_defs.specs.Output.WordForms.{given_by}
use Rattle.erim_defs.specs.Output.Words.{Command, Usage, command_by, number_or}
use Rattle.command_words.specs.Clap.{IsRead, HasGiven, row_for}

pub both : (a b : Bool) → (a && b) ≡ true → (a ≡ true) × (b ≡ true)
both true b e = (refl, e)
both false b e = absurd cc

digits_pass : (ds : List ℕ) → AllDigits 10 ds → list_all (λ d. nat_lt (digit_value d) 10) ds ≡ true
digits_pass [] h = refl
digits_pass (d ∷ ds) h = rw (lt-ltb (digit_value d) 10 h.0) (digits_pass ds h.1)

digits_from : (ds : List ℕ) → list_all (λ d. nat_lt (digit_value d) 10) ds ≡ true → AllDigits 10 ds
digits_from [] e = tt
digits_from (d ∷ ds) e =
    let parts = both _ _ e in
    (ltb-true _ _ parts.0, digits_from ds parts.1)

abbrev is_number : Text → Bool
is_number word = is_numeral word && nat_lt (number_of word) (2 ^ 64)

-- what `parse` reads
pub number_read : {E : Type 0} (word : Text) (standard : ℕ) (r : Result ℕ E)
    → ParsesUnsigned 64 10 word r → result_unwrap_or r standard ≡ number_or standard word
number_read word standard (Ok n) h =
    let ds = without_leading_plus word in
    let some = lt-ltb 0 (length ds) h.0.0.0 in
    let low = lt-ltb (digits_value 10 ds) (2 ^ 64) h.0.1 in
    rw (some, digits_pass ds h.0.0.1, low) h.1
number_read word standard (Err e) h = go (is_number word) refl
  where
    go : (b : Bool) → is_number word ≡ b → standard ≡ number_or standard word
    go false t = rw t refl
    go true t =
        let outer = both _ _ t in
        let inner = both _ _ outer.0 in
        let digits = digits_from (without_leading_plus word) inner.1 in
        absurd (h ((ltb-true _ _ inner.0, digits), ltb-true _ _ outer.1))

-- the first word of a slot in the matches
first_is : (name : Text) (given : Given) → first_of name (map row_for given) ≡ word_of name given
first_is name [] = refl
first_is name (g ∷ gs) = by (bytes_eq g.0 name) (first_is name gs)
  where
    by : (b : Bool) → first_of name (map row_for gs) ≡ word_of name gs
        → option_and_then (λ (r : Row). slice_get r.values 0)
        (cond b (Some (row_for g)) (find (λ r. bytes_eq r.id name) (map row_for gs)))
        ≡ option_map (λ (x : Text × Text). x.1) (cond b (Some g) (find (λ x. bytes_eq x.0 name) gs))
    by true more = refl
    by false more = more

-- the word that the matches have for a slot
pub first_given : (m : ArgMatches) (given : Given) (name : Text) → HasGiven given m
    → first_value (found_of m) name ≡ word_of name given
first_given m given name has =
    first_value-rows (found_of m) name ∙ (ap (first_of name) has ∙ first_is name given)

-- no matches: the usage means nothing by these words
pub read_none : (u : Usage) (words : List Text) → IsRead (given_by u.form words) None
    → None ≡ command_by words u
read_none u words read = by (given_by u.form words) read
  where
    by : (r : Option Given) → IsRead r None → None ≡ option_map u.means r
    by None read = refl
    by (Some given) read = absurd read

-- matches: it means the command of what they have
pub read_some : (u : Usage) (words : List Text) (m : ArgMatches) (command : Command)
    → IsRead (given_by u.form words) (Some m)
    → ((given : Given) → HasGiven given m → command ≡ u.means given)
    → Some command ≡ command_by words u
read_some u words m command read is = by (given_by u.form words) read
  where
    by : (r : Option Given) → IsRead r (Some m) → Some command ≡ option_map u.means r
    by None read = absurd read
    by (Some given) read = ap Some (is given read)
