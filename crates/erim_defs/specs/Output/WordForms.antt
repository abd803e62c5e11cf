-- How the words after a command's word are read: operands and options in any order. Own, after the
-- conventions of getopt_long(3).
use Rattle.std.specs.Prelude.{ℕ, ◌==◌, ◌&&◌, not, nat_lt, nat_le, Bool, true, false, Option, Some}
use Rattle.std.specs.Prelude.{None, List, [], ◌∷◌, ◌++◌, length, find, if◌then◌else◌}
use Rattle.std.specs.List.{list_all, list_any}
use Rattle.std.specs.Option.{option_map, option_and_then}
use Rattle.std.specs.Char.{digit_value}
use Rattle.std.specs.Str.{bytes_eq}
use Rattle.std.specs.Str.Parse.{digits_value, without_leading_plus}

abbrev pub Text : Type 0
Text = List ℕ

-- ---- values

-- an optional `+` and one or more decimal digits
abbrev pub is_numeral : Text → Bool
is_numeral word =
    let digits = without_leading_plus word in
    nat_lt 0 (length digits) && list_all (λ d. nat_lt (digit_value d) 10) digits

abbrev pub number_of : Text → ℕ
number_of word = digits_value 10 (without_leading_plus word)

-- what a word has to be: anything, or a number in a range
pub data Kind : Type 0 where
  Name : Kind
  Number : (least most : ℕ) → Kind

abbrev pub fits : Kind → Text → Bool
fits Name word = true
fits (Number least most) word =
    is_numeral word && (nat_le least (number_of word) && nat_le (number_of word) most)

-- an operand or an option
pub record Slot : Type 0 where
  pub name : Text
  pub kind : Kind

-- the operands in their order, and the options
pub record Form : Type 0 where
  pub operands : List Slot
  pub options : List Slot

-- names of operands and options, each with the word that was given for it
abbrev pub Given : Type 0
Given = List (Text × Text)

abbrev pub is_given : Text → Given → Bool
is_given name given = list_any (λ g. bytes_eq g.0 name) given

abbrev pub word_of : Text → Given → Option Text
word_of name given = option_map (λ g. g.1) (find (λ g. bytes_eq g.0 name) given)

-- each at most once, with a word that fits
abbrev pub give : Slot → Text → Given → Option Given
give slot word given =
    if not (is_given slot.name given) && fits slot.kind word
    then Some (given ++ (slot.name, word) ∷ []) else None

-- ---- words

-- a word that begins with `-` (45) and isn't `-` alone
abbrev pub is_dashed : Text → Bool
is_dashed [] = false
is_dashed (c ∷ []) = false
is_dashed (c ∷ d ∷ rest) = c == 45

-- what stands before the first `=` (61), and what after it
abbrev pub cut : Text → Text × Option Text
cut [] = ([], None)
cut (c ∷ rest) = if c == 61 then ([], Some rest) else (c ∷ (cut rest).0, (cut rest).1)

-- `--NAME` or `--NAME=VALUE`
abbrev pub option_parts : Text → Option (Text × Option Text)
option_parts [] = None
option_parts (a ∷ []) = None
option_parts (a ∷ b ∷ []) = None
option_parts (a ∷ b ∷ c ∷ rest) = if a == 45 && b == 45 then Some (cut (c ∷ rest)) else None

-- `--`
abbrev pub is_end : Text → Bool
is_end word = bytes_eq word (45 ∷ 45 ∷ [])

-- what comes next: any word, the value of an option, or operands alone
pub data Mode : Type 0 where
  Free : Mode
  Value : (slot : Slot) → Mode
  Rest : Mode

-- between two words: what comes next, the operands that are left, and what was given
pub record Reading : Type 0 where
  pub mode : Mode
  pub left : List Slot
  pub given : Given

-- a word for the next operand
abbrev pub operand : Mode → List Slot → Given → Text → Option Reading
operand mode [] given word = None
operand mode (slot ∷ left) given word =
    option_map (λ g. record { mode = mode; left = left; given = g }) (give slot word given)

-- `--NAME` waits for its value, `--NAME=VALUE` has it
abbrev pub named_option : Option Slot → Option Text → List Slot → Given → Option Reading
named_option None value left given = None
named_option (Some slot) None left given =
    Some (record { mode = Value slot; left = left; given = given })
named_option (Some slot) (Some value) left given =
    option_map (λ g. record { mode = Free; left = left; given = g }) (give slot value given)

abbrev pub dashed_or_operand : List Slot → Option (Text × Option Text) → List Slot → Given → Text
    → Option Reading
dashed_or_operand options (Some parts) left given word =
    named_option (find (λ s. bytes_eq s.name parts.0) options) parts.1 left given
dashed_or_operand options None left given word =
    if is_dashed word then None else operand Free left given word

abbrev pub free_word : List Slot → List Slot → Given → Text → Option Reading
free_word options left given word =
    if is_end word then Some (record { mode = Rest; left = left; given = given })
    else dashed_or_operand options (option_parts word) left given word

-- one word more
abbrev pub after : List Slot → Mode → List Slot → Given → Text → Option Reading
after options Free left given word = free_word options left given word
after options (Value slot) left given word =
    if is_dashed word then None
    else option_map (λ g. record { mode = Free; left = left; given = g }) (give slot word given)
after options Rest left given word = operand Rest left given word

-- no value is waited for
abbrev pub at_rest : Mode → Given → Option Given
at_rest Free given = Some given
at_rest (Value slot) given = None
at_rest Rest given = Some given

unfoldable pub reads : List Slot → Reading → List Text → Option Given
reads options at [] = at_rest at.mode at.given
reads options at (word ∷ words) =
    option_and_then (λ next. reads options next words)
    (after options at.mode at.left at.given word)

-- each operand was given
abbrev pub complete : List Slot → Given → Option Given
complete operands given =
    if list_all (λ s. is_given s.name given) operands then Some given else None

-- what the words after a command's word give
abbrev pub given_by : Form → List Text → Option Given
given_by form words =
    option_and_then (complete form.operands)
    (reads form.options (record { mode = Free; left = form.operands; given = [] }) words)
