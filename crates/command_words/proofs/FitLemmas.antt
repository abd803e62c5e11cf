-- What was given for a slot fits it, so the number that is read for it lies in its range.
use Rattle.std.proofs.Common.{◌≡◌, ◌≤◌, ◌<◌, ◌&&◌, ℕ, Bool, true, false, cond, List, [], ◌∷◌, ◌++◌}
use Rattle.std.proofs.Common.{Option, Some, None, find, refl, sym, subst, arith, lt-ltb}
use Rattle.std.specs.Prelude.{not, nat_lt, nat_le, ◌^◌, IfSome}
use Rattle.std.specs.List.{AllByRecursion, list_all}
use Rattle.std.specs.Option.{option_map, option_map_or, option_and_then}
use Rattle.std.specs.Str.{bytes_eq}
use Rattle.std.proofs.lemmas.Bool.{leb-true}
use Rattle.clap.specs.declared.parser.matches.ArgMatches.{ArgMatches}
use Rattle.erim_defs.specs.Output.WordForms.{Text, Kind, Number, Slot, Form, Given, Mode, Free}
use Rattle.erim_defs.specs.Output.WordForms.{Value, Rest, Reading, fits, is_given, is_dashed}
use Rattle.erim_defs.specs.Output.WordForms.{is_end, is_numeral, number_of, give, operand}
use Rattle.erim_defs.specs.Output.WordForms.{named_option, option_parts, dashed_or_operand, after}
use Rattle.erim_defs.specs.Output.WordForms.{at_rest, reads, complete, given_by, word_of}
use Rattle.erim_defs.specs.Output.Words.{number_slot, value, number_or}
use Rattle.command_words.specs.Clap.{HasGiven, IsRead}
use Rattle.command_words.proofs.GetterLemmas.{both}

-- a slot of this one's name is of its kind
abbrev pub Agrees : Slot → Slot → Type 0
Agrees t s = bytes_eq s.name t.name ≡ true → s.kind ≡ t.kind

-- a form in which each slot of this one's name is of its kind
pub record HasSlot (f : Form) (t : Slot) : Type 0 where
  pub operands : AllByRecursion (Agrees t) f.operands
  pub options : AllByRecursion (Agrees t) f.options

-- what was given for the slot fits it
abbrev AllFit : Slot → Given → Type 0
AllFit t given = AllByRecursion (λ g. bytes_eq g.0 t.name ≡ true → fits t.kind g.1 ≡ true) given

abbrev AgreesIn : Slot → Mode → Type 0
AgreesIn t Free = Unit {0}
AgreesIn t (Value s) = Agrees t s
AgreesIn t Rest = Unit {0}

record Stands (t : Slot) (at : Reading) : Type 0 where
  mode : AgreesIn t at.mode
  left : AllByRecursion (Agrees t) at.left
  given : AllFit t at.given

-- ---- one word

grown : (t s : Slot) (word : Text) (given : Given) → Agrees t s → AllFit t given
    → fits s.kind word ≡ true → AllFit t (given ++ (s.name, word) ∷ [])
grown t s word [] agrees all fitting =
    (λ named. subst (λ (k : Kind). fits k word ≡ true) (agrees named) fitting, tt)
grown t s word (g ∷ gs) agrees all fitting =
    (all.0, grown t s word gs agrees all.1 fitting)

give_fits : (t s : Slot) (word : Text) (given : Given) → Agrees t s → AllFit t given
    → IfSome (give s word given) (AllFit t)
give_fits t s word given agrees all =
    by (not (is_given s.name given) && fits s.kind word) refl
  where
    by : (b : Bool) → (not (is_given s.name given) && fits s.kind word) ≡ b
        → IfSome (cond b (Some (given ++ (s.name, word) ∷ [])) None) (AllFit t)
    by true e = grown t s word given agrees all (both (not (is_given s.name given)) _ e).1
    by false e = tt

map_fits : (t : Slot) (next : Given → Reading) (o : Option Given) → IfSome o (AllFit t)
    → ((g : Given) → AllFit t g → Stands t (next g)) → IfSome (option_map next o) (Stands t)
map_fits t next None all stands = tt
map_fits t next (Some g) all stands = stands g all

operand_fits : (t : Slot) (mode : Mode) (left : List Slot) (given : Given) (word : Text)
    → AgreesIn t mode → AllByRecursion (Agrees t) left → AllFit t given
    → IfSome (operand mode left given word) (Stands t)
operand_fits t mode [] given word agrees all fit = tt
operand_fits t mode (s ∷ left) given word agrees all fit =
    map_fits t _ (give s word given) (give_fits t s word given all.0 fit)
    (λ g more. record { mode = agrees; left = all.1; given = more })

found_agrees : (t : Slot) (name : Text) (options : List Slot) → AllByRecursion (Agrees t) options
    → IfSome (find (λ s. bytes_eq s.name name) options) (Agrees t)
found_agrees t name [] all = tt
found_agrees t name (o ∷ os) all = by (bytes_eq o.name name) (found_agrees t name os all.1)
  where
    by : (b : Bool) → IfSome (find (λ s. bytes_eq s.name name) os) (Agrees t)
        → IfSome (cond b (Some o) (find (λ s. bytes_eq s.name name) os)) (Agrees t)
    by true later = all.0
    by false later = later

named_fits : (t : Slot) (found : Option Slot) (v : Option Text) (left : List Slot) (given : Given)
    → IfSome found (Agrees t) → AllByRecursion (Agrees t) left → AllFit t given
    → IfSome (named_option found v left given) (Stands t)
named_fits t None v left given agrees all fit = tt
named_fits t (Some s) None left given agrees all fit =
    record { mode = agrees; left = all; given = fit }
named_fits t (Some s) (Some word) left given agrees all fit =
    map_fits t _ (give s word given) (give_fits t s word given agrees fit)
    (λ g more. record { mode = tt; left = all; given = more })

dashed_fits : (t : Slot) (options : List Slot) (parts : Option (Text × Option Text))
    (left : List Slot) (given : Given) (word : Text) → AllByRecursion (Agrees t) options
    → AllByRecursion (Agrees t) left → AllFit t given
    → IfSome (dashed_or_operand options parts left given word) (Stands t)
dashed_fits t options (Some p) left given word agree all fit =
    named_fits t (find (λ s. bytes_eq s.name p.0) options) p.1 left given
    (found_agrees t p.0 options agree) all fit
dashed_fits t options None left given word agree all fit = by (is_dashed word)
  where
    by : (b : Bool) → IfSome (cond b None (operand Free left given word)) (Stands t)
    by true = tt
    by false = operand_fits t Free left given word tt all fit

after_fits : (t : Slot) (options : List Slot) (mode : Mode) (left : List Slot) (given : Given)
    (word : Text) → AllByRecursion (Agrees t) options → AgreesIn t mode
    → AllByRecursion (Agrees t) left → AllFit t given
    → IfSome (after options mode left given word) (Stands t)
after_fits t options Free left given word agree agrees all fit = by (is_end word)
  where
    by : (b : Bool)
        → IfSome (cond b (Some (record { mode = Rest; left = left; given = given }))
        (dashed_or_operand options (option_parts word) left given word)) (Stands t)
    by true = record { mode = tt; left = all; given = fit }
    by false = dashed_fits t options (option_parts word) left given word agree all fit
after_fits t options (Value s) left given word agree agrees all fit = by (is_dashed word)
  where
    by : (b : Bool) → IfSome (cond b None (option_map
        (λ g. record { mode = Free; left = left; given = g }) (give s word given))) (Stands t)
    by true = tt
    by false =
        map_fits t _ (give s word given) (give_fits t s word given agrees fit)
        (λ g more. record { mode = tt; left = all; given = more })
after_fits t options Rest left given word agree agrees all fit =
    operand_fits t Rest left given word tt all fit

-- ---- all words

rest_fits : (t : Slot) (mode : Mode) (given : Given) → AllFit t given
    → IfSome (at_rest mode given) (AllFit t)
rest_fits t Free given fit = fit
rest_fits t (Value s) given fit = tt
rest_fits t Rest given fit = fit

then_fits : (t : Slot) (next : Reading → Option Given) (o : Option Reading) → IfSome o (Stands t)
    → ((at : Reading) → Stands t at → IfSome (next at) (AllFit t))
    → IfSome (option_and_then next o) (AllFit t)
then_fits t next None stands fit = tt
then_fits t next (Some at) stands fit = fit at stands

reads_fit : (t : Slot) (options : List Slot) → AllByRecursion (Agrees t) options
    → (words : List Text) (at : Reading) → Stands t at
    → IfSome (reads options at words) (AllFit t)
unfolding reads
reads_fit t options agree [] at stands = rest_fits t at.mode at.given stands.given
reads_fit t options agree (word ∷ words) at stands =
    then_fits t (λ next. reads options next words) (after options at.mode at.left at.given word)
    (after_fits t options at.mode at.left at.given word agree stands.mode stands.left stands.given)
    (reads_fit t options agree words)

given_fits : (t : Slot) (f : Form) → HasSlot f t → (words : List Text)
    → IfSome (given_by f words) (AllFit t)
given_fits t f has words =
    whole (reads f.options (record { mode = Free; left = f.operands; given = [] }) words)
    (reads_fit t f.options has.options words _
    (record { mode = tt; left = has.operands; given = tt }))
  where
    by : (given : Given) (b : Bool) → AllFit t given
        → IfSome (cond b (Some given) None) (AllFit t)
    by given true fit = fit
    by given false fit = tt

    whole : (o : Option Given) → IfSome o (AllFit t)
        → IfSome (option_and_then (complete f.operands) o) (AllFit t)
    whole None fit = tt
    whole (Some given) fit = by given (list_all (λ s. is_given s.name given) f.operands) fit

-- ---- the number of a slot

word_fits : (t : Slot) (given : Given) → AllFit t given
    → IfSome (word_of t.name given) (λ word. fits t.kind word ≡ true)
word_fits t [] fit = tt
word_fits t (g ∷ gs) fit = by (bytes_eq g.0 t.name) refl (word_fits t gs fit.1)
  where
    by : (b : Bool) → bytes_eq g.0 t.name ≡ b
        → IfSome (word_of t.name gs) (λ word. fits t.kind word ≡ true)
        → IfSome (option_map (λ (x : Text × Text). x.1)
        (cond b (Some g) (find (λ x. bytes_eq x.0 t.name) gs))) (λ word. fits t.kind word ≡ true)
    by true named later = fit.0 named
    by false named later = later

pub record IsWithin (least most n : ℕ) : Type 0 where
  pub above : least ≤ n
  pub below : n ≤ most

-- a word that fits is read: `number_or` never takes its other number
number_read : (least most standard : ℕ) (word : Text) → most < 2 ^ 64
    → fits (Number least most) word ≡ true → number_or standard word ≡ number_of word
number_read least most standard word limited fitting =
    let parts = both (is_numeral word) _ fitting in
    let range = both (nat_le least (number_of word)) _ parts.1 in
    let below : nat_lt (number_of word) (2 ^ 64) ≡ true =
    lt-ltb (number_of word) (2 ^ 64)
    (omega (arith, limited, leb-true (number_of word) most range.1)) in
    rw (parts.0, below) refl

number_within : (least most : ℕ) (word : Text) → fits (Number least most) word ≡ true
    → IsWithin least most (number_of word)
number_within least most word fitting =
    let parts = both (is_numeral word) _ fitting in
    let range = both (nat_le least (number_of word)) _ parts.1 in record {
      above = leb-true least (number_of word) range.0;
      below = leb-true (number_of word) most range.1;
    }

-- what is read for a number of a form lies in its range
pub value_within : (name : Text) (least most standard : ℕ) (f : Form) (words : List Text)
    (m : ArgMatches) (n : ℕ) → HasSlot f (number_slot name least most)
    → most < 2 ^ 64 → IsWithin least most standard → IsRead (given_by f words) (Some m)
    → ((given : Given) → HasGiven given m
    → n ≡ value given (number_slot name least most) standard)
    → IsWithin least most n
value_within name least most standard f words m n has limited within read is =
    whole (given_by f words) (given_fits t f has words) read
  where
    t : Slot
    t = number_slot name least most

    by : (o : Option Text) → IfSome o (λ word. fits t.kind word ≡ true)
        → IsWithin least most (option_map_or (number_or standard) o standard)
    by None fitting = within
    by (Some word) fitting =
        subst (IsWithin least most) (sym (number_read least most standard word limited fitting))
        (number_within least most word fitting)

    whole : (o : Option Given) → IfSome o (AllFit t) → IsRead o (Some m) → IsWithin least most n
    whole None fit read = absurd read
    whole (Some given) fit read =
        subst (IsWithin least most) (sym (is given read))
        (by (word_of name given) (word_fits t given fit))
