-- The rules that `clap` makes of a form, and what one use of them does.
use Rattle.std.proofs.Common.{◌≡◌, ◌∙◌, ℕ, ◌&&◌, ◌||◌, Bool, true, false, cond, List, [], ◌∷◌, ◌++◌}
use Rattle.std.proofs.Common.{map, find, Option, Some, None, refl, sym, ap, subst, append_assoc}
use Rattle.std.specs.Prelude.{not}
use Rattle.std.specs.List.{AllByRecursion}
use Rattle.std.specs.Option.{option_map}
use Rattle.std.specs.Str.{bytes_eq}
use Rattle.std.proofs.lemmas.List.{append-nil, map_push}
use Rattle.clap.specs.Kinds.{Kinds, or_else}
use Rattle.clap.specs.Walk.{Row, Rule, arg_by_long, arg_by_short, has_row, used, at_row}
use Rattle.clap.specs.Walk.{more_values, with_values, without}
use Rattle.clap.specs.Simple.{App, Shape, with_rule, on_top, filled, filled_from, with_index, built}
use Rattle.clap.specs.Faults.{use_fault}
use Rattle.clap.specs.ValueTests.{accepts}
use Rattle.clap.specs.Values.{refused_kind, reading_of}
use Rattle.clap.specs.declared.error.kind.ErrorKind.{ErrorKind}
use Rattle.clap.specs.declared.error.kind.ErrorKind.TheVariants.{ArgumentConflict}
use Rattle.clap.specs.declared.builder.value_parser.Reading.{Reading}
use Rattle.clap.specs.declared.builder.value_parser.Reading.TheVariants.{AsWritten}
use Rattle.clap.specs.declared.parser.matches.ValueSource.TheVariants.{CommandLine}
use Rattle.erim_defs.specs.Output.WordForms.{Text, Kind, Name, Number, Slot, Form, Given, fits}
use Rattle.erim_defs.specs.Output.WordForms.{is_given}
use Rattle.command_words.specs.Clap.{operand_rule, option_rule, start_app, with_rules, app_for}
use Rattle.command_words.specs.Clap.{row_for, is_limited, parser, rule_for, operand_at, option_for}
use Rattle.command_words.specs.Clap.{next, operands_from, rules, IsOption}
use Rattle.command_words.proofs.WordLemmas.{accepts_fits}

-- ---- building

abbrev slot : Text → Kind → Slot
slot name kind = record { name = name; kind = kind }

filled_operand : (i : ℕ) (name : Text) (kind : Kind)
    → with_index i (filled (operand_rule (slot name kind))) ≡ operand_at i (slot name kind)
filled_operand i name Name = refl
filled_operand i name (Number least most) = refl

filled_option : (i : ℕ) (name : Text) (kind : Kind)
    → with_index i (filled (option_rule (slot name kind))) ≡ option_for (slot name kind)
filled_option i name Name = refl
filled_option i name (Number least most) = refl

filled_options : (i : ℕ) (options : List Slot)
    → filled_from i (map option_rule options) ≡ map option_for options
filled_options i [] = refl
filled_options i (s ∷ ss) =
    ap (λ (r : Rule). r ∷ filled_from i (map option_rule ss)) (filled_option i s.name s.kind)
    ∙ ap (λ (rs : List Rule). option_for s ∷ rs) (filled_options i ss)

filled_rules : (i : ℕ) (operands options : List Slot)
    → filled_from i (map operand_rule operands ++ map option_rule options)
    ≡ operands_from i operands ++ map option_for options
filled_rules i [] options = filled_options i options
filled_rules i (s ∷ ss) options =
    ap (λ (r : Rule). r ∷ filled_from (next i) (map operand_rule ss ++ map option_rule options))
    (filled_operand i s.name s.kind)
    ∙ ap (λ (rs : List Rule). operand_at i s ∷ rs) (filled_rules (next i) ss options)

abbrev pub top_with : List Rule → Shape
top_with rs = record start_app.top { rules = rs }

abbrev pub built_top : List Rule → Shape
built_top rs = record start_app.top { rules = rs; disable_help_subcommand = true; is_built = true }

rules_added : (a : App) (rs : List Rule)
    → with_rules a rs ≡ on_top (λ s. record s { rules = s.rules ++ rs }) a
rules_added a [] =
    ap (λ (rs : List Rule). on_top (λ s. record s { rules = rs }) a) (sym (append-nil a.top.rules))
rules_added a (r ∷ rs) =
    rules_added (with_rule a r) rs
    ∙ ap (λ (all : List Rule). on_top (λ s. record s { rules = all }) a)
    (append_assoc a.top.rules (r ∷ []) rs)

abbrev pub given_rules : Form → List Rule
given_rules f = map operand_rule f.operands ++ map option_rule f.options

abbrev pub alone : Shape → App
alone top = record { top = top; subs = [] }

pub app_is : (f : Form) → app_for f ≡ alone (top_with (given_rules f))
app_is f = rules_added start_app (given_rules f)

pub built_is : (f : Form) → built (app_for f) ≡ alone (built_top (rules f))
built_is f =
    ap built (app_is f)
    ∙ ap (λ (rs : List Rule). alone (built_top rs)) (filled_rules 1 f.operands f.options)

-- ---- one use

-- there is no fault
abbrev pub none : Kinds → Bool
none [] = true
none (k ∷ ks) = false

pub none_both : (a b : Kinds) → none (or_else a b) ≡ (none a && none b)
none_both [] b = refl
none_both (k ∷ ks) b = refl

abbrev pub given_rows : Given → List Row
given_rows given = map row_for given

pub has_row_is : (name : Text) (given : Given)
    → has_row name (given_rows given) ≡ is_given name given
has_row_is name [] = refl
has_row_is name (g ∷ gs) = ap (λ (b : Bool). bytes_eq g.0 name || b) (has_row_is name gs)

step : (has passes : Bool) (k r : ErrorKind)
    → none (or_else (cond (has && true) (k ∷ []) []) (or_else (cond passes [] (r ∷ [])) []))
    ≡ (not has && passes)
step true passes k r = refl
step false true k r = refl
step false false k r = refl

-- a use with one word is at fault where the slot was given before, or the word doesn't fit
pub use_is : (long : Option Text) (index : Option ℕ) (required : Bool) (s : Slot) (word : Text)
    (given : Given) → is_limited s.kind ≡ true
    → none (use_fault false (rule_for long index required s) (word ∷ []) (given_rows given))
    ≡ (not (is_given s.name given) && fits s.kind word)
use_is long index required s word given limited =
    step (has_row s.name (given_rows given)) (accepts false (parser s.kind) word) ArgumentConflict
    (refused_kind (parser s.kind))
    ∙ rw (has_row_is s.name given, accepts_fits s.kind word limited) refl

new_row : (name : Text) (change : Row → List Row) (missing : List Row) (given : Given)
    → is_given name given ≡ false
    → at_row name change missing (given_rows given) ≡ given_rows given ++ missing
new_row name change missing [] new = refl
new_row name change missing (g ∷ gs) new =
    by (bytes_eq g.0 name) refl new (λ later. new_row name change missing gs later)
  where
    by : (b : Bool) → bytes_eq g.0 name ≡ b → (b || is_given name gs) ≡ false
        → (is_given name gs ≡ false
        → at_row name change missing (given_rows gs) ≡ given_rows gs ++ missing)
        → at_row name change missing (given_rows (g ∷ gs)) ≡ given_rows (g ∷ gs) ++ missing
    by true is new more = absurd cc
    by false is new more = rw is (ap (λ (rs : List Row). row_for g ∷ rs) (more new))

as_written : (kind : Kind) → reading_of (parser kind) ≡ AsWritten
as_written Name = refl
as_written (Number least most) = refl

-- it adds the word
pub used_is : (long : Option Text) (index : Option ℕ) (required : Bool) (s : Slot) (word : Text)
    (given : Given) → is_given s.name given ≡ false
    → used (rule_for long index required s) (word ∷ []) (given_rows given)
    ≡ given_rows (given ++ (s.name, word) ∷ [])
used_is long index required s word given new =
    let how = reading_of (parser s.kind) in
    let bare : without s.name (given_rows given) ≡ given_rows given =
    new_row s.name (λ _. []) [] given new ∙ append-nil (given_rows given) in
    ap (λ (rs : List Row). with_values s.name how CommandLine (word ∷ []) rs) bare
    ∙ (ap (λ (how : Reading). with_values s.name how CommandLine (word ∷ []) (given_rows given))
    (as_written s.kind)
    ∙ (new_row s.name (more_values CommandLine (word ∷ [])) (row_for (s.name, word) ∷ []) given new
    ∙ sym (map_push row_for given (s.name, word))))

-- ---- lookups

pub long_is : (i : ℕ) (operands options : List Slot) (name : Text)
    → arg_by_long (operands_from i operands ++ map option_for options) name
    ≡ option_map option_for (find (λ s. bytes_eq s.name name) options)
long_is i (s ∷ ss) options name = long_is (next i) ss options name
long_is i [] [] name = refl
long_is i [] (s ∷ ss) name = by (bytes_eq s.name name) (long_is i [] ss name)
  where
    by : (b : Bool)
        → arg_by_long (map option_for ss) name
        ≡ option_map option_for (find (λ s. bytes_eq s.name name) ss)
        → cond (b || false) (Some (option_for s)) (arg_by_long (map option_for ss) name)
        ≡ option_map option_for (cond b (Some s) (find (λ s. bytes_eq s.name name) ss))
    by true more = refl
    by false more = more

pub short_is : (i : ℕ) (operands options : List Slot) (c : ℕ)
    → arg_by_short (operands_from i operands ++ map option_for options) c ≡ None
short_is i (s ∷ ss) options c = short_is (next i) ss options c
short_is i [] [] c = refl
short_is i [] (s ∷ ss) c = short_is i [] ss c

some_is : (x y : Slot) → Some x ≡ Some y → x ≡ y
some_is x y e = cc

pub found_option : (c : List Rule) (options : List Slot) (name : Text) (s : Slot)
    → AllByRecursion (IsOption c) options → find (λ s. bytes_eq s.name name) options ≡ Some s
    → IsOption c s
found_option c [] name s all found = absurd cc
found_option c (o ∷ os) name s all found =
    by (bytes_eq o.name name) all found (λ later. found_option c os name s all.1 later)
  where
    by : (b : Bool) → AllByRecursion (IsOption c) (o ∷ os)
        → cond b (Some o) (find (λ s. bytes_eq s.name name) os) ≡ Some s
        → (find (λ s. bytes_eq s.name name) os ≡ Some s → IsOption c s) → IsOption c s
    by true all found more = subst (IsOption c) (some_is o s found) all.0
    by false all found more = more found
