-- A parse of a form's command is the reading of the words.
use Rattle.std.proofs.Common.{◌≡◌, ◌∙◌, ℕ, ◌&&◌, ◌||◌, Bool, true, false, cond, List, [], ◌∷◌, ◌++◌}
use Rattle.std.proofs.Common.{map, find, Option, Some, None, refl, sym, ap, subst, inl, inr, Ok}
use Rattle.std.proofs.Common.{Err}
use Rattle.std.specs.Prelude.{not, is_some, count_by, fold}
use Rattle.std.specs.List.{list_all, list_any, AllByRecursion}
use Rattle.std.specs.Option.{option_map_or, option_and_then}
use Rattle.std.specs.Str.{bytes_eq, IsUtf8}
use Rattle.clap.specs.Facts.{explicit_source}
use Rattle.clap.specs.Kinds.{Kinds, or_else, check_kinds, FailsBy, HasKind, IsAmong}
use Rattle.clap.specs.Walk.{Row, Rule, Held, Walk, is_early_multiple, rows_after, walked, has_row}
use Rattle.clap.specs.Walk.{with_default, finished, settled, nothing_held, stop_after}
use Rattle.clap.specs.Simple.{App, HasMatchesOf, is_buildable, is_ready, is_ready_leaf, names_of}
use Rattle.clap.specs.Simple.{built, entered, is_simple, matches_of, argument_words}
use Rattle.clap.specs.Takes.{is_given as was_used}
use Rattle.clap.specs.Faults.{is_free_app, fault_of, built_fault, entered_fault, level_fault}
use Rattle.clap.specs.Faults.{defaults_fault, given_default_fault, is_simple_and_free, settle_fault}
use Rattle.clap.specs.Faults.{walk_fault}
use Rattle.clap.specs.Values.{kind_of}
use Rattle.clap.specs.declared.error.Error.{Error}
use Rattle.clap.specs.declared.error.kind.ErrorKind.TheVariants.{OutOfMemory}
use Rattle.clap.specs.declared.parser.matches.ArgMatches.{ArgMatches}
use Rattle.erim_defs.specs.Output.WordForms.{Text, Slot, Form, Given, Free, Reading, is_given}
use Rattle.erim_defs.specs.Output.WordForms.{reads, complete, given_by}
use Rattle.command_words.specs.Clap.{operand_rule, option_rule, app_for, row_for, operand_at}
use Rattle.command_words.specs.Clap.{option_for, next, operands_from, rules, IsForm, IsRead}
use Rattle.command_words.proofs.RuleLemmas.{built_top, top_with, given_rules, app_is, built_is}
use Rattle.command_words.proofs.RuleLemmas.{alone, none, given_rows, long_is, short_is}
use Rattle.command_words.proofs.TurnLemmas.{pass, end_rows, Ends}
use Rattle.command_words.proofs.WalkLemmas.{Facts, walk_in, keeps_step}

facts_of : (f : Form) → IsForm f → Facts (rules f) f.options
facts_of f is = record {
  long = long_is 1 f.operands f.options;
  short = short_is 1 f.operands f.options;
  each = is.found;
}

abbrev start : Walk
start = walk_in Free [] None 1

abbrev start_at : Form → Reading
start_at f = record { mode = Free; left = f.operands; given = [] }

-- the walk over the words, from the start
walked_whole : (f : Form) → IsForm f → (words : List Text) → AllByRecursion IsUtf8 words
    → Ends (rules f) start words (reads f.options (start_at f) words) true
walked_whole f is words utf8 =
    keeps_step (rules f) f.options (facts_of f is) words utf8 Free [] None 1 f.operands [] true
    (record { fault = refl; settled = λ _. refl }) is.ahead

-- ---- no defaults

passed_over : (b : Bool) (x : Kinds) → cond (b || true) [] x ≡ []
passed_over true x = refl
passed_over false x = refl

same : {A : Type 0} (b : Bool) (x : A) → cond b x x ≡ x
same true x = refl
same false x = refl

no_defaults : (rows : List Row) (options : List Slot)
    → defaults_fault rows (map option_for options) ≡ []
unfolding defaults_fault
no_defaults rows [] = refl
no_defaults rows (s ∷ ss) =
    let b = has_row s.name rows in
    rw (passed_over b (given_default_fault (option_for s) []), same b rows) (no_defaults rows ss)

no_faults : (rows : List Row) (i : ℕ) (operands options : List Slot)
    → defaults_fault rows (operands_from i operands ++ map option_for options) ≡ []
unfolding defaults_fault
no_faults rows i [] options = no_defaults rows options
no_faults rows i (s ∷ ss) options =
    let b = has_row s.name rows in
    rw (passed_over b (given_default_fault (operand_at i s) []), same b rows)
    (no_faults rows (next i) ss options)

rows_stay : (rows : List Row) (options : List Slot)
    → fold with_default rows (map option_for options) ≡ rows
rows_stay rows [] = refl
rows_stay rows (s ∷ ss) =
    ap (λ (rs : List Row). fold with_default rs (map option_for ss))
    (same (has_row s.name rows) rows)
    ∙ rows_stay rows ss

all_stay : (rows : List Row) (i : ℕ) (operands options : List Slot)
    → fold with_default rows (operands_from i operands ++ map option_for options) ≡ rows
all_stay rows i [] options = rows_stay rows options
all_stay rows i (s ∷ ss) options =
    let later = operands_from (next i) ss ++ map option_for options in
    ap (λ (rs : List Row). fold with_default rs later) (same (has_row s.name rows) rows)
    ∙ all_stay rows (next i) ss options

-- ---- required operands

was_given : (name : Text) (given : Given) → was_used name (given_rows given) ≡ is_given name given
was_given name [] = refl
was_given name (g ∷ gs) = by (bytes_eq g.0 name) (was_given name gs)
  where
    by : (b : Bool) → was_used name (given_rows gs) ≡ is_given name gs
        → option_map_or (λ (r : Row). explicit_source r.source)
        (cond b (Some (row_for g)) (find (λ r. bytes_eq r.id name) (given_rows gs))) false
        ≡ (b || is_given name gs)
    by true more = refl
    by false more = more

abbrev is_wanted : Given → Rule → Bool
is_wanted given a = a.required && not (was_used a.id (given_rows given))

options_free : (given : Given) (options : List Slot)
    → list_any (is_wanted given) (map option_for options) ≡ false
options_free given [] = refl
options_free given (s ∷ ss) = options_free given ss

wanted : (given : Given) (i : ℕ) (operands options : List Slot)
    → not (list_any (is_wanted given) (operands_from i operands ++ map option_for options))
    ≡ list_all (λ s. is_given s.name given) operands
wanted given i [] options = ap not (options_free given options)
wanted given i (s ∷ ss) options =
    rw (was_given s.name given) (by (is_given s.name given) (wanted given (next i) ss options))
  where
    by : (b : Bool)
        → not (list_any (is_wanted given) (operands_from (next i) ss ++ map option_for options))
        ≡ list_all (λ s. is_given s.name given) ss
        → not (not b
        || list_any (is_wanted given) (operands_from (next i) ss ++ map option_for options))
        ≡ (b && list_all (λ s. is_given s.name given) ss)
    by true more = more
    by false more = refl

check_is : (b : Bool) → none (check_kinds false false b) ≡ not b
check_is true = refl
check_is false = refl

-- ---- the whole

no_sub : (rs : List Rule) (stop : Option (Text × List Text))
    → is_some (entered (alone (built_top rs)) stop) ≡ false
no_sub rs None = refl
no_sub rs (Some p) = refl

no_sub_fault : (rs : List Rule) (stop : Option (Text × List Text))
    → entered_fault (alone (built_top rs)) stop ≡ []
no_sub_fault rs None = refl
no_sub_fault rs (Some p) = refl

complete_is : (operands : List Slot) (given : Given)
    → list_all (λ s. is_given s.name given) operands ≡ is_some (complete operands given)
complete_is operands given = by (list_all (λ s. is_given s.name given) operands)
  where
    by : (b : Bool) → b ≡ is_some (cond b (Some given) None)
    by true = refl
    by false = refl

joined : (walk settle : Kinds) (b : Bool)
    → none (or_else walk (or_else settle (check_kinds false false b)))
    ≡ ((none walk && none settle) && not b)
joined [] [] b = check_is b
joined [] (k ∷ ks) b = refl
joined (k ∷ ks) settle b = refl

abbrev lacks : Form → List Row → Bool
lacks f rows = list_any (λ a. a.required && not (was_used a.id rows)) (rules f)

-- the kinds of a level are none where the walk passes and each operand is there
level_is : (f : Form) (words : List Text) (sub : Bool) (below : Kinds) → sub ≡ false → below ≡ []
    → none (level_fault (built_top (rules f)) [] nothing_held words sub below)
    ≡ (pass (rules f) start words && not (lacks f (end_rows (rules f) start words)))
level_is f words sub below no_sub nothing =
    let c = rules f in
    let end : Held = (fold (walked c []) start words).held in
    let rows : List Row = (settled c end).rows in
    let defaults : defaults_fault rows c ≡ [] = no_faults rows 1 f.operands f.options in
    let stay : finished c end ≡ rows = all_stay rows 1 f.operands f.options in
    rw (no_sub, nothing, defaults, stay)
    (joined (walk_fault (built_top c) [] start words) (settle_fault c false end) (lacks f rows))

-- ---- what the reading says

whole_is : (f : Form) (words : List Text) (result : Option Given)
    → Ends (rules f) start words result true
    → (pass (rules f) start words && not (lacks f (end_rows (rules f) start words)))
    ≡ is_some (option_and_then (complete f.operands) result)
whole_is f words None ends = rw ends.pass refl
whole_is f words (Some given) ends =
    rw (ends.pass, ends.rows refl)
    (wanted given 1 f.operands f.options ∙ complete_is f.operands given)

arguments_are : (f : Form) (words : List Text) → argument_words (app_for f) words ≡ words
arguments_are f words = ap (λ (a : App). argument_words a words) (app_is f)

-- an error comes exactly where the words give nothing
pub fault_is : (f : Form) → IsForm f → (words : List Text) → AllByRecursion IsUtf8 words
    → none (fault_of (app_for f) words) ≡ is_some (given_by f words)
fault_is f is words utf8 =
    ap (λ (args : List Text). none (built_fault (built (app_for f)) nothing_held args))
    (arguments_are f words)
    ∙ (ap (λ (b : App). none (built_fault b nothing_held words)) (built_is f)
    ∙ (level_is f words _ _ (no_sub (rules f) (stop_after (rules f) [] words))
    (no_sub_fault (rules f) (stop_after (rules f) [] words))
    ∙ whole_is f words (reads f.options (start_at f) words) (walked_whole f is words utf8)))

rows_are : (f : Form) (words : List Text) (result : Option Given) (given : Given)
    → Ends (rules f) start words result true
    → option_and_then (complete f.operands) result ≡ Some given
    → end_rows (rules f) start words ≡ given_rows given
rows_are f words None given ends is = absurd cc
rows_are f words (Some read) given ends is =
    ends.rows refl ∙ ap given_rows (by (list_all (λ s. is_given s.name read) f.operands) is)
  where
    by : (b : Bool) → cond b (Some read) None ≡ Some given → read ≡ given
    by true e = cc
    by false e = absurd cc

-- the matches are those of what was given
pub matches_are : (f : Form) → IsForm f → (words : List Text) (given : Given)
    → AllByRecursion IsUtf8 words → given_by f words ≡ Some given
    → matches_of (app_for f) words ≡ given_rows given
matches_are f is words given utf8 read =
    let b = built (app_for f) in
    ap (λ (args : List Text). rows_after b.top.rules (names_of b) args) (arguments_are f words)
    ∙ (ap (λ (a : App). rows_after a.top.rules (names_of a) words) (built_is f)
    ∙ (all_stay (end_rows (rules f) start words) 1 f.operands f.options
    ∙ rows_are f words (reads f.options (start_at f) words) given (walked_whole f is words utf8)
    read))

-- ---- the command is simple, and its arguments have no rule on one another

simple_options : (options : List Slot)
    → list_all (λ (a : Rule). a.is_simple) (map option_rule options) ≡ true
simple_options [] = refl
simple_options (s ∷ ss) = simple_options ss

simple_given : (operands options : List Slot)
    → list_all (λ (a : Rule). a.is_simple) (map operand_rule operands ++ map option_rule options)
    ≡ true
simple_given [] options = simple_options options
simple_given (s ∷ ss) options = simple_given ss options

simple_rules : (i : ℕ) (operands options : List Slot)
    → list_all (λ (a : Rule). a.is_simple) (operands_from i operands ++ map option_for options)
    ≡ true
simple_rules i [] [] = refl
simple_rules i [] (s ∷ ss) = simple_rules i [] ss
simple_rules i (s ∷ ss) options = simple_rules (next i) ss options

free_rules : (i : ℕ) (operands options : List Slot)
    → list_all (λ (a : Rule). a.is_free) (operands_from i operands ++ map option_for options) ≡ true
free_rules i [] [] = refl
free_rules i [] (s ∷ ss) = free_rules i [] ss
free_rules i (s ∷ ss) options = free_rules (next i) ss options

in_order : (n i : ℕ) (operands options : List Slot)
    → list_any (is_early_multiple n) (operands_from i operands ++ map option_for options) ≡ false
in_order n i [] [] = refl
in_order n i [] (s ∷ ss) = in_order n i [] ss
in_order n i (s ∷ ss) options = in_order n (next i) ss options

-- the test, by the command and what building makes of it
abbrev simple_by : App → App → Bool
simple_by a b =
    (is_buildable a && (is_ready b.top && list_all is_ready_leaf b.subs)) && is_free_app b

simple_at : (f : Form)
    → simple_by (alone (top_with (given_rules f))) (alone (built_top (rules f))) ≡ true
simple_at f =
    let operands = f.operands in
    let options = f.options in
    let order = in_order (count_by (λ (a : Rule). is_some a.index) (rules f)) 1 operands options in
    rw (
      simple_given operands options,
      simple_rules 1 operands options,
      order,
      free_rules 1 operands options,
    ) refl

pub simple_is : (f : Form) → is_simple_and_free (app_for f) ≡ true
simple_is f =
    ap (λ (b : App). simple_by (app_for f) b) (built_is f)
    ∙ (ap (λ (a : App). simple_by a (alone (built_top (rules f)))) (app_is f) ∙ simple_at f)

pub just_simple : (f : Form) → is_simple (app_for f) ≡ true
just_simple f = first (is_simple (app_for f)) (is_free_app (built (app_for f))) (simple_is f)
  where
    first : (a b : Bool) → (a && b) ≡ true → a ≡ true
    first true b e = refl
    first false b e = absurd cc

-- ---- what a parse returns

-- at `Ok` the words give what the matches have
pub ok_is : (f : Form) → IsForm f → (words : List Text) → AllByRecursion IsUtf8 words
    → (m : ArgMatches) → FailsBy {T = ArgMatches} (fault_of (app_for f) words) (Ok m)
    → HasMatchesOf (app_for f) words m → IsRead (given_by f words) (Some m)
ok_is f is words utf8 m faultless matches = by (given_by f words) refl
  where
    by : (r : Option Given) → given_by f words ≡ r → IsRead r (Some m)
    by None read =
        let bad : true ≡ false =
        sym (ap none faultless) ∙ (fault_is f is words utf8 ∙ ap is_some read) in
        absurd cc
    by (Some given) read = (matches (just_simple f)).0 ∙ matches_are f is words given utf8 read

-- an error that isn't out of memory comes where the words give nothing
pub err_is : (f : Form) → IsForm f → (words : List Text) → AllByRecursion IsUtf8 words → (e : Error)
    → (kind_of e ≡ OutOfMemory → ⊥) → HasKind (fault_of (app_for f) words) e
    → IsRead (given_by f words) None
err_is f is words utf8 e other kinds = by (given_by f words) refl kinds
  where
    nothing : (ks : Kinds) → none ks ≡ true → IsAmong (kind_of e) ks → ⊥
    nothing [] fine among = among
    nothing (k ∷ ks) fine among = absurd cc

    by : (r : Option Given) → given_by f words ≡ r → HasKind (fault_of (app_for f) words) e
        → IsRead r None
    by None read kinds = tt
    by (Some given) read (inl memory) = absurd (other memory)
    by (Some given) read (inr among) =
        let fine = fault_is f is words utf8 ∙ ap is_some read in
        absurd (nothing (fault_of (app_for f) words) fine among)

-- ---- the same of a command that is the form's

pub ok_at : (f : Form) → IsForm f → (app : App) → app ≡ app_for f → (words : List Text)
    → AllByRecursion IsUtf8 words → (m : ArgMatches)
    → (is_simple_and_free app ≡ true → FailsBy {T = ArgMatches} (fault_of app words) (Ok m))
    → HasMatchesOf app words m → IsRead (given_by f words) (Some m)
ok_at f is app same words utf8 m kinds matches =
    ok_is f is words utf8 m
    (subst (λ (a : App). FailsBy {T = ArgMatches} (fault_of a words) (Ok m)) same
    (kinds (ap is_simple_and_free same ∙ simple_is f)))
    (subst (λ (a : App). HasMatchesOf a words m) same matches)

pub err_at : (f : Form) → IsForm f → (app : App) → app ≡ app_for f → (words : List Text)
    → AllByRecursion IsUtf8 words → (e : Error) → (kind_of e ≡ OutOfMemory → ⊥)
    → (is_simple_and_free app ≡ true → FailsBy {T = ArgMatches} (fault_of app words) (Err e))
    → IsRead (given_by f words) None
err_at f is app same words utf8 e other kinds =
    err_is f is words utf8 e other
    (subst (λ (a : App). HasKind (fault_of a words) e) same
    (kinds (ap is_simple_and_free same ∙ simple_is f)))
