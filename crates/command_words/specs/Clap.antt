-- A form as a command of the crate `clap`, and what its matches give.
use Rattle.std.specs.Prelude.{◌≡◌, ℕ, ◌^◌, nat_lt, Bool, true, false, Option, Some, None, List, []}
use Rattle.std.specs.Prelude.{◌∷◌, ◌++◌, ◌+◌, min, map, codes, fold, ⊤}
use Rattle.std.specs.List.{AllByRecursion}
use Rattle.clap.specs.Words.{App, Row, Rule, found_of, new_app, new_rule, rows_of, with_rule}
use Rattle.clap.specs.Lexer.{usize_max}
use Rattle.clap.specs.Walk.{arg_by_id, arg_by_index}
use Rattle.clap.specs.declared.builder.action.ArgAction.TheVariants.{Set}
use Rattle.clap.specs.declared.builder.range.ValueRange.{ValueRange}
use Rattle.clap.specs.declared.builder.value_parser.ValueParser.{ValueParser}
use Rattle.clap.specs.declared.builder.value_parser.ValueParser.TheVariants as parsers
use Rattle.clap.specs.declared.parser.matches.ArgMatches.{ArgMatches}
use Rattle.clap.specs.declared.parser.matches.ValueSource.TheVariants.{CommandLine}
use Rattle.clap.specs.declared.builder.value_parser.Reading.TheVariants.{AsWritten}
use Rattle.erim_defs.specs.Output.WordForms.{Text, Kind, Name, Number, Slot, Form, Given}
use Rattle.command_words.specs.declared.slot.Kind.{Kind as KindOf}
use Rattle.command_words.specs.declared.slot.Kind.TheVariants as kinds
use Rattle.command_words.specs.declared.slot.Slot.{Slot as SlotOf}

-- a slot of the code
abbrev pub kind_of : KindOf → Kind
kind_of kinds.Name = Name
kind_of (kinds.Number least most) = Number least most

abbrev pub slot_of : SlotOf → Slot
slot_of s = record { name = s.name.now; kind = kind_of s.kind }

abbrev pub form_of : List SlotOf → List SlotOf → Form
form_of operands options = record { operands = map slot_of operands; options = map slot_of options }

-- ---- the command of a form

-- what `clap` is asked to test; by itself it takes any text
abbrev pub parser_of : Kind → Option ValueParser
parser_of Name = None
parser_of (Number least most) = Some (parsers.Unsigned least most)

abbrev pub slot_rule : Slot → Rule
slot_rule s = record (new_rule s.name) { parser = parser_of s.kind }

abbrev pub operand_rule : Slot → Rule
operand_rule s = record (slot_rule s) { required = true }

abbrev pub option_rule : Slot → Rule
option_rule s = record (slot_rule s) { long = Some s.name }

abbrev pub start_app : App
start_app = record {
  top = record (new_app (codes "erim")).top { no_binary_name = true; disable_help_flag = true };
  subs = [];
}

abbrev pub with_rules : App → List Rule → App
with_rules a rules = fold with_rule a rules

abbrev pub app_for : Form → App
app_for f = with_rules start_app (map operand_rule f.operands ++ map option_rule f.options)

-- ---- the rules that `clap` makes of a form

abbrev pub one : ValueRange
one = record { start_inclusive = 1; end_inclusive = 1 }

abbrev pub parser : Kind → ValueParser
parser Name = parsers.String
parser (Number least most) = parsers.Unsigned least most

abbrev pub rule_for : Option Text → Option ℕ → Bool → Slot → Rule
rule_for long index required s = record (new_rule s.name) {
  long = long;
  index = index;
  required = required;
  action = Some Set;
  range = Some one;
  parser = Some (parser s.kind);
}

abbrev pub operand_at : ℕ → Slot → Rule
operand_at i s = rule_for None (Some i) true s

abbrev pub option_for : Slot → Rule
option_for s = rule_for (Some s.name) None false s

abbrev pub next : ℕ → ℕ
next i = min (i + 1) usize_max

abbrev pub operands_from : ℕ → List Slot → List Rule
operands_from i [] = []
operands_from i (s ∷ ss) = operand_at i s ∷ operands_from (next i) ss

abbrev pub rules : Form → List Rule
rules f = operands_from 1 f.operands ++ map option_for f.options

-- ---- forms that can be read: no two slots have one name, and numbers are below 2 ^ 64

abbrev pub is_limited : Kind → Bool
is_limited Name = true
is_limited (Number least most) = nat_lt most (2 ^ 64)

-- the operands that are left, by their places and names
abbrev pub Ahead : List Rule → ℕ → List Slot → Type 0
Ahead c k [] = arg_by_index c k ≡ None
Ahead c k (s ∷ ss) =
    (arg_by_index c k ≡ Some (operand_at k s)) × (arg_by_id c s.name ≡ Some (operand_at k s))
    × (is_limited s.kind ≡ true) × Ahead c (next k) ss

-- an option that is found by its name
abbrev pub IsOption : List Rule → Slot → Type 0
IsOption c s = (arg_by_id c s.name ≡ Some (option_for s)) × (is_limited s.kind ≡ true)

-- computes at a form that is written out
pub record IsForm (f : Form) : Type 0 where
  pub ahead : Ahead (rules f) 1 f.operands
  pub found : AllByRecursion (IsOption (rules f)) f.options

-- ---- its matches

-- what is found for a slot
abbrev pub row_for : Text × Text → Row
row_for g = record {
  id = g.0;
  values = g.1 ∷ [];
  count = None;
  source = Some CommandLine;
  reading = AsWritten;
}

-- the matches of what was given
abbrev pub HasGiven : Given → ArgMatches → Type 0
HasGiven given m = rows_of (found_of m) ≡ map row_for given

-- the words give something, and the matches have it; or they give nothing, and there are no matches
abbrev pub IsRead : Option Given → Option ArgMatches → Type 0
IsRead None None = ⊤
IsRead None (Some m) = ⊥
IsRead (Some given) None = ⊥
IsRead (Some given) (Some m) = HasGiven given m
