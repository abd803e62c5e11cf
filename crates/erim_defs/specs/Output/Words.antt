-- What a list of words means. Own. The first word is the program's name, whatever it is; the second
-- is the command's, letter by letter.
use Rattle.std.specs.Prelude.{ℕ, ◌^◌, ◌-◌, ◌&&◌, nat_lt, Option, None, List, [], ◌∷◌, codes, find}
use Rattle.std.specs.Prelude.{if◌then◌else◌}
use Rattle.std.specs.Option.{option_map, option_and_then, option_map_or}
use Rattle.std.specs.Str.{bytes_eq}
use Rattle.erim_defs.specs.declared.limits.TheConstants.{LEAST_FRAMES, MOST_FRAMES, MOST_STEPS}
use Rattle.erim_defs.specs.declared.limits.TheConstants.{MOST_WORKERS}
use Rattle.erim_defs.specs.declared.limits.TheConstants.{USUAL_FRAMES, USUAL_STEPS, USUAL_WORKERS}
use Rattle.erim_defs.specs.Output.WordForms.{Text, Name, Number, Slot, Form, Given, number_of}
use Rattle.erim_defs.specs.Output.WordForms.{is_numeral, word_of, given_by}

-- a command with its names, each as its bytes, and its numbers
pub data Command : Type 0 where
  -- prints the unsafe list of an image
  Inspect : (image : Text) → Command
  -- prints the instructions of an image
  Disasm : (image : Text) → Command
  -- runs an image with a given number of workers, for at most a given number of steps with at most
  -- a given number of mapped pages, saves the journal of the run, and prints its report
  Run : (image journal : Text) (workers steps frames : ℕ) → Command
  -- runs an image by a journal, and prints the report
  Replay : (image journal : Text) → Command
  -- saves an image in which no sequence is unsafe, rewritten from another
  Rewrite : (image out : Text) → Command
  -- saves the image that is made from a seed
  Gen : (seed : ℕ) (out : Text) → Command
  -- runs the image that is made from a seed, saves the journal of the run, and prints its line
  Soak : (seed : ℕ) (journal : Text) → Command

-- ---- operands and options

abbrev pub name_slot : Text → Slot
name_slot name = record { name = name; kind = Name }

abbrev pub number_slot : Text → ℕ → ℕ → Slot
number_slot name least most = record { name = name; kind = Number least most }

abbrev pub image : Slot
image = name_slot (codes "IMAGE")

abbrev pub journal : Slot
journal = name_slot (codes "JOURNAL")

abbrev pub out : Slot
out = name_slot (codes "OUT")

abbrev pub seed : Slot
seed = number_slot (codes "SEED") 0 (2 ^ 64 - 1)

abbrev pub workers : Slot
workers = number_slot (codes "workers") 1 MOST_WORKERS

abbrev pub steps : Slot
steps = number_slot (codes "steps") 1 MOST_STEPS

abbrev pub frames : Slot
frames = number_slot (codes "frames") LEAST_FRAMES MOST_FRAMES

-- the word that was given for a slot
abbrev pub text : Given → Slot → Text
text given slot = option_map_or (λ word. word) (word_of slot.name given) []

-- a word that was given for a number is a numeral below 2 ^ 64, so it is never the other case
abbrev pub number_or : ℕ → Text → ℕ
number_or standard word =
    if is_numeral word && nat_lt (number_of word) (2 ^ 64) then number_of word else standard

-- the number that was given for a slot, or the one that stands for none
abbrev pub value : Given → Slot → ℕ → ℕ
value given slot standard = option_map_or (number_or standard) (word_of slot.name given) standard

-- ---- the commands: the word, the operands and options, and what they mean

pub record Usage : Type 0 where
  pub word : Text
  pub form : Form
  pub means : Given → Command

abbrev pub usage : Text → List Slot → List Slot → (Given → Command) → Usage
usage word operands options means = record {
  word = word;
  form = record { operands = operands; options = options };
  means = means;
}

abbrev pub inspect_usage : Usage
inspect_usage = usage (codes "inspect") (image ∷ []) [] (λ g. Inspect (text g image))

abbrev pub disasm_usage : Usage
disasm_usage = usage (codes "disasm") (image ∷ []) [] (λ g. Disasm (text g image))

-- without options: 4 workers, 1,000,000 steps, 1,024 frames
abbrev pub run_usage : Usage
run_usage =
    usage (codes "run") (image ∷ journal ∷ []) (workers ∷ steps ∷ frames ∷ [])
    (λ g. Run (text g image) (text g journal) (value g workers USUAL_WORKERS)
    (value g steps USUAL_STEPS) (value g frames USUAL_FRAMES))

abbrev pub replay_usage : Usage
replay_usage =
    usage (codes "replay") (image ∷ journal ∷ []) [] (λ g. Replay (text g image) (text g journal))

abbrev pub rewrite_usage : Usage
rewrite_usage =
    usage (codes "rewrite") (image ∷ out ∷ []) [] (λ g. Rewrite (text g image) (text g out))

abbrev pub gen_usage : Usage
gen_usage = usage (codes "gen") (seed ∷ out ∷ []) [] (λ g. Gen (value g seed 0) (text g out))

abbrev pub soak_usage : Usage
soak_usage =
    usage (codes "soak") (seed ∷ journal ∷ []) [] (λ g. Soak (value g seed 0) (text g journal))

abbrev pub usages : List Usage
usages = inspect_usage ∷ disasm_usage ∷ run_usage ∷ replay_usage ∷ rewrite_usage ∷ gen_usage
    ∷ soak_usage ∷ []

-- what a usage means by the words after its word
abbrev pub command_by : List Text → Usage → Option Command
command_by words u = option_map u.means (given_by u.form words)

-- the command that the words mean
unfoldable pub command_of : List Text → Option Command
command_of [] = None
command_of (program ∷ []) = None
command_of (program ∷ word ∷ words) =
    option_and_then (command_by words) (find (λ u. bytes_eq word u.word) usages)
