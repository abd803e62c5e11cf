-- What lists of words mean, computed.
use Rattle.std.proofs.Common.{◌≡◌, ◌==◌, ℕ, List, [], ◌∷◌, Option, Some, None, map, refl}
use Rattle.std.specs.Prelude.{codes, if◌then◌else◌}
use Rattle.erim_defs.specs.Output.WordForms.{Text, reads}
use Rattle.erim_defs.specs.Output.Words.{Command, Inspect, Disasm, Run, Replay, Rewrite, Gen, Soak}
use Rattle.erim_defs.specs.Output.Words.{command_of}
use Prim.Native.String.{String}

-- ---- rows

-- words, and the command that they mean
record Row : Type 0 where
  words : List Text
  meant : Option Command

abbrev begun : ℕ → List Text → List Text
begun c [] = (c ∷ []) ∷ []
begun c (word ∷ words) = (c ∷ word) ∷ words

-- the words of a line, with a space (32) between two
abbrev parted : Text → List Text
parted [] = [] ∷ []
parted (c ∷ rest) = if c == 32 then [] ∷ parted rest else begun c (parted rest)

abbrev means : String → Command → Row
means line command = record { words = parted (codes line); meant = Some command }

abbrev none : String → Row
none line = record { words = parted (codes line); meant = None }

abbrev run_with : (workers steps frames : ℕ) → Command
run_with workers steps frames = Run (codes "a") (codes "j") workers steps frames

-- `é`, whose bytes are 195 and 169
abbrev accented : Text
accented = 195 ∷ 169 ∷ []

-- ---- commands and names

-- the first word is the program's name, whatever it is
commands : List Row
commands =
    means "erim inspect a.img" (Inspect (codes "a.img")) ∷
    means "x disasm b" (Disasm (codes "b")) ∷
    means " run c d" (Run (codes "c") (codes "d") 4 1000000 1024) ∷
    means "--help replay a j" (Replay (codes "a") (codes "j")) ∷
    means "erim rewrite a o" (Rewrite (codes "a") (codes "o")) ∷
    means "erim gen 7 o" (Gen 7 (codes "o")) ∷
    means "erim soak 8 j" (Soak 8 (codes "j")) ∷
    -- `-` alone and the empty word are names, and so are words with `-` or `=` after their first
    -- letter
    means "erim inspect -" (Inspect (codes "-")) ∷
    means "erim inspect " (Inspect []) ∷
    means "erim inspect a-b" (Inspect (codes "a-b")) ∷
    means "erim inspect a=b" (Inspect (codes "a=b")) ∷
    means "erim inspect =--" (Inspect (codes "=--")) ∷
    -- a word that isn't ASCII
    record {
      words = codes "erim" ∷ codes "inspect" ∷ accented ∷ [];
      meant = Some (Inspect accented);
    } ∷
    -- no word, no command, another one
    record { words = []; meant = None } ∷
    none "" ∷
    none "erim" ∷
    none "erim " ∷
    none "erim Inspect a" ∷
    none "erim inspects a" ∷
    none "erim inspec a" ∷
    none "erim  a" ∷
    none "erim -- inspect a" ∷
    none "erim --workers 2 run a j" ∷
    -- help and versions
    none "erim help" ∷
    none "erim -h" ∷
    none "erim --help" ∷
    none "erim --version" ∷
    none "erim inspect --help" ∷
    none "erim inspect a -h" ∷
    none "erim run a j -V" ∷
    means "erim inspect help" (Inspect (codes "help")) ∷
    -- too few, and too many
    none "erim inspect" ∷
    none "erim disasm" ∷
    none "erim run a" ∷
    none "erim replay a" ∷
    none "erim rewrite a" ∷
    none "erim gen 7" ∷
    none "erim soak 7" ∷
    none "erim inspect a b" ∷
    none "erim disasm a b" ∷
    none "erim run a b c" ∷
    none "erim replay a b c" ∷
    none "erim rewrite a b c" ∷
    none "erim gen 7 o p" ∷
    none "erim soak 7 j k" ∷ []

meanings : map (λ (r : Row). command_of r.words) commands ≡ map (λ (r : Row). r.meant) commands
unfolding command_of reads commands
meanings = refl

-- ---- words with dashes

dashed : List Row
dashed =
    none "erim inspect -v" ∷
    none "erim inspect -1" ∷
    none "erim inspect ---" ∷
    none "erim inspect --=" ∷
    none "erim disasm --all" ∷
    none "erim run -a b" ∷
    none "erim run a -b" ∷
    -- an operand's name is no option
    none "erim inspect --IMAGE a" ∷
    -- after `--` each word is an operand, also a second `--`
    means "erim inspect -- a" (Inspect (codes "a")) ∷
    means "erim inspect a --" (Inspect (codes "a")) ∷
    means "erim inspect -- -a" (Inspect (codes "-a")) ∷
    means "erim inspect -- --" (Inspect (codes "--")) ∷
    means "erim run a -- j" (run_with 4 1000000 1024) ∷
    means "erim run a j --workers 2 --" (run_with 2 1000000 1024) ∷
    means "erim run -- a --steps=1" (Run (codes "a") (codes "--steps=1") 4 1000000 1024) ∷
    none "erim inspect --" ∷
    none "erim inspect -- -- --" ∷
    none "erim run a j -- --" ∷
    none "erim run a j -- --steps 1" ∷
    none "erim run a -- j --workers=2" ∷ []

dashes : map (λ (r : Row). command_of r.words) dashed ≡ map (λ (r : Row). r.meant) dashed
unfolding command_of reads dashed
dashes = refl

-- ---- options

optional : List Row
optional =
    -- in any order and place, as one word or as two
    means "erim run a j --workers 2 --steps 3 --frames 65" (run_with 2 3 65) ∷
    means "erim run a j --frames=65 --steps=3 --workers=2" (run_with 2 3 65) ∷
    means "erim run --steps 3 a --frames=65 j --workers 2" (run_with 2 3 65) ∷
    means "erim run --workers=2 a j" (run_with 2 1000000 1024) ∷
    -- the ends of the ranges, and what is just outside
    means "erim run a j --workers 1" (run_with 1 1000000 1024) ∷
    means "erim run a j --workers 8" (run_with 8 1000000 1024) ∷
    means "erim run a j --steps 1" (run_with 4 1 1024) ∷
    means "erim run a j --steps 4194304" (run_with 4 4194304 1024) ∷
    means "erim run a j --frames 64" (run_with 4 1000000 64) ∷
    means "erim run a j --frames 4096" (run_with 4 1000000 4096) ∷
    none "erim run a j --workers 0" ∷
    none "erim run a j --workers 9" ∷
    none "erim run a j --steps 0" ∷
    none "erim run a j --steps 4194305" ∷
    none "erim run a j --frames 63" ∷
    none "erim run a j --frames 4097" ∷
    -- a `+` and zeros before the number
    means "erim run a j --workers=+02" (run_with 2 1000000 1024) ∷
    means "erim run a j --frames 0064" (run_with 4 1000000 64) ∷
    -- what is no number
    none "erim run a j --workers=" ∷
    none "erim run a j --workers " ∷
    none "erim run a j --workers -" ∷
    none "erim run a j --workers=-2" ∷
    none "erim run a j --workers -2" ∷
    none "erim run a j --workers==2" ∷
    none "erim run a j --workers=2=3" ∷
    none "erim run a j --workers=2.0" ∷
    none "erim run a j --steps 1_000" ∷
    -- without a value
    none "erim run a j --workers" ∷
    none "erim run a j --workers --" ∷
    none "erim run a j --steps --frames 64" ∷
    -- twice
    none "erim run a j --workers 2 --workers 2" ∷
    none "erim run --steps=1 a j --steps 2" ∷
    -- other names, a prefix among them, and options of another command
    none "erim run a j --work 2" ∷
    none "erim run a j --workerss 2" ∷
    none "erim run a j --WORKERS 2" ∷
    none "erim run a j -workers 2" ∷
    none "erim run a j -w 2" ∷
    none "erim run a j --threads 2" ∷
    none "erim inspect a --workers 2" ∷
    none "erim replay a j --steps 5" ∷
    none "erim soak 7 j --frames=64" ∷ []

options : map (λ (r : Row). command_of r.words) optional ≡ map (λ (r : Row). r.meant) optional
unfolding command_of reads optional
options = refl

-- ---- seeds

seeded : List Row
seeded =
    means "erim gen 0 o" (Gen 0 (codes "o")) ∷
    means "erim gen +7 o" (Gen 7 (codes "o")) ∷
    means "erim gen 007 o" (Gen 7 (codes "o")) ∷
    means "erim gen 18446744073709551615 o" (Gen 18446744073709551615 (codes "o")) ∷
    means "erim soak -- 7 -7" (Soak 7 (codes "-7")) ∷
    none "erim gen 18446744073709551616 o" ∷
    none "erim gen o 7" ∷
    none "erim gen  o" ∷
    none "erim gen + o" ∷
    none "erim gen ++7 o" ∷
    none "erim gen -7 o" ∷
    none "erim gen -- -7 o" ∷
    none "erim gen 7a o" ∷
    none "erim soak j 7" ∷ []

seeds : map (λ (r : Row). command_of r.words) seeded ≡ map (λ (r : Row). r.meant) seeded
unfolding command_of reads seeded
seeds = refl
