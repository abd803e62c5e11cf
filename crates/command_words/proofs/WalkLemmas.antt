-- `clap`'s walk over the words keeps step with the reading of `erim_defs`. `clap` settles an
-- argument at the word after it, where the reading gives it at once.
use Rattle.std.proofs.Common.{◌≡◌, ◌∙◌, ℕ, ◌&&◌, ◌||◌, Bool, true, false, cond, List, [], ◌∷◌, ◌++◌}
use Rattle.std.proofs.Common.{length, find, Option, Some, None, refl, sym, ap, subst}
use Rattle.std.specs.Prelude.{slice_get, is_some}
use Rattle.std.specs.List.{AllByRecursion}
use Rattle.std.specs.Option.{option_map, option_map_or, option_and_then}
use Rattle.std.specs.Str.{bytes_eq, chars, IsUtf8}
use Rattle.std.proofs.lemmas.Slice.Eq.{bytes_eq-Decides}
use Rattle.clap.specs.Lexer.{long_of}
use Rattle.clap.specs.Kinds.{Kinds, or_else}
use Rattle.clap.specs.Walk.{Row, Rule, Held, Walk, Waiting, idle, option, value, to_positional}
use Rattle.clap.specs.Walk.{arg_by_id, arg_by_index, arg_by_long, arg_by_short, settled}
use Rattle.clap.specs.Walk.{settled_rows, used, walked}
use Rattle.clap.specs.Faults.{use_fault, settle_fault, walk_fault, turn_fault, react_fault}
use Rattle.clap.specs.Faults.{flags_fault, bundle_step_fault, step_fault}
use Rattle.erim_defs.specs.Output.WordForms.{Text, Slot, Given, Mode, Free, Value, Rest, Reading}
use Rattle.erim_defs.specs.Output.WordForms.{fits, is_given, is_dashed, is_end, operand, reads}
use Rattle.command_words.specs.Clap.{option_for, next, Ahead, IsOption}
use Rattle.command_words.proofs.WordLemmas.{parts_are, first_char, bundle_is, plain_word_is}
use Rattle.command_words.proofs.RuleLemmas.{built_top, none, none_both, given_rows, use_is, used_is}
use Rattle.command_words.proofs.RuleLemmas.{found_option}
use Rattle.command_words.proofs.TurnLemmas.{Pending, held, standing, can_give, was_new, settles}
use Rattle.command_words.proofs.TurnLemmas.{turns, pass, Ends, SettlesTo, pass_step, no_pass, stops}
use Rattle.command_words.proofs.TurnLemmas.{goes, shifts, pending_settles}

-- ---- tests

and_false : (d : Bool) → (d && false) ≡ false
and_false true = refl
and_false false = refl

and_true : (d : Bool) → (d && true) ≡ d
and_true true = refl
and_true false = refl

or_false : (b : Bool) → (b || false) ≡ b
or_false true = refl
or_false false = refl

passed_over : {A : Type 0} (b : Bool) (x y : A) → cond (b && false) x y ≡ y
passed_over true x y = refl
passed_over false x y = refl

first_bad : (a b : Kinds) → none a ≡ false → none (or_else a b) ≡ false
first_bad a b bad = none_both a b ∙ ap (λ (x : Bool). x && none b) bad

or_nil : (a : Kinds) → none (or_else a []) ≡ none a
or_nil a = none_both a [] ∙ and_true (none a)

same_name : (name : Text) → bytes_eq name name ≡ true
same_name name = (bytes_eq-Decides name name).1 refl

-- what is given where the word is taken
given_or : {A : Type 0} (F : Reading → Option A) (G : Given → Reading) (b : Bool) (given : Given)
    → option_and_then F (option_map G (cond b (Some given) None)) ≡ cond b (F (G given)) None
given_or F G true given = refl
given_or F G false given = refl

-- the pending argument is this slot's
abbrev is_own : Slot → Pending → Bool
is_own s pending = option_map_or (λ p. bytes_eq p.0 s.name) pending false

-- ---- what holds of the walk in each mode

abbrev pub walk_in : Mode → List Row → Pending → ℕ → Walk
walk_in Free rows pending place = standing idle false rows pending place
walk_in (Value s) rows pending place =
    standing (option s.name) false rows (Some (s.name, [])) place
walk_in Rest rows pending place = standing idle true rows pending place

-- an option waits for its value
pub record Waits (c : List Rule) (s : Slot) (rows : List Row) (given : Given)
    (d : Bool) : Type 0 where
  pub fine : d ≡ true
  pub has : rows ≡ given_rows given
  pub is : IsOption c s

abbrev pub Standing : List Rule → Mode → List Row → Pending → Given → Bool → Type 0
Standing c Free rows pending given d = SettlesTo c rows pending given d
Standing c (Value s) rows pending given d = Waits c s rows given d
Standing c Rest rows pending given d = SettlesTo c rows pending given d

-- what is known of the rules of a form with these options
pub record Facts (c : List Rule) (options : List Slot) : Type 0 where
  pub long : (name : Text)
      → arg_by_long c name ≡ option_map option_for (find (λ s. bytes_eq s.name name) options)
  pub short : (x : ℕ) → arg_by_short c x ≡ None
  pub each : AllByRecursion (IsOption c) options

abbrev mode_of : Bool → Mode
mode_of true = Rest
mode_of false = Free

module _ (c : List Rule) (options : List Slot) where
  -- what the rest of the words give
  abbrev read : Mode → List Slot → Given → List Text → Option Given
  read mode left given words =
      reads options (record { mode = mode; left = left; given = given }) words

  abbrev read_on : List Text → Option Reading → Option Given
  read_on words at = option_and_then (λ next. reads options next words) at

  -- the walk over these words keeps step
  abbrev Keeps : List Text → Type 0
  Keeps words =
      (mode : Mode) (rows : List Row) (pending : Pending) (place : ℕ) (left : List Slot)
      (given : Given) (d : Bool) → Standing c mode rows pending given d → Ahead c place left
      → Ends c (walk_in mode rows pending place) words (read mode left given words) d

  -- it does where operands may stand, after `--` or not
  abbrev Goes : Bool → List Text → Type 0
  Goes trail words =
      (rows : List Row) (pending : Pending) (place : ℕ) (left : List Slot) (given : Given)
      (d : Bool) → SettlesTo c rows pending given d → Ahead c place left
      → Ends c (standing idle trail rows pending place) words
      (read (mode_of trail) left given words) d

  -- ---- an operand

  operand_turn : (trail : Bool) (word : Text) (words : List Text) (rows : List Row)
      (pending : Pending) (place : ℕ) (left : List Slot) (given : Given) (d : Bool)
      → Goes trail words → SettlesTo c rows pending given d → Ahead c place left
      → let w = standing idle trail rows pending place in
      turn_fault (built_top c) [] w word ≡ step_fault (built_top c) place (held rows pending) value
      → walked c [] w word ≡ to_positional c (arg_by_index c place) word w (held rows pending)
      → Ends c w (word ∷ words) (read_on words (operand (mode_of trail) left given word)) d
  operand_turn trail word words rows pending place [] given d more stands ahead turn walks =
      stops c (standing idle trail rows pending place) word words None d
      (ap none turn ∙ rw ahead refl) (and_false d) (λ _. refl)
  operand_turn trail word words rows pending place (s ∷ left) given d more stands ahead turn
      walks = by d stands
    where
      w : Walk
      w = standing idle trail rows pending place

      now : Held
      now = held rows pending

      given_now : Given
      given_now = given ++ (s.name, word) ∷ []

      fault : turn_fault (built_top c) [] w word ≡ settle_fault c false now
      fault = turn ∙ rw ahead.0 (passed_over (is_own s pending) [] (settle_fault c false now))

      -- with these rows, the word waits for the slot
      waiting : List Row → Walk
      waiting rs = standing idle trail rs (Some (s.name, word ∷ [])) (next place)

      walks_on : walked c [] w word ≡ waiting (settled_rows c pending rows)
      walks_on =
          walks
          ∙ rw (ahead.0, or_false trail, passed_over (is_own s pending) now (settled c now)) refl

      by : (d : Bool) → SettlesTo c rows pending given d
          → Ends c w (word ∷ words)
          (read_on words (operand (mode_of trail) (s ∷ left) given word)) d
      by false stands =
          stops c w word words _ false (ap none fault ∙ stands.fault) refl (λ e. absurd cc)
      by true stands =
          let walks_to : walked c [] w word ≡ waiting (given_rows given) =
          walks_on ∙ ap (λ (rs : List Row). waiting rs) (stands.settled refl) in
          let later =
          more (given_rows given) (Some (s.name, word ∷ [])) (next place) left given_now
          (can_give s word given)
          (pending_settles c None (Some place) true s word given ahead.1 ahead.2) ahead.3 in
          subst (λ (r : Option Given). Ends c w (word ∷ words) r true)
          (sym (given_or (λ next. reads options next words)
          (λ g. record { mode = mode_of trail; left = left; given = g }) (can_give s word given)
          given_now))
          (goes c w _ word words _ true (ap none fault ∙ stands.fault) walks_to
          (shifts c _ words _ (can_give s word given) later))

  -- ---- a word that is refused

  -- a bundle of short options, of which there are none
  bundle_fault_is : (first : ℕ) (others : Text) (h : Held) → ((x : ℕ) → arg_by_short c x ≡ None)
      → IsUtf8 (first ∷ others)
      → none (flags_fault c false (length (first ∷ others)) (first ∷ others) 0 h) ≡ false
  unfolding flags_fault
  bundle_fault_is first others h short utf8 =
      by (slice_get (chars (first ∷ others)) 0) (first_char first others utf8)
    where
      by : (x : Option ℕ) → is_some x ≡ true
          → none (bundle_step_fault c false x (first ∷ others) 0 h
          (flags_fault c false (length others)))
          ≡ false
      by None some = absurd cc
      by (Some x) some = rw (short x) refl

  -- after `--`, what can't be settled shows
  bad_tail : (waiting : Waiting) (rows : List Row) (pending : Pending) (place : ℕ)
      (left : List Slot) (words : List Text) → settles c (held rows pending) ≡ false
      → Ahead c place left → pass c (standing waiting true rows pending place) words ≡ false
  unfolding walk_fault
  bad_tail waiting rows pending place left [] bad ahead = bad
  bad_tail waiting rows pending place [] (word ∷ words) bad ahead =
      no_pass c (standing waiting true rows pending place) word words (rw ahead refl)
  bad_tail waiting rows pending place (s ∷ left) (word ∷ words) bad ahead =
      let h = held rows pending in
      no_pass c (standing waiting true rows pending place) word words
      (rw ahead.0 (ap none (passed_over (is_own s pending) [] (settle_fault c false h)) ∙ bad))

  -- an option without its value
  bare : (s : Slot) (rows : List Row) → arg_by_id c s.name ≡ Some (option_for s)
      → settles c (held rows (Some (s.name, []))) ≡ false
  bare s rows found = rw found refl

  -- ---- no words

  ended : Keeps []
  unfolding reads walk_fault
  ended Free rows pending place left given d stands ahead =
      record { pass = stands.fault ∙ sym (and_true d); rows = stands.settled }
  ended Rest rows pending place left given d stands ahead =
      record { pass = stands.fault ∙ sym (and_true d); rows = stands.settled }
  ended (Value s) rows pending place left given d stands ahead =
      record { pass = bare s rows stands.is.0 ∙ sym (and_false d); rows = λ _. tt }

  -- ---- a word after `--`

  rest_turn : (word : Text) (words : List Text) (rows : List Row) (pending : Pending) (place : ℕ)
      (left : List Slot) (given : Given) (d : Bool) → Keeps words
      → SettlesTo c rows pending given d → Ahead c place left
      → Ends c (walk_in Rest rows pending place) (word ∷ words)
      (read Rest left given (word ∷ words)) d
  unfolding reads walked
  rest_turn word words rows pending place left given d more stands ahead =
      operand_turn true word words rows pending place left given d
      (λ r p j l g e s a. more Rest r p j l g e s a) stands ahead refl refl

  -- ---- the value of an option

  -- a word that begins with a dash is none
  value_refused : (s : Slot) (word : Text) (words : List Text) (rows : List Row) (place : ℕ)
      (left : List Slot) → Facts c options → IsUtf8 word → is_dashed word ≡ true → IsOption c s
      → Ahead c place left → pass c (walk_in (Value s) rows None place) (word ∷ words) ≡ false
  unfolding walked
  value_refused s word words rows place left facts utf8 dashed is ahead = by_end (is_end word) refl
    where
      now : Held
      now = held rows (Some (s.name, []))

      w : Walk
      w = walk_in (Value s) rows None place

      by_value : (name : Text) (v : Option Text) (found : Option Slot) → is_end word ≡ false
          → long_of word ≡ Some (name, v) → find (λ o. bytes_eq o.name name) options ≡ found
          → pass c w (word ∷ words) ≡ false
      by_value name v None goes_on parts found =
          no_pass c w word words (rw (goes_on, parts, facts.long name, found) refl)
      by_value name None (Some o) goes_on parts found =
          no_pass c w word words
          (rw (goes_on, parts, facts.long name, found)
          (or_nil (settle_fault c false now) ∙ bare s rows is.0))
      by_value name (Some v) (Some o) goes_on parts found =
          no_pass c w word words
          (rw (goes_on, parts, facts.long name, found)
          (or_nil (react_fault c false (option_for o) (v ∷ []) now)
          ∙ first_bad (settle_fault c false now)
          (use_fault false (option_for o) (v ∷ []) (settled c now).rows) (bare s rows is.0)))

      by_parts : (parts : Option (Text × Option Text)) → is_end word ≡ false
          → long_of word ≡ parts → pass c w (word ∷ words) ≡ false
      by_parts (Some p) goes_on parts =
          by_value p.0 p.1 (find (λ o. bytes_eq o.name p.0) options) goes_on parts refl
      by_parts None goes_on parts =
          let b = bundle_is word utf8 dashed goes_on parts in
          let flags = b.first ∷ b.others in
          no_pass c w word words
          (rw (goes_on, parts, b.short)
          (first_bad (flags_fault c false (length flags) flags 0 now) _
          (bundle_fault_is b.first b.others now facts.short b.utf8)))

      by_end : (b : Bool) → is_end word ≡ b → pass c w (word ∷ words) ≡ false
      by_end true end =
          let turn : turns c w word ≡ true = rw end refl in
          let walks : walked c [] w word
          ≡ standing (option s.name) true rows (Some (s.name, [])) place = rw end refl in
          pass_step c w word words
          ∙ (ap (λ (b : Bool). b && pass c (walked c [] w word) words) turn
          ∙ (ap (λ (v : Walk). pass c v words) walks
          ∙ bad_tail (option s.name) rows (Some (s.name, [])) place left words (bare s rows is.0)
          ahead))
      by_end false goes_on = by_parts (long_of word) goes_on refl

  value_turn : (s : Slot) (word : Text) (words : List Text) (rows : List Row) (pending : Pending)
      (place : ℕ) (left : List Slot) (given : Given) (d : Bool) → Facts c options → IsUtf8 word
      → Keeps words → Waits c s rows given d → Ahead c place left
      → Ends c (walk_in (Value s) rows pending place) (word ∷ words)
      (read (Value s) left given (word ∷ words)) d
  unfolding reads walked
  value_turn s word words rows pending place left given d facts utf8 more stands ahead =
      by (is_dashed word) refl
    where
      w : Walk
      w = walk_in (Value s) rows pending place

      given_now : Given
      given_now = given ++ (s.name, word) ∷ []

      -- with these rows, the word waits for the option
      waiting : List Row → Walk
      waiting rs = standing idle false rs (Some (s.name, word ∷ [])) place

      by : (b : Bool) → is_dashed word ≡ b
          → Ends c w (word ∷ words) (read (Value s) left given (word ∷ words)) d
      by true dashed =
          rw dashed (record {
            pass = value_refused s word words rows place left facts utf8 dashed stands.is ahead
                ∙ sym (and_false d);
            rows = λ _. tt;
          })
      by false plain =
          let p = plain_word_is word plain in
          let turn : turns c w word ≡ true = rw (p.goes_on, p.parts, p.short) refl in
          let walks : walked c [] w word ≡ waiting rows =
          rw (p.goes_on, p.parts, p.short, stands.is.0, same_name s.name) refl in
          let walks_to : walked c [] w word ≡ waiting (given_rows given) =
          walks ∙ ap (λ (rs : List Row). waiting rs) stands.has in
          let later =
          more Free (given_rows given) (Some (s.name, word ∷ [])) place left given_now
          (can_give s word given)
          (pending_settles c (Some s.name) None false s word given stands.is.0 stands.is.1) ahead in
          let ends =
          goes c w _ word words _ true turn walks_to
          (shifts c _ words _ (can_give s word given) later) in
          let result =
          sym (given_or (λ next. reads options next words)
          (λ g. record { mode = Free; left = left; given = g }) (can_give s word given)
          given_now) in
          rw (plain, stands.fine)
          (subst (λ (r : Option Given). Ends c w (word ∷ words) r true) result ends)

  -- ---- any word

  -- `--`
  end_turn : (word : Text) (words : List Text) (rows : List Row) (pending : Pending) (place : ℕ)
      (left : List Slot) (given : Given) (d : Bool) → Keeps words
      → SettlesTo c rows pending given d → Ahead c place left → is_end word ≡ true
      → Ends c (walk_in Free rows pending place) (word ∷ words)
      (read Free left given (word ∷ words)) d
  unfolding reads walked
  end_turn word words rows pending place left given d more stands ahead end =
      let w = walk_in Free rows pending place in
      let v = walk_in Rest rows pending place in
      let turn : turns c w word ≡ true = rw end refl in
      let walks : walked c [] w word ≡ v = rw end refl in
      rw end
      (goes c w v word words _ d turn walks
      (more Rest rows pending place left given d stands ahead))

  -- a word that is no option
  other_turn : (word : Text) (words : List Text) (rows : List Row) (pending : Pending) (place : ℕ)
      (left : List Slot) (given : Given) (d : Bool) → Facts c options → IsUtf8 word → Keeps words
      → SettlesTo c rows pending given d → Ahead c place left → is_end word ≡ false
      → long_of word ≡ None
      → Ends c (walk_in Free rows pending place) (word ∷ words)
      (read Free left given (word ∷ words)) d
  unfolding reads walked
  other_turn word words rows pending place left given d facts utf8 more stands ahead goes_on parts =
      by (is_dashed word) refl
    where
      now : Held
      now = held rows pending

      w : Walk
      w = walk_in Free rows pending place

      by : (b : Bool) → is_dashed word ≡ b
          → Ends c w (word ∷ words) (read Free left given (word ∷ words)) d
      by true dashed =
          let b = bundle_is word utf8 dashed goes_on parts in
          let flags = b.first ∷ b.others in
          let bad : turns c w word ≡ false =
          rw (goes_on, parts, b.short)
          (first_bad (flags_fault c false (length flags) flags 0 now) _
          (bundle_fault_is b.first b.others now facts.short b.utf8)) in
          rw (goes_on, parts_are word, parts, dashed)
          (stops c w word words None d bad (and_false d) (λ _. refl))
      by false plain =
          let p = plain_word_is word plain in
          let turn : turn_fault (built_top c) [] w word ≡ step_fault (built_top c) place now value =
          rw (goes_on, parts, p.short) refl in
          let walks : walked c [] w word
          ≡ to_positional c (arg_by_index c place) word w now = rw (goes_on, parts, p.short) refl in
          rw (goes_on, parts_are word, parts, plain)
          (operand_turn false word words rows pending place left given d
          (λ r p j l g e s a. more Free r p j l g e s a) stands ahead turn walks)

  -- `--NAME` and `--NAME=VALUE`
  option_turn : (word : Text) (words : List Text) (rows : List Row) (pending : Pending) (place : ℕ)
      (left : List Slot) (given : Given) (d : Bool) (name : Text) (v : Option Text)
      → Facts c options → Keeps words → SettlesTo c rows pending given d → Ahead c place left
      → is_end word ≡ false → long_of word ≡ Some (name, v)
      → Ends c (walk_in Free rows pending place) (word ∷ words)
      (read Free left given (word ∷ words)) d
  unfolding reads walked
  option_turn word words rows pending place left given d name v facts more stands ahead goes_on
      parts = by (find (λ s. bytes_eq s.name name) options) refl v parts d stands
    where
      now : Held
      now = held rows pending

      w : Walk
      w = walk_in Free rows pending place

      Turn : Bool → Type 0
      Turn d = Ends c w (word ∷ words) (read Free left given (word ∷ words)) d

      -- what a use of the option with a value meets
      use_of : Slot → Text → Kinds
      use_of s text = use_fault false (option_for s) (text ∷ []) (settled c now).rows

      by : (found : Option Slot) → find (λ s. bytes_eq s.name name) options ≡ found
          → (v : Option Text) → long_of word ≡ Some (name, v) → (d : Bool)
          → SettlesTo c rows pending given d → Turn d
      by None found v parts d stands =
          let bad : turns c w word ≡ false = rw (goes_on, parts, facts.long name, found) refl in
          rw (goes_on, parts_are word, parts, found)
          (stops c w word words None d bad (and_false d) (λ _. refl))
      by (Some s) found None parts false stands =
          let bad : turns c w word ≡ false =
          rw (goes_on, parts, facts.long name, found)
          (or_nil (settle_fault c false now) ∙ stands.fault) in
          stops c w word words _ false bad refl (λ e. absurd cc)
      by (Some s) found (Some text) parts false stands =
          let bad : turns c w word ≡ false =
          rw (goes_on, parts, facts.long name, found)
          (or_nil (react_fault c false (option_for s) (text ∷ []) now)
          ∙ first_bad (settle_fault c false now) (use_of s text) stands.fault) in
          stops c w word words _ false bad refl (λ e. absurd cc)
      by (Some s) found None parts true stands =
          let is = found_option c options name s facts.each found in
          let rest = settled_rows c pending rows in
          let turn : turns c w word ≡ true =
          rw (goes_on, parts, facts.long name, found)
          (or_nil (settle_fault c false now) ∙ stands.fault) in
          let walks : walked c [] w word ≡ walk_in (Value s) rest None place =
          rw (goes_on, parts, facts.long name, found) refl in
          let waits : Waits c s rest given true =
          record { fine = refl; has = stands.settled refl; is = is } in
          rw (goes_on, parts_are word, parts, found)
          (goes c w _ word words _ true turn walks
          (more (Value s) rest None place left given true waits ahead))
      by (Some s) found (Some text) parts true stands = taken (can_give s text given) refl
        where
          given_now : Given
          given_now = given ++ (s.name, text) ∷ []

          is : IsOption c s
          is = found_option c options name s facts.each found

          fault : turns c w word ≡ can_give s text given
          fault =
              rw (goes_on, parts, facts.long name, found)
              (or_nil (react_fault c false (option_for s) (text ∷ []) now)
              ∙ (none_both (settle_fault c false now) (use_of s text)
              ∙ (ap (λ (b : Bool). b && none (use_of s text)) stands.fault
              ∙ (ap (λ (rs : List Row). none (use_fault false (option_for s) (text ∷ []) rs))
              (stands.settled refl)
              ∙ use_is (Some s.name) None false s text given is.1))))

          result : (b : Bool) → can_give s text given ≡ b
              → read Free left given (word ∷ words) ≡ cond b (read Free left given_now words) None
          result b taken =
              rw (goes_on, parts_are word, parts, found)
              (given_or (λ next. reads options next words)
              (λ g. record { mode = Free; left = left; given = g }) (can_give s text given)
              given_now
              ∙ ap (λ (x : Bool). cond x (read Free left given_now words) None) taken)

          taken : (b : Bool) → can_give s text given ≡ b → Turn true
          taken false no_use =
              stops c w word words _ true (fault ∙ no_use) (ap is_some (result false no_use))
              (λ _. result false no_use)
          taken true fitting =
              let rest = settled_rows c pending rows in
              let now_used = used (option_for s) (text ∷ []) rest in
              let grown : now_used ≡ given_rows given_now =
              ap (used (option_for s) (text ∷ [])) (stands.settled refl)
              ∙ used_is (Some s.name) None false s text given
              (was_new (is_given s.name given) (fits s.kind text) fitting) in
              let walks : walked c [] w word ≡ walk_in Free now_used None place =
              rw (goes_on, parts, facts.long name, found) refl in
              let walks_to : walked c [] w word ≡ walk_in Free (given_rows given_now) None place =
              walks ∙ ap (λ (rs : List Row). walk_in Free rs None place) grown in
              let fine : SettlesTo c (given_rows given_now) None given_now true =
              record { fault = refl; settled = λ _. refl } in
              subst (λ (r : Option Given). Ends c w (word ∷ words) r true)
              (sym (result true fitting))
              (goes c w _ word words _ true (fault ∙ fitting) walks_to
              (more Free (given_rows given_now) None place left given_now true fine ahead))

  free_turn : (word : Text) (words : List Text) (rows : List Row) (pending : Pending) (place : ℕ)
      (left : List Slot) (given : Given) (d : Bool) → Facts c options → IsUtf8 word → Keeps words
      → SettlesTo c rows pending given d → Ahead c place left → (b : Bool) → is_end word ≡ b
      → (parts : Option (Text × Option Text)) → long_of word ≡ parts
      → Ends c (walk_in Free rows pending place) (word ∷ words)
      (read Free left given (word ∷ words)) d
  free_turn word words rows pending place left given d facts utf8 more stands ahead true end parts
      is = end_turn word words rows pending place left given d more stands ahead end
  free_turn word words rows pending place left given d facts utf8 more stands ahead false end None
      is = other_turn word words rows pending place left given d facts utf8 more stands ahead end is
  free_turn word words rows pending place left given d facts utf8 more stands ahead false end
      (Some p) is =
      option_turn word words rows pending place left given d p.0 p.1 facts more stands ahead end is

  pub keeps_step : Facts c options → (words : List Text) → AllByRecursion IsUtf8 words → Keeps words
  keeps_step facts [] utf8 mode rows pending place left given d stands ahead =
      ended mode rows pending place left given d stands ahead
  keeps_step facts (word ∷ words) utf8 Rest rows pending place left given d stands ahead =
      rest_turn word words rows pending place left given d (keeps_step facts words utf8.1) stands
      ahead
  keeps_step facts (word ∷ words) utf8 (Value s) rows pending place left given d stands ahead =
      value_turn s word words rows pending place left given d facts utf8.0
      (keeps_step facts words utf8.1) stands ahead
  keeps_step facts (word ∷ words) utf8 Free rows pending place left given d stands ahead =
      free_turn word words rows pending place left given d facts utf8.0
      (keeps_step facts words utf8.1) stands ahead (is_end word) refl (long_of word) refl
