-- Where `clap`'s walk stands between two words, and what one word's turn does to it.
use Rattle.std.proofs.Common.{◌≡◌, ◌∙◌, ℕ, ◌&&◌, Bool, true, false, cond, List, [], ◌∷◌, ◌++◌}
use Rattle.std.proofs.Common.{Option, Some, None, refl, sym, ap, subst}
use Rattle.std.specs.Prelude.{not, is_some, fold, IfSome}
use Rattle.clap.specs.Walk.{Row, Rule, Held, Walk, Waiting, arg_by_id, settled, settled_rows}
use Rattle.clap.specs.Walk.{walked}
use Rattle.clap.specs.Faults.{settle_fault, walk_fault, turn_fault}
use Rattle.erim_defs.specs.Output.WordForms.{Text, Slot, Given, fits, is_given}
use Rattle.command_words.specs.Clap.{is_limited, rule_for}
use Rattle.command_words.proofs.RuleLemmas.{built_top, none, none_both, given_rows, use_is, used_is}

-- an argument that was met and isn't settled yet: its name, and the words that it got
abbrev pub Pending : Type 0
Pending = Option (Text × List Text)

abbrev pub held : List Row → Pending → Held
held rows pending = record { rows = rows; pending = pending; skip = 0 }

abbrev pub standing : Waiting → Bool → List Row → Pending → ℕ → Walk
standing waiting trailing rows pending place = record {
  held = held rows pending;
  waiting = waiting;
  position = place;
  is_trailing = trailing;
  stopped = None;
}

-- the slot takes the word
abbrev pub can_give : Slot → Text → Given → Bool
can_give s word given = not (is_given s.name given) && fits s.kind word

and_assoc : (a b c : Bool) → ((a && b) && c) ≡ (a && (b && c))
and_assoc true b c = refl
and_assoc false b c = refl

pub was_new : (g f : Bool) → (not g && f) ≡ true → g ≡ false
was_new true f e = absurd cc
was_new false f e = refl

module _ (c : List Rule) where
  -- what is held settles without a fault
  abbrev pub settles : Held → Bool
  settles h = none (settle_fault c false h)

  -- the word's turn is at no fault
  abbrev pub turns : Walk → Text → Bool
  turns w word = none (turn_fault (built_top c) [] w word)

  abbrev end_of : Walk → List Text → Held
  end_of w words = (fold (walked c []) w words).held

  -- the walk over the rest of the words, and what is settled at its end, is at no fault
  abbrev pub pass : Walk → List Text → Bool
  pass w words = none (walk_fault (built_top c) [] w words) && settles (end_of w words)

  abbrev pub end_rows : Walk → List Text → List Row
  end_rows w words = (settled c (end_of w words)).rows

  -- what the walk comes to, where d says that what is held settles without a fault
  pub record Ends (w : Walk) (words : List Text) (result : Option Given) (d : Bool) : Type 0 where
    pub pass : pass w words ≡ (d && is_some result)
    pub rows : d ≡ true → IfSome result (λ given. end_rows w words ≡ given_rows given)

  -- what is held settles without a fault if d, and then to what was given
  pub record SettlesTo (rows : List Row) (pending : Pending) (given : Given)
      (d : Bool) : Type 0 where
    pub fault : settles (held rows pending) ≡ d
    pub settled : d ≡ true → settled_rows c pending rows ≡ given_rows given

  -- the first word's turn, and then the walk over the others
  pub pass_step : (w : Walk) (word : Text) (words : List Text)
      → pass w (word ∷ words) ≡ (turns w word && pass (walked c [] w word) words)
  unfolding walk_fault
  pass_step w word words =
      let v = walked c [] w word in
      let rest = walk_fault (built_top c) [] v words in
      ap (λ (b : Bool). b && settles (end_of v words))
      (none_both (turn_fault (built_top c) [] w word) rest)
      ∙ and_assoc (turns w word) (none rest) (settles (end_of v words))

  pub no_pass : (w : Walk) (word : Text) (words : List Text) → turns w word ≡ false
      → pass w (word ∷ words) ≡ false
  no_pass w word words fault =
      pass_step w word words ∙ ap (λ (b : Bool). b && pass (walked c [] w word) words) fault

  -- the turn is at fault
  pub stops : (w : Walk) (word : Text) (words : List Text) (result : Option Given) (d : Bool)
      → turns w word ≡ false → (d && is_some result) ≡ false → (d ≡ true → result ≡ None)
      → Ends w (word ∷ words) result d
  stops w word words result d fault none_given lost = record {
    pass = no_pass w word words fault ∙ sym none_given;
    rows = λ is. rw (lost is) tt;
  }

  -- the turn is at no fault, and the walk goes on
  pub goes : (w v : Walk) (word : Text) (words : List Text) (result : Option Given) (d : Bool)
      → turns w word ≡ true → walked c [] w word ≡ v → Ends v words result d
      → Ends w (word ∷ words) result d
  goes w v word words result d fine is ends = record {
    pass = pass_step w word words
        ∙ (ap (λ (b : Bool). b && pass (walked c [] w word) words) fine
        ∙ (ap (λ (u : Walk). pass u words) is ∙ ends.pass));
    rows = λ yes.
        subst (λ (u : Walk). IfSome result (λ given. end_rows u words ≡ given_rows given))
        (sym is) (ends.rows yes);
  }

  -- where what is held settles only if b, and nothing is given otherwise
  pub shifts : (w : Walk) (words : List Text) (result : Option Given) (b : Bool)
      → Ends w words result b → Ends w words (cond b result None) true
  shifts w words result true ends = record { pass = ends.pass; rows = λ yes. ends.rows refl }
  shifts w words result false ends = record { pass = ends.pass; rows = λ yes. tt }

  -- a word that waits for a slot settles where the slot takes it
  pub pending_settles : (long : Option Text) (index : Option ℕ) (required : Bool) (s : Slot)
      (word : Text) (given : Given) → arg_by_id c s.name ≡ Some (rule_for long index required s)
      → is_limited s.kind ≡ true
      → SettlesTo (given_rows given) (Some (s.name, word ∷ [])) (given ++ (s.name, word) ∷ [])
      (can_give s word given)
  pending_settles long index required s word given found limited = record {
    fault = rw found (use_is long index required s word given limited);
    settled = λ yes.
        rw found (used_is long index required s word given
        (was_new (is_given s.name given) (fits s.kind word) yes));
  }
