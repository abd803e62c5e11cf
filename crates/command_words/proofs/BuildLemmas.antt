-- A command that grows by an argument.
use Rattle.std.proofs.Common.{◌≡◌, ◌∙◌, ℕ, ◌+◌, ◌<◌, List, [], ◌∷◌, ◌++◌, length, map, take, get_or}
use Rattle.std.proofs.Common.{refl, sym, ap}
use Rattle.std.proofs.lemmas.List.{map_push, take_more}
use Rattle.clap.specs.Walk.{Rule}
use Rattle.clap.specs.Simple.{App, with_rule}
use Rattle.erim_defs.specs.Output.WordForms.{Slot}
use Rattle.command_words.specs.Clap.{slot_of, start_app, with_rules}
use Rattle.command_words.specs.declared.slot.Slot.{Slot as SlotOf}

pub with_rules_push : (a : App) (rs : List Rule) (r : Rule)
    → with_rules a (rs ++ r ∷ []) ≡ with_rule (with_rules a rs) r
with_rules_push a [] r = refl
with_rules_push a (x ∷ rs) r = with_rules_push (with_rule a x) rs r

pub with_rules_append : (a : App) (rs ss : List Rule)
    → with_rules a (rs ++ ss) ≡ with_rules (with_rules a rs) ss
with_rules_append a [] ss = refl
with_rules_append a (x ∷ rs) ss = with_rules_append (with_rule a x) rs ss

-- one slot more
pub grows : (f : Slot → Rule) (slots : List SlotOf) (i : ℕ) (d : SlotOf) (first old new : App)
    (r : Rule) → i < length slots → old ≡ with_rules first (map f (map slot_of (take i slots)))
    → r ≡ f (slot_of (get_or slots i d)) → new ≡ with_rule old r
    → new ≡ with_rules first (map f (map slot_of (take (i + 1) slots)))
grows f slots i d first old new r low is rule grown =
    let before = map f (map slot_of (take i slots)) in
    let last = f (slot_of (get_or slots i d)) in
    let more : map f (map slot_of (take (i + 1) slots)) ≡ before ++ last ∷ [] =
    ap (λ (xs : List SlotOf). map f (map slot_of xs)) (take_more slots i d low)
    ∙ (ap (map f) (map_push slot_of (take i slots) (get_or slots i d))
    ∙ map_push f (map slot_of (take i slots)) (slot_of (get_or slots i d))) in
    grown
    ∙ (ap (λ (a : App). with_rule a r) is
    ∙ (ap (with_rule (with_rules first before)) rule
    ∙ (sym (with_rules_push first before last) ∙ ap (with_rules first) (sym more))))

-- a command that grows by operands and then by options
pub made_is : (start first made : App) (operands options : List Rule) → start ≡ start_app
    → first ≡ with_rules start operands → made ≡ with_rules first options
    → made ≡ with_rules start_app (operands ++ options)
made_is start first made operands options begun more most =
    most
    ∙ (ap (λ (a : App). with_rules a options)
    (more ∙ ap (λ (a : App). with_rules a operands) begun)
    ∙ sym (with_rules_append start_app operands options))
