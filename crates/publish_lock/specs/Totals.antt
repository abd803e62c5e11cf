-- The totals of the workers' ledgers, by the workers' numbers from 1 on. Own.
use Rattle.std.specs.Prelude.{ℕ, suc, ◌+◌, ◌-◌, ◌==◌, ◌&&◌, Bool, true, List, [], ◌∷◌}
use Rattle.std.specs.Prelude.{slice_index_or, slice_set}
use Rattle.erim_defs.specs.declared.machine.Entry.{Entry}
use Rattle.erim_defs.specs.Output.Report.{steps_of_worker}

abbrev pub total_of : List ℕ → ℕ → ℕ
total_of totals worker = slice_index_or totals (worker - 1) 0

-- a worker made so many steps more
abbrev pub with_steps : List ℕ → ℕ → ℕ → List ℕ
with_steps totals worker steps = slice_set totals (worker - 1) (total_of totals worker + steps)

-- the totals are the steps of the workers, from the given one on
abbrev pub are_counted : ℕ → List ℕ → List Entry → Bool
are_counted worker [] entries = true
are_counted worker (total ∷ totals) entries =
    (total == steps_of_worker entries worker) && are_counted (suc worker) totals entries
