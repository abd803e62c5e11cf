-- What always holds of a process.
use Rattle.std.specs.Prelude.{◌≡◌, ◌<◌, ◌≤◌, ◌^◌, Some, IsNone, true, vec_len, vec_capacity}
use Rattle.erim_defs.specs.Inspection.Image.{image_heaps}
use Rattle.erim_defs.specs.Machine.Isolation.{IsStartable}
use Rattle.erim_defs.specs.Output.Journal.{AreEntries}
use Rattle.erim_defs.specs.Machine.State.{Setup, any_live}
use Rattle.erim_defs.specs.Machine.Replay.{replay}
use Rattle.page_store.specs.declared.memory.Memory.{Ghosts}
use Rattle.page_store.specs.declared.page_list.PageList.{PageList}
use Rattle.erim_process.specs.Ends.{IfRefused}
use Rattle.erim_process.specs.Machine.{machine_state}
use Rattle.erim_process.specs.ProcessValue.{ProcessValue}
use Rattle.erim_process.specs.declared.setup.Setup.{Setup as Given}
use Rattle.erim_process.specs.declared.process.Process.TheInside.{Inside}

-- a setup as definitions speak of it
abbrev pub setup_of : Given → Setup
setup_of s = record { image = s.image; budget = s.budget; frames = s.frames }

abbrev pub process_value : Inside → ProcessValue
process_value p = record { setup = setup_of p.setup; journal = p.journal.items }

-- the fields are the state that the journal leads to; an entry counts one step or more
pub record IsReplay (g : Ghosts PageList) (p : Inside) : Type 0 where
  pub replayed : replay (setup_of p.setup) p.journal.items
      ≡ Some (machine_state g (setup_of p.setup) p.machine)
  pub entries : AreEntries p.journal.items
  pub counted : vec_len p.journal ≤ p.machine.steps
  pub room : p.setup.budget ≤ vec_capacity p.journal
  pub within : p.machine.steps ≤ p.setup.budget
  pub startable : IsStartable (setup_of p.setup)
  -- mapped pages and free frames are the frames that it was started with
  pub frames : p.setup.frames ≡ g.frames p.machine.pages
  pub heaps : image_heaps p.setup.image ≡ p.machine.heap.heaps
  pub alive : IsNone p.machine.end → any_live p.machine.threads ≡ true
  pub refused : IfRefused (λ page. page < 2 ^ 35) p.machine.end
