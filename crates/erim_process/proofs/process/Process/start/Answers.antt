use Rattle.std.proofs.Common.{arith}
use Rattle.erim_process.specs.ProcessInvariant.{setup_of}
use Rattle.erim_process.proofs.StartLemmas.{start_live, start_room, start_trusted}
use Rattle.erim_process.proofs.StartLemmas.{replay_start, no_entries}
use Rattle.erim_process.proofs.RefusedLemmas.{refused_start}
use Rattle.erim_process.proofs.process.Process.start.Goals as goal

pub load_machine-requires : goal.load_machine-requires
load_machine-requires c = start_room (setup_of c.args.setup) c.in_ok-check_start.ensures

pub invariant_of-result : goal.invariant_of-result
invariant_of-result c =
    let setup = setup_of c.args.setup in
    record {
      replayed = replay_start setup c.in_ok-journal.journal.items _ c.in_ok-journal.ensures.items
          c.in_ok-machine.ensures.state;
      entries = no_entries c.in_ok-journal.journal.items c.in_ok-journal.ensures.items;
      counted = (let none = c.in_ok-machine.ensures.fresh in
          let len = c.in_ok-journal.ensures.len in omega (arith, none, len));
      room = (let e = c.in_ok-journal.ensures.exact in omega (arith, e));
      within = (let none = c.in_ok-machine.ensures.fresh in omega (arith, none));
      startable = c.checked_is_startable.ensures setup c.in_ok-machine.ensures.accepted
          c.in_ok-machine.ensures.octets (start_trusted setup c.in_ok-check_start.ensures)
          (start_room setup c.in_ok-check_start.ensures);
      frames = c.in_ok-machine.ensures.frames;
      heaps = c.in_ok-machine.ensures.heaps;
      alive = λ none. start_live setup _ c.in_ok-machine.ensures.state;
      refused = refused_start setup _ c.in_ok-machine.ensures.state;
    }
