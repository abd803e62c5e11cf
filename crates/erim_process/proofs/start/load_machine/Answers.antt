use Rattle.std.proofs.Common.{arith, ◌∷◌, [], sym, subst, ap, ◌∙◌}
use Rattle.std.specs.List.{All}
use Rattle.erim_defs.specs.declared.machine.Thread.{Thread}
use Rattle.erim_defs.proofs.AcceptedLemmas.{heaps_low}
use Rattle.trusted_heap.specs.Blocks.{EndsLow}
use Rattle.trusted_heap.specs.HeapValue.{HeapValue}
use Rattle.erim_process.specs.ProcessInvariant.{setup_of}
use Rattle.erim_process.proofs.SegmentLemmas.{first_rights_is, image_byte_is, frames_needed_is}
use Rattle.erim_process.proofs.StartLemmas.{loaded_is}
use Rattle.erim_process.proofs.start.load_machine.Goals as goal

pub load_pages-requires-clause-room : goal.load_pages-requires-clause-room
load_pages-requires-clause-room c =
    let needed = frames_needed_is c.args.setup.now.image in
    let enough = c.requires in
    let has = c.in_ok-pages.ensures.frames in
    omega (arith, needed, enough, has)

pub returns-clause-state : goal.returns-clause-state
returns-clause-state c =
    let setup = setup_of c.args.setup.now in
    let first = c.first_thread.ensures setup (sym c.entry.ensures) (sym c.trust.ensures) in
    loaded_is setup _ _ _ _ _ _ (c.load_pages.ensures.rights ∙ sym (first_rights_is setup))
    (c.load_pages.ensures.bytes ∙ sym (image_byte_is setup.image))
    (c.in_ok-threads.ensures ∙ ap (λ (t : Thread). t ∷ []) first)
    (ap (λ (h : HeapValue). h.blocks) c.in_ok-heap.ensures) c.in_ok-output.ensures
    (c.first_keys.ensures setup.image (sym c.trust-2.ensures))

pub new-requires-3 : goal.new-requires-3
new-requires-3 c = subst (All EndsLow) (sym c.heaps.ensures)
    (heaps_low c.args.setup.now.image c.load_pages.ensures.accepted)
