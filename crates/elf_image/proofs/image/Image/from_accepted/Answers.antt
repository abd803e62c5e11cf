use Rattle.std.proofs.Common.{◌∙◌}
use Rattle.elf_image.proofs.ImageLemmas.{accepted_table, data_value, heaps_value, keys_value}
use Rattle.elf_image.proofs.ImageLemmas.{read_image_is, records_sound, trust_value, version_is}
use Rattle.elf_image.proofs.RowLemmas.{functions_are}
use Rattle.elf_image.proofs.image.Image.from_accepted.Goals as goal

pub segments-requires : goal.segments-requires
segments-requires c = accepted_table _ c.requires.accepted

pub trust-requires-clause-sound : goal.trust-requires-clause-sound
trust-requires-clause-sound c =
    records_sound c.args.bytes.now c.args.seen c.records-table.result c.requires.accepted
    c.requires.notes (c.records-table.ensures.same c.args.bytes.now) c.records-table.ensures.domains

pub keys-requires-clause-sound : goal.keys-requires-clause-sound
keys-requires-clause-sound c =
    records_sound c.args.bytes.now c.args.seen c.records-table.result c.requires.accepted
    c.requires.notes (c.records-table.ensures.same c.args.bytes.now) c.records-table.ensures.domains

pub entry_point-requires : goal.entry_point-requires
entry_point-requires c = (accepted_table _ c.requires.accepted).header

pub invariant_of-result : goal.invariant_of-result
invariant_of-result c =
    let table = read_image_is _ _ c.records-table.result c.requires.notes
    (c.records-table.ensures.same c.args.bytes.now) in
    let domains = version_is _ _ c.records-table.result c.requires.notes
    c.records-table.ensures.domains in
    rw c.in_ok-from_slice.ensures.items
    record {
      accepted = c.requires.accepted;
      octets = c.requires.octets;
      list_is = c.in_ok-segments.ensures;
      trust_is = trust_value _ _ _ _ table domains c.in_ok-trust.ensures;
      trusted_is = data_value _ _ _ table c.in_ok-spans.ensures;
      keys_is = keys_value _ _ _ table c.in_ok-keys.ensures;
      heaps_is = heaps_value _ _ _ table c.in_ok-spans-2.ensures;
      functions_is = c.in_ok-functions.ensures
          ∙ functions_are _ _ _ c.requires.notes (c.functions.ensures.same c.args.bytes.now);
      entry_is = c.entry_point.ensures;
    }
