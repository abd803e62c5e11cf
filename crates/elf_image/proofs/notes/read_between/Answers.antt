use Rattle.std.proofs.Common.{◌≡◌, ◌+◌, ◌-◌, ◌≤◌, suc, sym, ◌∙◌, length, arith}
use Rattle.elf_image.proofs.NoteLemmas.{read_ends, read_goes_on, read_runs_out, read_stops}
use Rattle.elf_image.proofs.NoteLemmas.{sound_view}
use Rattle.elf_image.proofs.notes.read_between.Goals as goal

pub returns-then-place-end : goal.returns-then-place-end
returns-then-place-end c = read_ends _ _ _ _ _ _ _ _ c.loop-step.invariant c.if-place-end.true

pub returns-then-not-is_sound : goal.returns-then-not-is_sound
returns-then-not-is_sound c =
    let count : c.args.size - c.loop-step._step ≡ suc (c.args.size - (c.loop-step._step + 1)) =
    omega arith in
    read_stops _ _ _ _ _ _ _ _ _ c.loop-step.invariant count c.if-place-end.false
    (sym c.is_sound.ensures ∙ c.if-not-is_sound.true)

pub read-requires : goal.read-requires
read-requires c =
    let sound = sound_view _ _ _ _ _ (sym c.is_sound.ensures ∙ c.if-not-is_sound.false) in
    record { header = omega (arith, sound.header); whole = omega (arith, sound.whole) }

pub see-seen-requires-clause-shaped : goal.see-seen-requires-clause-shaped
see-seen-requires-clause-shaped c =
    rw c.read.ensures.value (sound_view _ _ _ _ _ (sym c.is_sound.ensures
    ∙ c.if-not-is_sound.false)).shaped

pub next_note-place-requires-clause-header : goal.next_note-place-requires-clause-header
next_note-place-requires-clause-header c =
    (sound_view _ _ _ _ _ (sym c.is_sound.ensures ∙ c.if-not-is_sound.false)).header

pub loop-step-preserved : goal.loop-step-preserved
loop-step-preserved c =
    let count : c.args.size - c.loop-step._step ≡ suc (c.args.size - (c.loop-step._step + 1)) =
    omega arith in
    let within : c.args.start + c.args.size ≤ length c.args.bytes.now = omega arith in
    rw (c.next_note-place.ensures, c.see-seen.ensures, c.read.ensures.value)
    (read_goes_on _ _ _ _ _ _ _ _ _ c.loop-step.invariant count c.if-place-end.false within
    (sym c.is_sound.ensures ∙ c.if-not-is_sound.false))

pub returns : goal.returns
returns c = read_runs_out _ _ _ _ _ _ _ _ c.loop-step.invariant (omega arith)
