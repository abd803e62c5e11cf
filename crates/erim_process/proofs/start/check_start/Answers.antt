use Rattle.std.proofs.Common.{◌≡◌, Some, None, arith}
use Rattle.std.proofs.lemmas.Grind.{common_steps}
use Rattle.erim_defs.specs.Machine.Start.{trusted_unsafe}
use Rattle.erim_process.proofs.StartLemmas.{trusted_first}
use Rattle.image_code.specs.Stretches.{code_in}
use Rattle.erim_defs.specs.Machine.StartFaults.{start_fault}
use Rattle.erim_process.proofs.start.check_start.Goals as goal

pub returns-in-Some : goal.returns-in-Some
unfolding start_fault
returns-in-Some c =
    let image = c.args.setup.now.image in
    let trusted : Some c.in-Some.found ≡ trusted_unsafe image =
    trusted_first image (code_in c.in_ok-code.code) (code_in c.in_ok-text.text)
    (Some c.in-Some.found) c.in_ok-code.ensures.code
    (rw c.trust-trust.ensures at c.in_ok-text.ensures)
    (rw c.trust-trust.ensures at c.in-Some.ensures) in
    grind (arith, common_steps)

pub returns-then-setup-needed : goal.returns-then-setup-needed
unfolding start_fault
returns-then-setup-needed c =
    let image = c.args.setup.now.image in
    let trusted : None ≡ trusted_unsafe image =
    trusted_first image (code_in c.in_ok-code.code) (code_in c.in_ok-text.text) None
    c.in_ok-code.ensures.code (rw c.trust-trust.ensures at c.in_ok-text.ensures)
    (rw c.trust-trust.ensures at c.in_default.ensures) in
    grind (arith, common_steps)

pub returns : goal.returns
unfolding start_fault
returns c =
    let image = c.args.setup.now.image in
    let trusted : None ≡ trusted_unsafe image =
    trusted_first image (code_in c.in_ok-code.code) (code_in c.in_ok-text.text) None
    c.in_ok-code.ensures.code (rw c.trust-trust.ensures at c.in_ok-text.ensures)
    (rw c.trust-trust.ensures at c.in_default.ensures) in
    grind (arith, common_steps)
