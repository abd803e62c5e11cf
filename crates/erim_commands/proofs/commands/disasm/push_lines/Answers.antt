use Rattle.erim_commands.proofs.DisasmLemmas.{to_the_end, lines_go_on, lines_end}
use Rattle.erim_commands.proofs.commands.disasm.push_lines.Goals as goal

pub code-preserved : goal.code-preserved
code-preserved c =
    let all = to_the_end c.args.code.now c.code.done in
    lines_go_on c.args.text.now.items c.code.text.items c.push_first.new.text.items c.args.base
    c.code.done c.in_ok-done.field-0 c.args.code.now
    c.code.invariant c.code-test.true c.in_ok-done.ensures.some
    (rw all at c.in_ok-done.ensures.inside) (rw all at c.in_ok-done.ensures.size)
    (rw all at c.in_ok-done.ensures.line)

pub returns : goal.returns
returns c = lines_end c.args.text.now.items c.code.text.items c.args.base c.code.done
    c.args.code.now c.code.invariant c.code-test.false
