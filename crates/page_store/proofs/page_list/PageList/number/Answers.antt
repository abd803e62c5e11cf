use Rattle.std.proofs.Common.{arith}
use Rattle.std.proofs.Math.Facts.{Fits-bits}
use Rattle.page_store.specs.Listed.{list_bytes}
use Rattle.page_store.proofs.MapLemmas.{word_step, bytes_step, power_step, power_fits}
use Rattle.page_store.proofs.page_list.PageList.number.Goals as goal

pub overflow_mul-value : goal.overflow_mul-value
overflow_mul-value c = omega (
  arith,
  power_fits c.loop-done.done c.args.n c.loop-done.value 0
      c.loop-done-test.true c.requires.width c.loop-done.invariant.fits (omega arith),
)

pub overflow_add-value : goal.overflow_add-value
overflow_add-value c = Fits-bits 64 tt (power_fits c.loop-done.done c.args.n c.loop-done.value
    c.byte.result c.loop-done-test.true c.requires.width c.loop-done.invariant.fits (omega arith))

pub loop-done-preserved : goal.loop-done-preserved
loop-done-preserved c = record {
  within = omega arith;
  so_far = word_step (list_bytes c.args.self.now.pages.items) c.args.addr c.args.n c.loop-done.done
      c.loop-done.value c.byte.result c.loop-done-test.true c.loop-done.invariant.so_far
      c.byte.ensures;
  bytes = bytes_step (list_bytes c.args.self.now.pages.items) c.args.addr c.args.n c.loop-done.done
      c.loop-done.value c.byte.result c.loop-done-test.true c.loop-done.invariant.bytes
      (omega arith) c.byte.ensures;
  fits = power_step c.loop-done.done c.loop-done.value c.byte.result c.loop-done.invariant.fits
      (omega arith);
}
