use Rattle.std.proofs.Common.{◌<◌, ◌+◌, ◌/◌, ◌≡◌, arith, sym, ◌∙◌, take, set, add-one, inl, inr, []}
use Rattle.std.proofs.Common.{length, length-set}
use Rattle.std.proofs.Math.Seq.{take-suc-set}
use Rattle.erim_defs.specs.Machine.Access.{whole}
use Rattle.page_store.specs.Listed.{list_rights, list_bytes}
use Rattle.page_store.specs.Answers.{fetch_of}
use Rattle.page_store.proofs.MapLemmas.{fetch_step, fetch_end, not_published_high, ok_append_nil}
use Rattle.page_store.proofs.MapLemmas.{published_some, published_none}
use Rattle.page_store.proofs.page_list.PageList.code.Goals as goal

pub loop-count-preserved : goal.loop-count-preserved
loop-count-preserved c =
    let ps = c.args.self.now.pages.items in
    let i = c.loop-count.count in
    let into = c.loop-count.into in
    let byte = c.in-Some.byte in
    let size : i < length into = omega arith in
    let told = published_some (list_rights ps) (list_bytes ps) (c.args.addr + i) byte
    (sym c.code_byte.ensures ∙ c.in-Some.is) in
    record {
      within = omega arith;
      size = length-set into i byte ∙ c.loop-count.invariant.size;
      so_far = fetch_step (list_rights ps) (list_bytes ps) c.args.addr i 15 (take i into)
          (take (i + 1) (set into i byte)) byte
          (fetch_of (whole (list_rights ps)) (list_bytes ps) c.args.addr 15) c.loop-count-test.true
          c.loop-count.invariant.so_far told.0 told.1
          (let e : i + 1 ≡ _ = add-one i in rw e (take-suc-set into i byte size));
    }

pub returns-in-None : goal.returns-in-None
returns-in-None c =
    let ps = c.args.self.now.pages.items in (
      omega arith,
      fetch_end (list_rights ps) (list_bytes ps) c.args.addr c.loop-count.count 15 _ _
          c.loop-count.invariant.so_far
          (inr (published_none (list_rights ps) (list_bytes ps) (c.args.addr + c.loop-count.count)
          (sym c.code_byte.ensures ∙ c.in-None.is))),
    )

pub returns-after-loop-count : goal.returns-after-loop-count
returns-after-loop-count c =
    let ps = c.args.self.now.pages.items in (
      omega arith,
      fetch_end (list_rights ps) (list_bytes ps) c.args.addr c.loop-count.count 15 _ _
          c.loop-count.invariant.so_far (inl (omega arith)),
    )

pub returns-else-addr-lt-USER_END : goal.returns-else-addr-lt-USER_END
returns-else-addr-lt-USER_END c =
    let ps = c.args.self.now.pages.items in
    let at : c.args.addr + 0 ≡ c.args.addr = omega arith in (
      omega arith,
      fetch_end (list_rights ps) (list_bytes ps) c.args.addr 0 15 [] _
          (sym (rw at (ok_append_nil _)))
          (inr (rw at (not_published_high ps (c.args.addr / 4096) c.args.self.now.listed
          (omega arith)))),
    )
