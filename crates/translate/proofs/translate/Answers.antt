-- `translate::translate` meets its contract: the work words are cleared before and after.
use lib.ListN.{length}
use Rattle.gen_slices.specs.Clear.{clear_blank}
use Rattle.translate.specs.Reply.{reply_cleared, reply_numbered}
use Rattle.translate.proofs.translate.Goals as goal

pub translate_sized-r-requires : goal.translate_sized-r-requires
translate_sized-r-requires c =
    clear_blank (length c.args.work.now) _ c.clear.ensures

pub returns : goal.returns
returns c =
    let a = c.args in
    let t = c.translate_sized-r in
    let kept = t.auto.work in
    let cleared = c.clear-2.ensures in record {
      answer = reply_cleared a.book.now a.names.now a.counter a.work.now a.kinds.now a.operands.now c.clear.ensures t.result
          t.new.work _ _ _ t.ensures kept cleared;
      numbered = reply_numbered a.book.now a.names.now a.counter a.work.now a.kinds.now a.operands.now c.clear.ensures t.result
          t.new.work _ _ _ t.ensures kept cleared;
    }
