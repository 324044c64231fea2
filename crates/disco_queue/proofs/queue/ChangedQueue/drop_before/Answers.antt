use Rattle.std.proofs.Common.{◌<◌, drop, sym, ap, ◌∙◌, arith}
use borrow.Author.Tests.{ltb-true}
use Rattle.std.proofs.lemmas.List.{drop-drop}
use Rattle.disco_queue.proofs.Fronts.{first_before, first_before-le, first_gone}
use Rattle.disco_queue.proofs.queue.ChangedQueue.drop_before.Goals as goal

pub overflow_add-dropped : goal.overflow_add-dropped
overflow_add-dropped c =
    let kept = c.loop-self.self.kept in
    let some : 0 < first_before c.args.bound kept = ltb-true 0 (first_before c.args.bound kept) (sym c.oldest_is_before.ensures.before ∙ c.loop-self-test.true) in
    omega (arith, first_before-le c.args.bound kept, c.oldest_is_before.ensures.fits, c.loop-self.invariant.base)

pub loop-self-preserved : goal.loop-self-preserved
loop-self-preserved c =
    let kept = c.loop-self.self.kept in
    let before = c.loop-self.invariant in
    let step = c.drop_oldest.ensures in
    let some : 0 < first_before c.args.bound kept = ltb-true 0 (first_before c.args.bound kept) (sym c.oldest_is_before.ensures.before ∙ c.loop-self-test.true) in
    record {
      max = step.max ∙ before.max;
      base = omega (arith, step.base, before.base);
      kept = step.kept ∙ ap (drop 1) before.kept ∙ drop-drop 1 c.loop-self.dropped c.args.self.now.kept;
      left = omega (arith, first_gone c.args.bound kept some, ap (first_before c.args.bound) step.kept, before.left);
      room = omega (arith, step.room, before.room);
      empty = λ k is. before.empty k (step.empty k is);
    }
