use Rattle.std.proofs.Common.{List, [], map, sym, subst, append-nil, arith}
use Rattle.disco_history.specs.Change.{Entry}
use Rattle.disco_queue.specs.Numbers.{AreNumbered}
use Rattle.disco_queue.specs.Seen.{change_of}
use Rattle.disco_queue.proofs.queue.ChangedQueue.drop_oldest.Goals as goal

pub invariant_of-self : goal.invariant_of-self
invariant_of-self c =
    let within = c.self.invariant.0 in
    let step = c.drop_front.ensures in
    let numbered = λ (es : List Entry). AreNumbered c.self.inside.numbers c.self.inside.base es in
    let numbered_after = λ (es : List Entry). AreNumbered c.drop_front.new.numbers c.drop_front.new.base es in (
      record { some = within.some; few = omega (arith, within.few, step.len); fits = omega (arith, within.fits, step.base, step.len) },
      subst numbered_after (append-nil (map change_of c.drop_front.new.kept.items)) (step.numbers [] (subst numbered (sym (append-nil (map change_of c.self.inside.kept.items))) c.self.invariant.1)),
      step.superseded,
    )
