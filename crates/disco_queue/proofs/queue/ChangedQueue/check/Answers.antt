use Rattle.std.proofs.Common.{ap, is_some, map, sym, subst, ◌∙◌}
use Rattle.disco_history.specs.Change.{last}
use Rattle.disco_queue.specs.Queue.{AreFilled}
use Rattle.disco_queue.specs.Seen.{change_of}
use Rattle.disco_queue.specs.contracts.queue.ChangedQueue.{the_view}
use Rattle.disco_queue.proofs.LastChanges.{seen_changes}
use Rattle.disco_queue.proofs.LastNumbers.{filled}
use Rattle.disco_queue.proofs.queue.ChangedQueue.check.Goals as goal

pub returns : goal.returns
returns c =
    let i = c.self.inside in
    let here : AreFilled (the_view i) = λ k. filled i.numbers i.base (map change_of i.kept.items) c.self.invariant.1 k ∙ ap (λ es. is_some (last es k)) (sym (seen_changes i.kept.items)) in
    subst AreFilled c.self.view_is here
