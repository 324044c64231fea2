use Rattle.std.proofs.Common.{ap, map, ◌∙◌}
use Rattle.disco_history.specs.Change.{change_view}
use Rattle.disco_queue.specs.Latest.{Latest}
use Rattle.disco_queue.proofs.queue.ChangedQueue.last_changes.Goals as goal

pub returns-clause-kept : goal.returns-clause-kept
returns-clause-kept c =
    c.in_ok-without_keys.ensures.changes
    ∙ ap (map (λ (p : Latest). change_view p.2.now)) c.as_slice.ensures.value
    ∙ c.in_ok-latest.ensures.kept

pub returns-clause-history : goal.returns-clause-history
returns-clause-history c h keeps =
    c.in_ok-without_keys.ensures.changes
    ∙ ap (map (λ (p : Latest). change_view p.2.now)) c.as_slice.ensures.value
    ∙ c.in_ok-latest.ensures.history h keeps
