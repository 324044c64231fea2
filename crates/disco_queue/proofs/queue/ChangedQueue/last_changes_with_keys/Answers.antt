use Rattle.std.proofs.Common.{List, ap, sym, ◌∙◌}
use Rattle.std.specs.FinMap.{values}
use Rattle.disco_history.specs.Change.{Entry}
use Rattle.disco_history.specs.Mentions.{delta}
use Rattle.disco_queue.specs.Queue.{Queue}
use Rattle.disco_queue.specs.Timed.{changes}
use Rattle.disco_queue.proofs.LastChanges.{delta_from, seen_changes}
use Rattle.disco_queue.proofs.queue.ChangedQueue.last_changes_with_keys.Goals as goal

pub returns-clause-kept : goal.returns-clause-kept
returns-clause-kept c =
    c.in_ok-last_changes.ensures.last c.self.invariant.1
    ∙ ap (λ (es : List Entry). values (delta es 0)) (sym (seen_changes c.self.inside.kept.items))
    ∙ ap (λ (q : Queue). values (delta (changes q.kept) 0)) c.self.view_is

pub returns-clause-history : goal.returns-clause-history
returns-clause-history c h keeps =
    c.in_ok-last_changes.ensures.last c.self.invariant.1
    ∙ ap (λ (es : List Entry). values (delta es 0)) (sym (seen_changes c.self.inside.kept.items))
    ∙ ap (λ (q : Queue). values (delta (changes q.kept) 0)) c.self.view_is
    ∙ ap (λ d. values d) (delta_from h c.args.self.now.kept c.args.self.now.base keeps.contents)

pub returns-clause-keys : goal.returns-clause-keys
returns-clause-keys c = c.in_ok-last_changes.ensures.keys c.self.invariant.1
