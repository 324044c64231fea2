use Rattle.std.proofs.Common.{◌∙◌, map}
use Rattle.std.proofs.lemmas.Result.{IfOk-weaker}
use Rattle.disco_history.specs.Mentions.{delta}
use Rattle.disco_queue.specs.Seen.{change_of}
use Rattle.disco_queue.proofs.LastInOrder.{met_keys, met_values, walked}
use Rattle.disco_queue.proofs.numbers.Numbers.last_changes.Goals as goal

pub returns-clause-last : goal.returns-clause-last
returns-clause-last c = rw (← c.self.view_is) (λ are.
    let es = map change_of c.args.kept.now.items in
    IfOk-weaker c.numbered_in.result _ _ (λ found is. met_values found.items (delta es 0) (is ∙ walked c.self.inside.places c.args.before es are)) c.numbered_in.ensures.changes)

pub returns-clause-keys : goal.returns-clause-keys
returns-clause-keys c = rw (← c.self.view_is) (λ are.
    let es = map change_of c.args.kept.now.items in
    IfOk-weaker c.numbered_in.result _ _ (λ found is. met_keys found.items es (is ∙ walked c.self.inside.places c.args.before es are)) c.numbered_in.ensures.changes)
