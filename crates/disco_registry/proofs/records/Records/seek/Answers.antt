use Rattle.std.proofs.Common.{is_some, ap, ◌∙◌}
use Rattle.std.specs.FinMap.{get}
use Rattle.disco_registry.specs.Records.{Contents}
use Rattle.disco_registry.proofs.PlaceSteps.{held_there, sought_again, sought_held}
use Rattle.disco_registry.proofs.records.Records.seek.Goals as goal

pub invariant_of-self : goal.invariant_of-self
invariant_of-self c =
    let p = c.self.inside.places in
    let kept = sought_held p c.self.inside.next c.self.inside.sought c.args.key.now _ c.shared.result c.self.invariant c.get-held.ensures c.shared.ensures in
    sought_again p c.self.inside.next c.self.inside.sought c.shared.result c.self.invariant kept

pub returns-clause-held : goal.returns-clause-held
returns-clause-held c =
    c.is_some-is_held.ensures ∙ held_there c.self.inside.places c.args.key.now c.get-held.result c.get-held.ensures
    ∙ ap (λ (s : Contents). is_some (get s.held c.args.key.now)) c.self.view_is
