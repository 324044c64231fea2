use Rattle.std.proofs.Common.{is_some, option_map, sym, ap, ◌∙◌}
use Rattle.std.specs.FinMap.{get}
use Rattle.disco_history.specs.Held.{entry_of}
use Rattle.disco_registry.specs.Records.{Contents}
use Rattle.disco_registry.proofs.PlaceSteps.{at, copied_there, keys_at, left_held, map_copied, next_absent}
use Rattle.disco_registry.proofs.records.Records.held.Goals as goal

pub returns-in-Some-clause-found : goal.returns-in-Some-clause-found
returns-in-Some-clause-found c =
    (left_held c.self.inside.places c.self.inside.sought c.args.key.now c.in-Some.held.now c.self.invariant.sought c.in-Some.ensures).0
    ∙ ap (λ (s : Contents). get s.held c.args.key.now) c.self.view_is

pub returns-in-Some-clause-same_key : goal.returns-in-Some-clause-same_key
returns-in-Some-clause-same_key c = (left_held c.self.inside.places c.self.inside.sought c.args.key.now c.in-Some.held.now c.self.invariant.sought c.in-Some.ensures).1

pub returns-in-None-clause-found : goal.returns-in-None-clause-found
returns-in-None-clause-found c =
    map_copied c.get.result ∙ ap (option_map entry_of) c.get.ensures ∙ sym (at c.self.inside.places c.args.key.now)
    ∙ ap (λ (s : Contents). get s.held c.args.key.now) c.self.view_is

pub returns-in-None-clause-same_key : goal.returns-in-None-clause-same_key
returns-in-None-clause-same_key c = keys_at c.self.inside.places c.self.inside.next c.self.inside.sought c.args.key.now c.get.result c.self.invariant c.get.ensures

pub returns-then-is_some-clause-found : goal.returns-then-is_some-clause-found
returns-then-is_some-clause-found c =
    next_absent c.self.inside.places c.self.inside.next c.self.inside.sought c.args.key.now c.self.invariant (sym (ap is_some c.of_key.ensures) ∙ copied_there c.of_key.result ∙ sym c.is_some.ensures ∙ c.if-is_some.true)
    ∙ ap (λ (s : Contents). get s.held c.args.key.now) c.self.view_is
