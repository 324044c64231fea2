use Rattle.std.proofs.Common.{Option, ap, subst, ◌∙◌}
use Rattle.std.specs.FinMap.{remove}
use Rattle.disco_history.specs.declared.held.Held.{Held}
use Rattle.disco_registry.specs.Records.{AreInPlace, Contents}
use Rattle.disco_registry.proofs.PlaceSteps.{none_next, placed-taken, taken_shown}
use Rattle.disco_registry.proofs.records.Records.take.Goals as goal

pub invariant_of-self : goal.invariant_of-self
invariant_of-self c =
    let p = c.self.inside.places in
    let none = none_next c.self.inside.next (ap (λ (s : Contents). s.next) (c.self.view_is ∙ c.forget.ensures)) in
    let placed = subst (λ (o : Option Held). AreInPlace p o c.self.inside.sought) none c.self.invariant in
    rw none (placed-taken p c.close.new.self c.args.key.now c.self.inside.sought placed c.close.ensures)

pub returns : goal.returns
returns c =
    taken_shown c.self.inside.places c.close.new.self c.args.key.now c.close.ensures
    ∙ ap (λ (s : Contents). remove s.held c.args.key.now) (c.self.view_is ∙ c.forget.ensures)
