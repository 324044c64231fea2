use Rattle.std.proofs.Common.{◌≡◌, Some, Option, option_map, sym, ap, subst, ◌∙◌}
use Rattle.std.specs.FinMap.{remove}
use Rattle.disco_history.specs.declared.held.Held.{Held}
use Rattle.disco_instance.specs.declared.record.Record.{Record}
use Rattle.disco_registry.specs.Records.{AreInPlace, Contents, key_of_held}
use Rattle.disco_registry.proofs.PlaceSteps.{forgotten_shown, placed-forgotten}
use Rattle.disco_registry.proofs.records.Records.forget.Goals as goal

pub invariant_of-self : goal.invariant_of-self
invariant_of-self c =
    let p = c.self.inside.places in
    let next : c.self.inside.next ≡ Some c.in-Some.next = sym c.take.ensures.value ∙ c.in-Some.is in
    let placed = subst (λ (o : Option Held). AreInPlace p o c.self.inside.sought) next c.self.invariant in
    rw c.take.ensures.after (placed-forgotten p c.close.new.self c.in-Some.next c.self.inside.sought placed (c.close.ensures ∙ ap (λ (r : Record). remove p r.key) c.deref.ensures))

pub returns-in-Some : goal.returns-in-Some
returns-in-Some c =
    let p = c.self.inside.places in
    let next : c.self.inside.next ≡ Some c.in-Some.next = sym c.take.ensures.value ∙ c.in-Some.is in
    let placed = subst (λ (o : Option Held). AreInPlace p o c.self.inside.sought) next c.self.invariant in
    let shown = forgotten_shown p c.close.new.self c.in-Some.next c.self.inside.sought placed (c.close.ensures ∙ ap (λ (r : Record). remove p r.key) c.deref.ensures) ∙ ap (λ (s : Contents). s.held) c.self.view_is in
    λ i. record { held = shown i; next = option_map key_of_held (c.take.ensures.after i) }
