use Rattle.std.proofs.Common.{Option, ap, subst, ◌∙◌}
use Rattle.std.specs.FinMap.{get, insert}
use Rattle.std.specs.Option.{option_flatten}
use Rattle.disco_history.specs.declared.held.Held.{Held}
use Rattle.disco_instance.specs.declared.record.Record.{Record}
use Rattle.disco_registry.specs.Records.{AreInPlace, Contents, key_of_held}
use Rattle.disco_registry.proofs.PlaceSteps.{made_shown, no_place, none_next, placed-made}
use Rattle.disco_registry.proofs.records.Records.make.Goals as goal

pub invariant_of-self-2 : goal.invariant_of-self-2
invariant_of-self-2 c =
    let p = c.self.inside.places in
    let k = key_of_held c.args.next in
    let none = none_next c.self.inside.next (ap (λ (s : Contents). s.next) (c.self.view_is ∙ c.forget.ensures)) in
    let placed = subst (λ (o : Option Held). AreInPlace p o c.self.inside.sought) none c.self.invariant in
    let absent = ap (λ (s : Contents). get s.held k) (c.self.view_is ∙ c.forget.ensures) ∙ c.requires in
    let empty = no_place p c.self.inside.sought k placed absent in
    let made = ap (λ (r : Record). insert p r.key (option_flatten (get p r.key))) c.deref.ensures ∙ ap (λ o. insert p k (option_flatten o)) empty in
    placed-made p c.make.new.self c.args.next c.self.inside.sought placed absent (c.in_ok-make.ensures.ok ∙ made)

pub returns-clause-held : goal.returns-clause-held
returns-clause-held c =
    let p = c.self.inside.places in
    let k = key_of_held c.args.next in
    let none = none_next c.self.inside.next (ap (λ (s : Contents). s.next) (c.self.view_is ∙ c.forget.ensures)) in
    let placed = subst (λ (o : Option Held). AreInPlace p o c.self.inside.sought) none c.self.invariant in
    let absent = ap (λ (s : Contents). get s.held k) (c.self.view_is ∙ c.forget.ensures) ∙ c.requires in
    let empty = no_place p c.self.inside.sought k placed absent in
    let made = ap (λ (r : Record). insert p r.key (option_flatten (get p r.key))) c.deref.ensures ∙ ap (λ o. insert p k (option_flatten o)) empty in
    made_shown p c.make.new.self k absent (c.in_ok-make.ensures.ok ∙ made)
    ∙ ap (λ (s : Contents). s.held) (c.self.view_is ∙ c.forget.ensures)
