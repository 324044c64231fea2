use Rattle.std.proofs.Common.{is_some, sym, ap, ◌∙◌}
use Rattle.disco_places.proofs.ByApp.{at_id, get_by_key}
use Rattle.disco_places.proofs.key_map.KeyMap.has.Goals as goal

pub returns-in-Some : goal.returns-in-Some
returns-in-Some g c =
    let k = c.args.key.now in
    rw (← c.self.view_is) (c.has.ensures ∙ ap is_some (ap (λ o. at_id o k.id) c.in-Some.ensures.value ∙ sym (get_by_key k c.self.inside.apps.entries c.self.invariant.0)))

pub returns-in-None : goal.returns-in-None
returns-in-None g c =
    let k = c.args.key.now in
    rw (← c.self.view_is) (ap is_some (ap (λ o. at_id o k.id) c.in-None.ensures.value ∙ sym (get_by_key k c.self.inside.apps.entries c.self.invariant.0)))
