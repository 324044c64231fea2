use Rattle.std.proofs.Common.{sym, ap, ◌∙◌}
use Rattle.disco_values.specs.declared.key.Key.{Key}
use Rattle.disco_places.proofs.ByApp.{at_id, get_by_key}
use Rattle.disco_places.proofs.key_map.KeyMap.get_at.Goals as goal

pub returns-in-Some : goal.returns-in-Some
returns-in-Some g c =
    let k : Key = record { app = c.args.app.now; id = c.args.id.now } in
    rw (← c.self.view_is) (c.get-in-Some.ensures ∙ ap (λ o. at_id o k.id) c.in-Some.ensures.value ∙ sym (get_by_key k c.self.inside.apps.entries c.self.invariant.0))

pub returns-in-None : goal.returns-in-None
returns-in-None g c =
    let k : Key = record { app = c.args.app.now; id = c.args.id.now } in
    rw (← c.self.view_is) (ap (λ o. at_id o k.id) c.in-None.ensures.value ∙ sym (get_by_key k c.self.inside.apps.entries c.self.invariant.0))
