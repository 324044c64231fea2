use Rattle.std.proofs.Common.{sym, ◌∙◌}
use Rattle.disco_places.specs.KeyMaps.{by_key}
use Rattle.disco_places.proofs.Lengths.{len_replaced}
use Rattle.disco_places.proofs.key_map.KeyMap+Option+V.update.Goals as goal

pub invariant_of-self : goal.invariant_of-self
invariant_of-self g c = (
  c.update_in.ensures.ordered,
  c.self.invariant.1 ∙ sym (len_replaced (by_key c.self.inside.apps.entries) c.args.key.now (by_key c.update_in.new.apps.entries) _ c.update_in.result c.update_in.ensures.changed c.update_in.ensures.same),
  c.update_in.ensures.full c.self.invariant.2,
)
