use Rattle.std.proofs.Common.{sym, ◌∙◌}
use Rattle.disco_places.specs.KeyMaps.{by_key}
use Rattle.disco_places.proofs.Lengths.{len_put}
use Rattle.disco_places.proofs.key_map.KeyMap.swap.Goals as goal

pub invariant_of-self : goal.invariant_of-self
invariant_of-self g c = (
  c.swap_in.ensures.ordered,
  c.self.invariant.1 ∙ sym (len_put (by_key c.self.inside.apps.entries) c.args.key.now (by_key c.swap_in.new.apps.entries) c.args.value c.swap_in.ensures.there c.swap_in.ensures.none),
  c.swap_in.ensures.full c.self.invariant.2,
)
