use Rattle.std.proofs.Common.{sym}
use Rattle.disco_places.proofs.ByApp.{entries_by_key}
use Rattle.disco_places.proofs.key_map.KeyMap.apps.Goals as goal

pub returns : goal.returns
returns g c = rw (← c.self.view_is) (sym (entries_by_key c.self.inside.apps.entries c.self.invariant.0))
