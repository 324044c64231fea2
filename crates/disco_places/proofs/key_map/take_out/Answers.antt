use Rattle.disco_places.proofs.ByApp.{bare_out}
use Rattle.disco_places.specs.KeyMaps.{by_key}
use Rattle.disco_places.proofs.Full.{full_without}
use Rattle.disco_places.proofs.key_map.take_out.Goals as goal

pub returns-then-bare-clause-closed : goal.returns-then-bare-clause-closed
returns-then-bare-clause-closed g c =
    bare_out c.close_in-had.new.apps.entries c.unset.new.apps.entries c.close_in-had.ensures.ordered c.unset.ensures.ordered c.args.key.now (by_key c.args.apps.now.entries) c.close_in-had.ensures.closed (c.close_in-had.ensures.bare c.if-bare.true) c.unset.ensures.updates.0

pub returns-then-bare-clause-full : goal.returns-then-bare-clause-full
returns-then-bare-clause-full g c = λ none.
    full_without c.close_in-had.new.apps.entries c.unset.new.apps.entries c.args.key.now.app c.unset.ensures.updates.0 (c.close_in-had.ensures.others none)

pub returns-else-bare-clause-full : goal.returns-else-bare-clause-full
returns-else-bare-clause-full g c = c.close_in-had.ensures.full c.if-bare.false
