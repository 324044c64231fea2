use Rattle.std.proofs.Common.{map}
use Rattle.disco_history.specs.Places.{filled}
use Rattle.disco_writer.specs.InOrder.{keyed_text}
use Rattle.disco_places.specs.KeyMaps.{of_apps}
use Rattle.disco_writer.proofs.Apps.{keyed_more}
use Rattle.disco_writer.proofs.places.walk_keyed.Goals as goal

pub loop-app-preserved : goal.loop-app-preserved
loop-app-preserved c =
    keyed_more (map keyed_text c.loop-app.list.items) (map keyed_text c.walk_keyed_ids.new.list.items) (c.in-Some.app.now, c.in-Some.ids.now) c.next.new.self c.loop-app.app-iterator (filled (λ t. t) (of_apps c.args.apps.now.entries))
    c.in-Some.ensures.steps c.loop-app.invariant
    c.in_ok-walk_keyed_ids.ensures
