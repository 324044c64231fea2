use Rattle.disco_writer.specs.Joined.{shown_by, walked}
use Rattle.disco_places.specs.KeyMaps.{of_apps}
use Rattle.disco_writer.proofs.Apps.{walk_more}
use Rattle.disco_writer.proofs.places.walk.Goals as goal

pub loop-app-preserved : goal.loop-app-preserved
loop-app-preserved c =
    walk_more (shown_by c.loop-app.list.items) (shown_by c.walk_ids.new.list.items) (c.in-Some.app.now, c.in-Some.ids.now) c.next.new.self c.loop-app.app-iterator (walked (of_apps c.args.apps.now.entries))
    c.in-Some.ensures.steps c.loop-app.invariant
    c.in_ok-walk_ids.ensures
