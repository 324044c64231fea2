use Rattle.std.proofs.Common.{map}
use Rattle.disco_places.specs.KeyMaps.{of_apps}
use Rattle.disco_queue.specs.Numbers.{keyed_change, numbered, numbered_keys}
use Rattle.disco_queue.specs.Seen.{change_of}
use Rattle.disco_queue.proofs.Apps.{numbered_more}
use Rattle.disco_queue.proofs.latest.numbered_in.Goals as goal

pub loop-app-preserved : goal.loop-app-preserved
loop-app-preserved c =
    let f = numbered c.args.before (map change_of c.args.kept.now.items) in (
      numbered_more f (map keyed_change c.loop-app.found.items) (map keyed_change c.add_numbered.new.found.items) (c.in-Some.app.now, c.in-Some.ids.now) c.next.new.self c.loop-app.app-iterator (numbered_keys f (of_apps c.into_iter-app-iterator.result))
          c.in-Some.ensures.steps c.loop-app.invariant.0
          c.in_ok-add_numbered.ensures.changes,
      c.in_ok-add_numbered.ensures.proper,
    )
