use Rattle.std.proofs.Common.{ap}
use Rattle.std.specs.FinMap.{find, get}
use Rattle.disco_places.specs.KeyMaps.{of_apps}
use Rattle.disco_lease.specs.Due.{due_cmp}
use Rattle.disco_lease.specs.Seen.{pairs, seen_due}
use Rattle.disco_lease.proofs.CollectedKeys.{all_there, app_more, none_yet}
use Rattle.disco_lease.proofs.overdue.collect.Goals as goal

pub loop-app-init : goal.loop-app-init
loop-app-init c = λ q. none_yet (pairs c.args.now (of_apps c.args.apps.now.entries)) _ c.new-overdue.result.entries q (ap (λ es. pairs c.args.now (of_apps es)) c.into_iter-app-iterator.ensures.into_iter_gives.0) c.new-overdue.ensures.empty

pub loop-app-preserved : goal.loop-app-preserved
loop-app-preserved c = λ q.
    app_more c.args.now (c.in-Some.app.now, c.in-Some.ids.now) c.next.new.self c.loop-app.app-iterator (get (seen_due c.loop-app.overdue.entries) q) (get (seen_due c.collect_ids.new.overdue.entries) q) (find due_cmp q (pairs c.args.now (of_apps c.args.apps.now.entries))) q
    c.in-Some.ensures.steps
    (c.in_ok-collect_ids.ensures q)
    (c.loop-app.invariant q)

pub returns : goal.returns
returns c = all_there (pairs c.args.now (of_apps c.args.apps.now.entries)) (pairs c.args.now (of_apps c.loop-app.app-iterator)) c.loop-app.overdue.entries (ap (λ es. pairs c.args.now (of_apps es)) c.in-None.ensures.steps.0) c.loop-app.invariant
