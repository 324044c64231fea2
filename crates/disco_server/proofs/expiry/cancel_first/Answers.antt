use Rattle.std.proofs.Common.{List, ◌++◌, None, subst, sym}
use Rattle.disco_values.specs.declared.key.Key.{Key}
use Rattle.disco_server.specs.Tasks.{LetsRunOut}
use Rattle.disco_server.proofs.FirstKeys.{all_gone, stopped_so}
use Rattle.disco_server.proofs.expiry.cancel_first.Goals as goal

pub returns-in-Some-clause-run : goal.returns-in-Some-clause-run
returns-in-Some-clause-run g c =
    let did = c.cancel_overdue.ensures in
    let done = c.cancel_overdue.result in
    stopped_so c.args.now c.args.desk.now c.cancel_overdue.new.self (c.args.next.now.items ++ c.args.behind.now.items) c.fill.new.next.items c.fill.new.behind.items done.gone done.stopped c.fill.ensures.next c.fill.ensures.behind did.history did.noted did.rest
    c.in-Some.fault c.cancel_overdue.new.keys.items c.in-Some.is did.keys

pub returns-in-None-clause-run : goal.returns-in-None-clause-run
returns-in-None-clause-run g c =
    let did = c.cancel_overdue.ensures in
    let done = c.cancel_overdue.result in
    let old = c.args.desk.now in
    let new = c.cancel_overdue.new.self in
    let before = c.args.next.now.items ++ c.args.behind.now.items in
    let behind = c.fill.new.behind.items in
    subst (λ (l : List Key). LetsRunOut c.args.now old new before (l ++ behind) None) (sym c.clear.ensures.items)
    (all_gone c.args.now old new before c.fill.new.next.items behind done.gone done.stopped c.fill.ensures.next c.fill.ensures.behind did.history did.noted did.rest c.in-None.is)
