use Rattle.disco_reconcile.specs.Courses.{certified_delta, certified_full}
use Rattle.disco_reconcile.proofs.Steps.{goes_delta, goes_full, goes_on, goes_refused}
use Rattle.disco_reconcile.proofs.certified.refresh.Goals as goal
use Rattle.disco_reconcile.proofs.certified.refresh.Goals.{in-Some+in_ok-done-in-Some+in-Some-2, in-None}

pub returns-in_err-done-in-Some : goal.returns-in_err-done-in-Some
returns-in_err-done-in-Some g c = rw c.in-Some.is (goes_refused _ (certified_delta c.args.form) (certified_full c.args.form) _ _ _ _ _ _ _ (rw c.in_err-done-in-Some.was at c.take_delta.ensures) c.from_residual.ensures)

pub returns-in-None-2 : goal.returns-in-None-2
returns-in-None-2 g c = rw c.in-Some.is (goes_delta _ (certified_delta c.args.form) (certified_full c.args.form) _ _ _ _ _ (rw (c.in_ok-done-in-Some.was, c.in-None-2.is) at c.take_delta.ensures))

pub returns : goal.returns
returns g c = elim c.match-held.branch [
  | in-Some+in_ok-done-in-Some+in-Some-2 w ↦ rw w.in-Some.is (goes_on _ (certified_delta c.args.form) (certified_full c.args.form) _ _ _ _ _ _ _ _ _
      (rw (w.in_ok-done-in-Some.was, w.in-Some-2.is) at w.take_delta.ensures)
      (rw (w.held-is, w.done-is, w.fetcher-is) at c.take_full.ensures))
  | in-None w ↦ goes_full _ (certified_delta c.args.form) (certified_full c.args.form) _ _ _ _ _ _ w.in-None.is (rw (w.held-is, w.done-is, w.fetcher-is) at c.take_full.ensures)
]
