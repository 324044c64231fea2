use Rattle.disco_reconcile.specs.Courses.{certified_full}
use Rattle.disco_reconcile.proofs.Steps.{asked_many, full_put, full_refused}
use Rattle.disco_reconcile.proofs.certified.take_full.Goals as goal

pub returns-in_err-document : goal.returns-in_err-document
returns-in_err-document g c = full_refused _ _ _ _ (certified_full c.args.form) _ _ _ _ c.in_err-document.ensures c.from_residual.ensures

pub put_full-requires : goal.put_full-requires
put_full-requires g c = asked_many _ _ _ _ _ _ (rw c.in-Some.is at c.in_ok-document.ensures)

pub returns-in-Some : goal.returns-in-Some
returns-in-Some g c = full_put _ _ _ _ (certified_full c.args.form) _ _ _ (rw c.in-Some.is at c.in_ok-document.ensures) _ _ c.put_full.ensures
