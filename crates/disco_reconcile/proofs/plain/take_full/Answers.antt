use Rattle.std.proofs.Common.{Ok, Some, ap}
use Rattle.disco_reconcile.specs.Courses.{outcome_of, plain_full}
use Rattle.disco_reconcile.proofs.Steps.{asked_many, full_refused, full_taken, full_unfound}
use Rattle.disco_reconcile.proofs.plain.take_full.Goals as goal

pub returns-in_err-document : goal.returns-in_err-document
returns-in_err-document g c = full_refused _ _ _ _ plain_full _ _ _ _ c.in_err-document.ensures c.from_residual.ensures

pub returns-in_err-full-in-Some : goal.returns-in_err-full-in-Some
returns-in_err-full-in-Some g c =
    let many = asked_many _ _ _ _ _ _ (rw c.in-Some.is at c.in_ok-document.ensures) in
    full_unfound _ _ _ _ plain_full _ _ _ c.in_ok-document.ensures _ (c.in_err-full-in-Some.ensures.memory many) _ c.from_residual-in_err-full-in-Some.ensures

pub returns-in_ok-full-in-Some : goal.returns-in_ok-full-in-Some
returns-in_ok-full-in-Some g c =
    full_taken _ _ _ _ plain_full _ _ _ (rw c.in-Some.is at c.in_ok-document.ensures) _ _ (ap (λ s. outcome_of (Ok c.args.done) (Some s)) c.in_ok-full-in-Some.ensures.copied)
