use Rattle.std.proofs.Common.{Ok, ap, sym, ◌∙◌}
use Rattle.disco_reconcile.specs.Courses.{certified_delta}
use Rattle.disco_reconcile.specs.Steps.{following}
use Rattle.disco_reconcile.proofs.Steps.{asked_many, step_none, step_refused, step_taken, step_unfound}
use Rattle.disco_reconcile.proofs.certified.take_delta.Goals as goal

pub returns-in_err-document : goal.returns-in_err-document
returns-in_err-document g c = step_refused _ _ _ _ (certified_delta c.args.form) _ _ _ c.in_err-document.ensures c.from_residual.ensures

pub put_delta-requires : goal.put_delta-requires
put_delta-requires g c = asked_many _ _ _ _ _ _ (rw c.in-Some.is at c.in_ok-document.ensures)

pub returns-in_err-put_delta-in-Some : goal.returns-in_err-put_delta-in-Some
returns-in_err-put_delta-in-Some g c =
    let h = c.in_err-put_delta-in-Some.ensures in
    step_unfound _ _ _ _ (certified_delta c.args.form) _ _ c.in_ok-document.ensures _ h.0 _ c.from_residual-in_err-put_delta-in-Some.ensures _ h.1

pub returns-then-branch : goal.returns-then-branch
returns-then-branch g c =
    let h = c.in_ok-put_delta-in-Some.ensures in
    step_taken _ _ _ _ (certified_delta c.args.form) _ _ (rw c.in-Some.is at c.in_ok-document.ensures) _ _ (ap (λ b. Ok (following b)) (sym c.if-branch.true ∙ h.0), h.1)

pub returns-else-branch : goal.returns-else-branch
returns-else-branch g c =
    let h = c.in_ok-put_delta-in-Some.ensures in
    step_taken _ _ _ _ (certified_delta c.args.form) _ _ (rw c.in-Some.is at c.in_ok-document.ensures) _ _ (ap (λ b. Ok (following b)) (sym c.if-branch.false ∙ h.0), h.1)

pub returns-in-None : goal.returns-in-None
returns-in-None g c = step_none _ _ _ _ (certified_delta c.args.form) _ (rw c.in-None.is at c.in_ok-document.ensures)
