use Rattle.std.proofs.Common.{Ok, ap, sym, ◌∙◌}
use Rattle.disco_client.specs.Copies.{hash_equal}
use Rattle.disco_reconcile.specs.Courses.{plain_delta}
use Rattle.disco_reconcile.specs.Steps.{following}
use Rattle.disco_reconcile.proofs.Steps.{asked_many, step_none, step_refused, step_taken, step_unfound}
use Rattle.disco_reconcile.proofs.plain.take_delta.Goals as goal

pub returns-in_err-document : goal.returns-in_err-document
returns-in_err-document g c = step_refused _ _ _ _ plain_delta _ _ _ c.in_err-document.ensures c.from_residual.ensures

pub returns-in_err-overlay-in-Some : goal.returns-in_err-overlay-in-Some
returns-in_err-overlay-in-Some g c =
    let many = asked_many _ _ _ _ _ _ (rw c.in-Some.is at c.in_ok-document.ensures) in
    let h = c.in_err-overlay-in-Some.ensures in
    step_unfound _ _ _ _ plain_delta _ _ c.in_ok-document.ensures _ (h.memory many) _ c.from_residual-in_err-overlay-in-Some.ensures _ h.unchanged

pub returns-then-branch : goal.returns-then-branch
returns-then-branch g c =
    let h = c.in_ok-overlay-in-Some.ensures in
    step_taken _ _ _ _ plain_delta _ _ (rw c.in-Some.is at c.in_ok-document.ensures) _ _ (ap (λ b. Ok (following b)) (sym c.if-branch.true ∙ h.hash_equal ∙ ap (hash_equal c.in-Some.document.wire.hash) h.overlaid), h.overlaid)

pub returns-else-branch : goal.returns-else-branch
returns-else-branch g c =
    let h = c.in_ok-overlay-in-Some.ensures in
    step_taken _ _ _ _ plain_delta _ _ (rw c.in-Some.is at c.in_ok-document.ensures) _ _ (ap (λ b. Ok (following b)) (sym c.if-branch.false ∙ h.hash_equal ∙ ap (hash_equal c.in-Some.document.wire.hash) h.overlaid), h.overlaid)

pub returns-in-None : goal.returns-in-None
returns-in-None g c = step_none _ _ _ _ plain_delta _ (rw c.in-None.is at c.in_ok-document.ensures)
