use Rattle.std.proofs.Common.{[], subst}
use Rattle.disco_http.specs.Sessions.{HasDone}
use Rattle.disco_http.proofs.steps.Session.new.Goals as goal

pub returns-clause-done : goal.returns-clause-done
returns-clause-done g c = subst (λ xs. HasDone g.D.Document.content c.over.result xs [] [] []) c.none.ensures.none c.over.ensures.done
