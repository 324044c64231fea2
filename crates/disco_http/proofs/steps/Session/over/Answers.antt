use Rattle.std.proofs.Common.{refl, subst, sym}
use Rattle.disco_http.specs.Coming.{PhaseAt}
use Rattle.disco_http.specs.Unread.{bytes_of}
use Rattle.disco_http.proofs.steps.Session.over.Goals as goal

pub returns-clause-done : goal.returns-clause-done
returns-clause-done g c =
    let u = bytes_of c.args.incoming.unread in
    record { rest = u; fronts = refl; holds = subst (λ at. PhaseAt c.args.limits u at u) (sym c.requires.between) refl; put = refl }
