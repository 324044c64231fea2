use Rattle.std.proofs.Common.{◌++◌, [], append-nil, inl, inr, refl, rules, subst}
use Rattle.std.proofs.lemmas.Result.{err_from_is_err_and}
use Rattle.disco_values.specs.declared.fault.Fault.TheVariants.{BadRequest}
use Rattle.disco_http.specs.Requests.{Refused, TakesRequest}
use Rattle.disco_http.specs.Unread.{bytes_of}
use Rattle.disco_http.proofs.SessionSteps.{fronts_next, looking}
use Rattle.disco_http.proofs.steps.Session.take_request.Goals as goal

pub returns-in_err-request-clause-found : goal.returns-in_err-request-clause-found
returns-in_err-request-clause-found g c given asks texts out h =
    let self = c.args.self.now in
    let p = err_from_is_err_and c.from_residual.result c.from_residual.ensures.1 in
    let k = looking g.D.Document.content self given asks texts out c.requires.looks h in
    rw (p.1, p.2) (k.1, (h.rest, h.fronts, inl (λ more. c.in_err-request.ensures.refused h.rest more k.0)))

pub returns-in-Some-clause-found : goal.returns-in-Some-clause-found
returns-in-Some-clause-found g c given asks texts out h =
    let self = c.args.self.now in
    let u = bytes_of c.advance.new.self.unread in
    let request = c.in-Some.request in
    let k = looking g.D.Document.content self given asks texts out c.requires.looks h in
    let whole = rw c.in-Some.is at c.in_ok-request.ensures.whole in
    let head = (rw c.in-Some.is at c.in_ok-request.ensures.phase) (search rules) in
    let takes = subst (λ v. TakesRequest self.limits h.rest request v) (append-nil u) (subst (λ v. TakesRequest self.limits v request (u ++ [])) (append-nil h.rest) (whole h.rest [] k.0)) in
    record {
      rest = u;
      fronts = fronts_next self.limits given h.rest u asks request h.fronts takes;
      holds = rw (c.requires.looks, head) refl;
      put = rw c.requires.looks k.1;
    }

pub returns-then-not-is_between-clause-found : goal.returns-then-not-is_between-clause-found
returns-then-not-is_between-clause-found g c given asks texts out h =
    let self = c.args.self.now in
    let k = looking g.D.Document.content self given asks texts out c.requires.looks h in
    let waits = rw c.in_default.is at c.in_ok-request.ensures.waits in
    let refused : Refused self.limits BadRequest h.rest = elim (waits h.rest k.0).2 [
      | inl between ↦ absurd (search rules)
      | inr refused ↦ refused
    ] in
    (k.1, (h.rest, h.fronts, inr (search rules, refused)))
