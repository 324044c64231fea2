use Rattle.std.proofs.Common.{Some, inl, inr, refl}
use Rattle.disco_values.specs.declared.fault.Fault.TheVariants.{OutOfMemory}
use Rattle.disco_http.specs.Served.{refused}
use Rattle.disco_http.specs.declared.session.End.TheVariants as End
use Rattle.disco_http.specs.declared.steps.State.TheVariants.{Writes}
use Rattle.disco_http.specs.Sessions.{IsGoing}
use Rattle.disco_http.proofs.SessionSteps.{answered_same, going_done, looking}
use Rattle.disco_http.proofs.steps.Session.answer.Goals as goal

pub returns-then-is_err-clause-answered : goal.returns-then-is_err-clause-answered
returns-then-is_err-clause-answered g c looks given asks texts out h =
    let content = g.D.Document.content in
    let o = c.refuse.result in
    let goes : IsGoing content (refused OutOfMemory) (Some (End.Fault OutOfMemory)) (Writes o) = (o, refl, c.refuse.ensures.reply, c.refuse.ensures.end, c.refuse.ensures.put.0) in
    inr (
      refl,
      inl (
        OutOfMemory,
        h.rest,
        h.fronts,
        inl refl,
        going_done content _ given h.rest asks texts out _ _ h.fronts goes tt (looking content c.args.self.now given asks texts out looks h).1,
      ),
    )

pub returns-clause-answered : goal.returns-clause-answered
returns-clause-answered g c looks =
    let e = c.spare.ensures in
    answered_same g.D.Document.content c.reply.new.self c.spare.new.self e.phase e.bytes e.state e.limits e.ended e.requests g.S.Service.answers c.args.self.now c.args.service.now c.reply.new.service
    (λ given asks texts out h. rw (← c.take_request-found.ensures.requests) (c.reply.ensures.replied given asks texts out (c.take_request-found.ensures.found given asks texts out h)))
