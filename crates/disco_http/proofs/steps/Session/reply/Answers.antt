use Rattle.std.proofs.Common.{◌++◌, ◌∷◌, [], Some, inl, inr, nat_le, refl}
use Rattle.disco_message.specs.ReplyText.{reply_view}
use Rattle.disco_http.specs.Served.{end_behind, refused}
use Rattle.disco_http.specs.declared.session.End.TheVariants as End
use Rattle.disco_http.specs.declared.steps.State.TheVariants.{Writes}
use Rattle.disco_http.specs.Sessions.{IsGoing}
use Rattle.disco_http.proofs.SessionSteps.{going_done, looking, of_host, taken_leaves}
use Rattle.disco_http.proofs.steps.Session.reply.Goals as goal

pub returns-in-Ok-Some-clause-replied : goal.returns-in-Ok-Some-clause-replied
returns-in-Ok-Some-clause-replied g c given asks texts out found =
    let content = g.D.Document.content in
    let self = c.args.self.now in
    let o = c.answer.result in
    let request = c.in-Ok-Some.request in
    let r = reply_view content o.reply in
    let end = end_behind request.closes (nat_le self.limits.requests c.answer.new.requests) in
    let stands = rw (c.in-Ok-Some.is, c.in-Ok-Some.field-0-is) at c.requires.stands in
    let h = rw (c.in-Ok-Some.is, c.in-Ok-Some.field-0-is) at found in
    let k = looking content self given (asks ++ request ∷ []) texts out stands.0 h in
    let goes : IsGoing content r end (Writes o) = (o, refl, refl, c.answer.ensures.end, c.answer.ensures.put.0) in
    inl (record {
      ask = request;
      reply = r;
      told = c.answer.ensures.answers;
      counted = c.answer.ensures.few;
      between = stands.1;
      goes = goes;
      done = going_done content _ given h.rest (asks ++ request ∷ []) texts out r end h.fronts goes (taken_leaves self.limits self.incoming request.closes _ h.rest stands.1 k.0) k.1;
    })

pub returns-in-Err-clause-replied : goal.returns-in-Err-clause-replied
returns-in-Err-clause-replied g c given asks texts out found =
    let o = c.refuse.result in
    let fault = c.in-Err.fault in
    let host = of_host fault (rw c.in-Err.is at c.requires.stands).1 in
    let h = rw c.in-Err.is at found in
    let goes : IsGoing g.D.Document.content (refused fault) (Some (End.Fault fault)) (Writes o) = (o, refl, c.refuse.ensures.reply, c.refuse.ensures.end, c.refuse.ensures.put.0) in
    inr (
      refl,
      refl,
      inl (record {
        fault = fault;
        rest = h.1.0;
        fronts = h.1.1;
        why = h.1.2;
        read = host.0;
        wrote = host.1;
        goes = goes;
        done = going_done g.D.Document.content _ given h.1.0 asks texts out _ _ h.1.1 goes tt h.0;
      }),
    )
