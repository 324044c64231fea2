use Rattle.std.proofs.Common.{◌≡◌, Some, None, rules, sym, ◌∙◌}
use Rattle.disco_http.specs.Exchanges.{end_of}
use Rattle.disco_http.proofs.ServedSessions.{exchanged_on}
use Rattle.disco_http.proofs.ReadingSessions.{stopped}
use Rattle.disco_http.proofs.session.answer_all.Goals as goal

pub returns-in-Some-clause-answers : goal.returns-in-Some-clause-answers
returns-in-Some-clause-answers g c stream first before so =
    let content = g.S.Body.Document.content in
    let it = c.replies in
    let n = c.next_reply.ensures in
    let p = c.put_out.ensures in
    let mid = c.next_reply.new.session in
    let new = c.put_out.new.session in
    let is : end_of new.state ≡ Some c.in-Some.end = sym c.end.ensures ∙ c.in-Some.is in
    rw is at (exchanged_on content g.S.Service.answers stream first before it.session mid new _ _ it.service c.next_reply.new.service _ _ _ _ (it.invariant.so_far stream first before so) n.came.0 n.came.1 it.invariant.few n.limits n.came.2 (stopped content mid.limits c.next_reply.new.text.items it.session.requests mid.requests _ _ mid.state n.stops) n.ended p.put p.done p.incoming p.limits p.requests)

pub replies-preserved : goal.replies-preserved
replies-preserved g c =
    let content = g.S.Body.Document.content in
    let it = c.replies in
    let n = c.next_reply.ensures in
    let p = c.put_out.ensures in
    let mid = c.next_reply.new.session in
    let new = c.put_out.new.session in
    let is : end_of new.state ≡ None = sym c.end.ensures ∙ c.in_default.is in
    record {
      so_far = λ stream first before so. rw is at (exchanged_on content g.S.Service.answers stream first before it.session mid new _ _ it.service c.next_reply.new.service _ _ _ _ (it.invariant.so_far stream first before so) n.came.0 n.came.1 it.invariant.few n.limits n.came.2 (stopped content mid.limits c.next_reply.new.text.items it.session.requests mid.requests _ _ mid.state n.stops) n.ended p.put p.done p.incoming p.limits p.requests);
      looks = search rules;
      few = search rules;
      ended = search rules;
      limits = search rules;
      size = search rules;
      places = search rules;
      read = search rules;
      wrote = search rules;
    }
