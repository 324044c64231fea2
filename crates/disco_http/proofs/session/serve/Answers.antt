use Rattle.std.proofs.Common.{◌≡◌, [], refl, sym, ◌∙◌}
use Rattle.disco_http.specs.Sessions.{HasDone}
use Rattle.disco_http.specs.Streams.{ahead, unread}
use Rattle.disco_http.proofs.ServedSessions.{begun, ends_as, for_each}
use Rattle.disco_http.proofs.session.serve.Goals as goal

pub returns-clause-answers : goal.returns-clause-answers
returns-clause-answers g c =
    let content = g.S.Body.Document.content in
    let reader = c.args.reader.now in
    let first = ahead g.R.Source.remaining reader in
    let left = g.R.Source.remaining reader.source in
    let contents = g.W.Sink.contents c.args.writer.now.sink in
    let now = c.args.service.now in
    let session = c.over-session.result in
    let done : HasDone content session (unread reader) [] [] [] = rw c.replace-incoming.ensures.value at c.over-session.ensures.done in
    let over = c.answer_all-end.new.session in
    let limits : reader.limits ≡ over.limits = sym (c.answer_all-end.ensures.limits ∙ c.over-session.ensures.limits) in
    for_each first _ _ (λ stream h. rw c.spend.ensures.sink (ends_as g.S.Service.answers stream now c.answer_all-end.new.service contents _ _ over.limits reader.limits over.incoming c.swap.new.y over.requests over.requests c.answer_all-end.result limits c.swap.ensures.y_after refl (c.answer_all-end.ensures.answers stream now contents h)))
    (begun content g.S.Service.answers session (unread reader) left now contents c.over-session.ensures.none done)
