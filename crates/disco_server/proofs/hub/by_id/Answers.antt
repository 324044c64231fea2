use Rattle.std.proofs.Common.{ℕ, List, Ok, subst}
use Rattle.disco_calls.specs.Calls.{shows_id}
use Rattle.disco_message.specs.ReplyText.{reply_view}
use Rattle.disco_server.specs.Replies.{IsAnswered, shared_text}
use Rattle.disco_server.proofs.HubAnswers.{by_id_so}
use Rattle.disco_server.proofs.hub.by_id.Goals as goal

pub returns-clause-answered : goal.returns-clause-answered
returns-clause-answered c =
    let y = reply_view shared_text c.showing.result in
    let so = by_id_so c.args.hub.now c.as_str.result.now c.args.form c.args.now y c.by_id.result c.by_id.ensures.served c.by_id.ensures.refused c.showing.ensures in
    subst (λ (id : List ℕ). IsAnswered c.args.hub.now c.args.hub.now (Ok (shows_id id c.args.form)) c.args.now y) c.as_str.ensures so
