use Rattle.std.proofs.Common.{ℕ, List, Ok, subst}
use Rattle.disco_calls.specs.Calls.{shows_id}
use Rattle.disco_message.specs.ReplyText.{reply_view}
use Rattle.disco_server.specs.Replies.{IsAnswered, shared_text}
use Rattle.disco_server.proofs.HubAnswers.{by_id_so}
use Rattle.disco_server.proofs.desk.by_id.Goals as goal

pub returns : goal.returns
returns g c =
    let y = reply_view shared_text c.showing.result in
    let hub = c.args.desk.now.hub in
    let so = by_id_so hub c.as_str.result.now c.args.form c.args.now y c.by_id.result c.by_id.ensures.served c.by_id.ensures.refused c.showing.ensures in
    subst (λ (id : List ℕ). IsAnswered hub hub (Ok (shows_id id c.args.form)) c.args.now y) c.as_str.ensures so
