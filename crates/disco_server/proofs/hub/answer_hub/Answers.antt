use Rattle.std.proofs.Common.{[], Result, subst, sym}
use Rattle.disco_values.specs.declared.fault.Fault.{Fault}
use Rattle.disco_calls.specs.Calls.{CallView, call}
use Rattle.disco_message.specs.ReplyText.{reply_view}
use Rattle.disco_server.specs.Replies.{IsAnswered, KeepsAsked, shared_text}
use Rattle.disco_server.proofs.HubAnswers.{answered_so, refused_so}
use Rattle.disco_server.proofs.KeptDocuments.{still_kept}
use Rattle.disco_server.proofs.hub.answer_hub.Goals as goal

pub returns-in-Ok-clause-answered : goal.returns-in-Ok-clause-answered
returns-in-Ok-clause-answered c =
    subst (λ (asked : Result CallView Fault). IsAnswered c.args.hub.now c.answer_call.new.hub asked c.args.now (reply_view shared_text c.answer_call.result)) (sym c.in-Ok.ensures) c.answer_call.ensures.answered

pub returns-in-Err-clause-answered : goal.returns-in-Err-clause-answered
returns-in-Err-clause-answered c = answered_so c.args.hub.now c.args.hub.now (call c.args.request.now) c.args.now _ [] (refused_so c.args.hub.now (call c.args.request.now) c.in-Err.fault c.args.now _ c.in-Err.ensures c.refused.ensures)

pub returns-in-Ok-clause-kept : goal.returns-in-Ok-clause-kept
returns-in-Ok-clause-kept c =
    subst (λ (asked : Result CallView Fault). KeepsAsked c.args.hub.now c.answer_call.new.hub asked) (sym c.in-Ok.ensures) c.answer_call.ensures.kept

pub returns-in-Err-clause-kept : goal.returns-in-Err-clause-kept
returns-in-Err-clause-kept c = still_kept c.args.hub.now (call c.args.request.now)
