use Rattle.std.proofs.Common.{Ok, ap, subst, sym}
use Rattle.disco_calls.specs.Calls.{call_view}
use Rattle.disco_calls.specs.declared.call.Call.{Call}
use Rattle.disco_message.specs.ReplyText.{reply_view}
use Rattle.disco_server.specs.Replies.{IsAnswered, KeepsAsked, shared_text}
use Rattle.disco_server.proofs.HubAnswers.{lacked}
use Rattle.disco_hub.specs.State.{HubState}
use Rattle.disco_server.proofs.KeptDocuments.{still_kept}
use Rattle.disco_server.proofs.hub.answer_call.Goals as goal

pub returns-in-Lacks-clause-answered : goal.returns-in-Lacks-clause-answered
returns-in-Lacks-clause-answered c =
    let y = reply_view shared_text c.lacking.result in
    subst (λ (k : Call). IsAnswered c.args.hub.now c.args.hub.now (Ok (call_view k)) c.args.now y) (sym c.in-Lacks.is) (lacked c.args.hub.now c.in-Lacks.allow c.args.now y c.lacking.ensures)

pub returns-in-Load-clause-answered : goal.returns-in-Load-clause-answered
returns-in-Load-clause-answered c =
    subst (λ (k : Call). IsAnswered c.args.hub.now c.load.new.hub (Ok (call_view k)) c.args.now (reply_view shared_text c.load.result)) (sym c.in-Load.is) c.load.ensures.answered

pub returns-in-Instance-clause-answered : goal.returns-in-Instance-clause-answered
returns-in-Instance-clause-answered c =
    subst (λ (k : Call). IsAnswered c.args.hub.now c.instance.new.hub (Ok (call_view k)) c.args.now (reply_view shared_text c.instance.result)) (sym c.in-Instance.is) c.instance.ensures.answered

pub returns-in-ById-clause-answered : goal.returns-in-ById-clause-answered
returns-in-ById-clause-answered c =
    subst (λ (k : Call). IsAnswered c.args.hub.now c.by_id.new.hub (Ok (call_view k)) c.args.now (reply_view shared_text c.by_id.result)) (sym c.in-ById.is) c.by_id.ensures.answered

pub returns-in-Write-clause-answered : goal.returns-in-Write-clause-answered
returns-in-Write-clause-answered c =
    subst (λ (k : Call). IsAnswered c.args.hub.now c.write.new.hub (Ok (call_view k)) c.args.now (reply_view shared_text c.write.result)) (sym c.in-Write.is) c.write.ensures.answered

pub returns-in-Load-clause-kept : goal.returns-in-Load-clause-kept
returns-in-Load-clause-kept c = subst (λ (k : Call). KeepsAsked c.args.hub.now c.load.new.hub (Ok (call_view k))) (sym c.in-Load.is) c.load.ensures.kept

pub returns-in-Write-clause-kept : goal.returns-in-Write-clause-kept
returns-in-Write-clause-kept c = subst (λ (k : Call). KeepsAsked c.args.hub.now c.write.new.hub (Ok (call_view k))) (sym c.in-Write.is) c.write.ensures.kept

pub returns-in-Instance-clause-kept : goal.returns-in-Instance-clause-kept
returns-in-Instance-clause-kept c =
    subst (λ (k : Call). KeepsAsked c.args.hub.now c.instance.new.hub (Ok (call_view k))) (sym c.in-Instance.is) (ap (λ (s : HubState). s.docs) c.instance.ensures.same)

pub returns-in-ById-clause-kept : goal.returns-in-ById-clause-kept
returns-in-ById-clause-kept c =
    subst (λ (k : Call). KeepsAsked c.args.hub.now c.by_id.new.hub (Ok (call_view k))) (sym c.in-ById.is) (ap (λ (s : HubState). s.docs) c.by_id.ensures.same)

pub returns-in-Lacks-clause-kept : goal.returns-in-Lacks-clause-kept
returns-in-Lacks-clause-kept c = still_kept c.args.hub.now (Ok (call_view c.args.call))
