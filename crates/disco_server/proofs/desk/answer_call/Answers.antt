use Rattle.std.proofs.Common.{Ok, refl, subst, sym}
use Rattle.disco_calls.specs.Calls.{lacks, loads, call_view, shows, shows_id}
use Rattle.disco_calls.specs.declared.call.Call.{Call}
use Rattle.disco_message.specs.ReplyText.{reply_view}
use Rattle.disco_server.specs.Desks.{IsAnsweredOn}
use Rattle.disco_server.specs.Replies.{KeepsAsked, shared_text}
use Rattle.disco_server.proofs.HubAnswers.{lacked}
use Rattle.disco_server.proofs.DeskAnswers.{quiet_on}
use Rattle.disco_server.proofs.KeptDocuments.{still_kept}
use Rattle.disco_server.proofs.desk.answer_call.Goals as goal

pub returns-in-Load-clause-answered : goal.returns-in-Load-clause-answered
returns-in-Load-clause-answered g c =
    let d = c.args.desk.now in
    let s = c.args.seat.now in
    let y = reply_view shared_text c.load.result in
    subst (λ (k : Call). IsAnsweredOn d c.load.new.desk s s (Ok (call_view k)) c.args.now y) (sym c.in-Load.is) (quiet_on d c.load.new.desk s s (Ok (loads c.in-Load.key)) c.args.now y tt c.load.ensures.noted refl c.load.ensures.answered)

pub returns-in-Instance-clause-answered : goal.returns-in-Instance-clause-answered
returns-in-Instance-clause-answered g c =
    let d = c.args.desk.now in
    let s = c.args.seat.now in
    let y = reply_view shared_text c.instance.result in
    subst (λ (k : Call). IsAnsweredOn d d s s (Ok (call_view k)) c.args.now y) (sym c.in-Instance.is) (quiet_on d d s s (Ok (shows c.in-Instance.key c.in-Instance.form)) c.args.now y tt (refl, refl, (refl, refl)) refl c.instance.ensures)

pub returns-in-ById-clause-answered : goal.returns-in-ById-clause-answered
returns-in-ById-clause-answered g c =
    let d = c.args.desk.now in
    let s = c.args.seat.now in
    let y = reply_view shared_text c.by_id.result in
    subst (λ (k : Call). IsAnsweredOn d d s s (Ok (call_view k)) c.args.now y) (sym c.in-ById.is) (quiet_on d d s s (Ok (shows_id c.in-ById.id c.in-ById.form)) c.args.now y tt (refl, refl, (refl, refl)) refl c.by_id.ensures)

pub returns-in-Write-clause-answered : goal.returns-in-Write-clause-answered
returns-in-Write-clause-answered g c =
    subst (λ (k : Call). IsAnsweredOn c.args.desk.now c.write.new.desk c.args.seat.now c.write.new.seat (Ok (call_view k)) c.args.now (reply_view shared_text c.write.result)) (sym c.in-Write.is) c.write.ensures.answered

pub returns-in-Lacks-clause-answered : goal.returns-in-Lacks-clause-answered
returns-in-Lacks-clause-answered g c =
    let d = c.args.desk.now in
    let s = c.args.seat.now in
    let y = reply_view shared_text c.lacking.result in
    subst (λ (k : Call). IsAnsweredOn d d s s (Ok (call_view k)) c.args.now y) (sym c.in-Lacks.is) (quiet_on d d s s (Ok (lacks c.in-Lacks.allow)) c.args.now y tt (refl, refl, (refl, refl)) refl (lacked d.hub c.in-Lacks.allow c.args.now y c.lacking.ensures))

pub returns-in-Load-clause-kept : goal.returns-in-Load-clause-kept
returns-in-Load-clause-kept g c = subst (λ (k : Call). KeepsAsked c.args.desk.now.hub c.load.new.desk.hub (Ok (call_view k))) (sym c.in-Load.is) c.load.ensures.kept

pub returns-in-Write-clause-kept : goal.returns-in-Write-clause-kept
returns-in-Write-clause-kept g c = subst (λ (k : Call). KeepsAsked c.args.desk.now.hub c.write.new.desk.hub (Ok (call_view k))) (sym c.in-Write.is) c.write.ensures.kept

pub returns-in-Instance-clause-kept : goal.returns-in-Instance-clause-kept
returns-in-Instance-clause-kept g c = still_kept c.args.desk.now.hub (Ok (call_view c.args.call))

pub returns-in-ById-clause-kept : goal.returns-in-ById-clause-kept
returns-in-ById-clause-kept g c = still_kept c.args.desk.now.hub (Ok (call_view c.args.call))

pub returns-in-Lacks-clause-kept : goal.returns-in-Lacks-clause-kept
returns-in-Lacks-clause-kept g c = still_kept c.args.desk.now.hub (Ok (call_view c.args.call))
