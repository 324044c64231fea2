use Rattle.disco_server.proofs.DeskAnswers.{call_on, refused_on}
use Rattle.disco_server.proofs.KeptDocuments.{kept_by_call, still_kept}
use Rattle.disco_server.proofs.desk.answer_called.Goals as goal

pub returns-in-Ok-clause-answered : goal.returns-in-Ok-clause-answered
returns-in-Ok-clause-answered g c = λ asked gives.
    call_on c.args.desk.now c.answer_call.new.desk c.args.seat.now c.answer_call.new.seat c.args.called c.in-Ok.call c.in-Ok.is c.args.now _ c.answer_call.ensures.answered asked gives

pub returns-in-Err-clause-answered : goal.returns-in-Err-clause-answered
returns-in-Err-clause-answered g c = λ asked gives. refused_on c.args.desk.now c.args.seat.now c.args.called c.in-Err.fault c.in-Err.is c.args.now _ c.refused.ensures asked gives

pub returns-in-Ok-clause-kept : goal.returns-in-Ok-clause-kept
returns-in-Ok-clause-kept g c = λ asked gives.
    kept_by_call c.args.desk.now.hub c.answer_call.new.desk.hub c.args.called c.in-Ok.call c.in-Ok.is c.answer_call.ensures.kept asked gives

pub returns-in-Err-clause-kept : goal.returns-in-Err-clause-kept
returns-in-Err-clause-kept g c = λ asked gives. still_kept c.args.desk.now.hub asked
