use Rattle.disco_calls.specs.Calls.{call}
use Rattle.disco_server.proofs.desk.answer_on.Goals as goal

pub returns-clause-answered : goal.returns-clause-answered
returns-clause-answered g c = c.answer_read.ensures.answered (call c.args.request.now) c.call_of.ensures
