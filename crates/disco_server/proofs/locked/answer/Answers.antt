use Rattle.disco_calls.specs.Calls.{call}
use Rattle.disco_server.proofs.locked.answer.Goals as goal

pub returns-clause-told : goal.returns-clause-told
returns-clause-told g c = c.answer_called.ensures.told (call c.args.request.now) c.call_of-called.ensures
