use Rattle.disco_calls.specs.Calls.{call}
use Rattle.disco_server.proofs.locked.answer_in.Goals as goal

pub returns-clause-told : goal.returns-clause-told
returns-clause-told g c = c.answer_called.ensures.told (call c.args.request.now) c.call_in_turn-called.ensures
