use Rattle.disco_server.proofs.HubAnswers.{instance_so}
use Rattle.disco_server.proofs.hub.instance.Goals as goal

pub returns-clause-answered : goal.returns-clause-answered
returns-clause-answered c = instance_so c.args.hub.now c.args.key.now c.args.form c.args.now _ c.instance.result c.instance.ensures.served c.instance.ensures.refused c.showing.ensures
