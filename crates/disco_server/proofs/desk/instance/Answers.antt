use Rattle.disco_server.proofs.HubAnswers.{instance_so}
use Rattle.disco_server.proofs.desk.instance.Goals as goal

pub returns : goal.returns
returns g c = instance_so c.args.desk.now.hub c.args.key.now c.args.form c.args.now _ c.instance.result c.instance.ensures.served c.instance.ensures.refused c.showing.ensures
