use Rattle.disco_hub.proofs.Rests.{loaded_stands}
use Rattle.disco_server.proofs.HubAnswers.{load_so}
use Rattle.disco_server.proofs.KeptDocuments.{loaded_keeps}
use Rattle.disco_server.proofs.hub.load.Goals as goal

pub returns-clause-answered : goal.returns-clause-answered
returns-clause-answered c = load_so c.args.hub.now c.load.new.self c.args.key.now c.args.now _ c.load.result c.load.ensures.served c.load.ensures.refused c.showing.ensures
    (loaded_stands c.args.hub.now c.load.new.self c.args.key.now c.load.result c.load.ensures.loads c.load.ensures.as_before)

pub returns-clause-kept : goal.returns-clause-kept
returns-clause-kept c = loaded_keeps c.args.hub.now c.load.new.self c.args.key.now c.load.result c.load.ensures.served c.load.ensures.loads c.load.ensures.as_before
