use Rattle.std.proofs.Common.{◌≡◌, Result, Ok, Err, OnErr, ap}
use Rattle.disco_values.specs.declared.fault.Fault.{Fault}
use Rattle.disco_press.specs.Desks.{DeskState}
use Rattle.disco_hub.proofs.Rests.{loaded_stands}
use Rattle.disco_server.proofs.HubAnswers.{load_so}
use Rattle.disco_server.proofs.KeptDocuments.{loaded_keeps}
use Rattle.disco_server.proofs.desk.load.Goals as goal

as_before : {A : Type 0} (old new : DeskState) (r : Result A Fault) → OnErr r (new ≡ old) → OnErr r (new.hub ≡ old.hub)
as_before old new (Ok a) same = tt
as_before old new (Err e) same = ap (λ (d : DeskState). d.hub) same

pub returns-clause-answered : goal.returns-clause-answered
returns-clause-answered g c = load_so c.args.desk.now.hub c.load.new.self.hub c.args.key.now c.args.now _ c.load.result c.load.ensures.served c.load.ensures.refused c.showing.ensures
    (loaded_stands c.args.desk.now.hub c.load.new.self.hub c.args.key.now c.load.result c.load.ensures.loads (as_before c.args.desk.now c.load.new.self c.load.result c.load.ensures.as_before))

pub returns-clause-kept : goal.returns-clause-kept
returns-clause-kept g c = loaded_keeps c.args.desk.now.hub c.load.new.self.hub c.args.key.now c.load.result c.load.ensures.served c.load.ensures.loads
    (as_before c.args.desk.now c.load.new.self c.load.result c.load.ensures.as_before)
