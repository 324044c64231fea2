use Rattle.std.proofs.Common.{eq-eqb, refl}
use Rattle.disco_prog.specs.Fleets.{is_last_run}
use Rattle.disco_prog.proofs.Restarts.{both, refused_restart}
use Rattle.disco_prog.proofs.fleets.carry_out.Goals as goal

pub returns-then-plan-2 : goal.returns-then-plan-2
returns-then-plan-2 g c =
    let p = c.args.plan.now in
    refused_restart _ _ _ _ _ _ _ (is_last_run p.restart p.settings.run) (both _ _ c.if-plan.true (eq-eqb _ _ c.if-plan-2.true)) c.refuse_restart.ensures refl
