use Rattle.std.proofs.Common.{subst}
use Rattle.disco_press.specs.Desks.{DeskState, IsValid}
use Rattle.disco_press.proofs.desk.Desk.check.Goals as goal

pub returns : goal.returns
returns g c =
    let k = c.self.invariant in
    subst (λ (d : DeskState). IsValid d) c.self.view_is (record { past = k.past; stands = k.levels.stands; pressed = k.levels.pressed; version = k.version })
