use Rattle.std.proofs.Common.{refl}
use Rattle.disco_hub.proofs.Levels.{no_key}
use Rattle.disco_hub.proofs.hub.Hub.copy_one.Goals as goal

pub returns-in_default-clause-none : goal.returns-in_default-clause-none
returns-in_default-clause-none c = (
  record { left = no_key c.args.self.now.rounds.round c.in_ok-copied.field-0 c.in_default.is c.in_ok-copied.ensures.next; there = c.in_ok-copied.ensures.open },
  refl,
)
