use Rattle.std.proofs.Common.{refl}
use Rattle.disco_world.proofs.LevelEffects.{begun_turns}
use Rattle.disco_world.proofs.rounds.begin.Goals as goal

pub returns-in-Ok-clause-turns : goal.returns-in-Ok-clause-turns
returns-in-Ok-clause-turns c = λ w levels. begun_turns c.args.levels.now (record c.args.levels.now { hub = c.begin.new.self; next = c.new.result }) w levels c.in-Ok.keys c.in-Ok.ensures.begun refl c.new.ensures
