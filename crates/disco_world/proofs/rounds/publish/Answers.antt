use Rattle.disco_world.proofs.LevelEffects.{published_turns}
use Rattle.disco_world.proofs.rounds.publish.Goals as goal

pub returns-in-Ok-clause-turns : goal.returns-in-Ok-clause-turns
returns-in-Ok-clause-turns c = λ w levels.
    published_turns c.args.levels.now (record c.args.levels.now { hub = c.finish.new.self; published = c.replace.result; next = c.replace.new.dest }) w levels c.len.result c.in-Ok.field-0 c.in-Ok.ensures.finished c.replace.ensures.value c.len.ensures
