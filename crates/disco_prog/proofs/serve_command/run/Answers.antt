use Rattle.std.proofs.Common.{rules}
use Rattle.disco_prog.proofs.serve_command.run.Goals as goal

pub returns-in-Ok-clause-said : goal.returns-in-Ok-clause-said
returns-in-Ok-clause-said g c = search rules
