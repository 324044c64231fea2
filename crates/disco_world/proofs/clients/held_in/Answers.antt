use Rattle.std.proofs.Common.{◌∙◌}
use Rattle.disco_world.proofs.Shown.{shown_of}
use Rattle.disco_world.proofs.clients.held_in.Goals as goal

pub returns-clause-listed : goal.returns-clause-listed
returns-clause-listed c = c.from_vec.ensures ∙ c.in_ok-summarized.ensures.listed ∙ shown_of c.records.result.now c.args.copy.now c.records.ensures
