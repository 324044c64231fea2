use Rattle.std.proofs.Common.{◌∙◌}
use Rattle.disco_server.proofs.expiry.taken.Goals as goal

pub returns-clause-keys : goal.returns-clause-keys
returns-clause-keys g c = λ p stands. c.in_ok-run_of.ensures ∙ c.in_ok-keys.ensures.keys p stands
