use Rattle.std.proofs.Common.{rules}
use Rattle.std.proofs.lemmas.Fn.{filter_same}
use Rattle.disco_core.specs.Past.{has_run_out}
use Rattle.disco_press.proofs.writes.keep_overdue.Goals as goal

pub returns-clause-keys : goal.returns-clause-keys
returns-clause-keys c = λ p stands. filter_same _ (has_run_out p c.args.now) _ (λ x b f' k. search rules) _ _ c.retain.ensures.filtered
