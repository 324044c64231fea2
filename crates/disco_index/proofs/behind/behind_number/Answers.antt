use Rattle.std.proofs.Common.{ap, ◌∙◌}
use Rattle.disco_index.specs.Behind.{behind}
use Rattle.disco_index.proofs.behind.behind_number.Goals as goal

pub returns : goal.returns
returns c = c.behind_name.ensures ∙ ap (λ ds. behind ds c.args.text.now) c.format.ensures.text
