use Rattle.std.proofs.Common.{◌++◌}
use Rattle.disco_writer.proofs.AppendedTexts.{before, renamed}
use Rattle.disco_writer.proofs.members.put_number.Goals as goal

pub returns : goal.returns
returns g c = renamed c.push-2.result _ _ (λ i. c.args.lead.now ++ c.format.ensures.text i) (before c.push-2.result _ _ c.in_ok-push.ensures c.push-2.ensures)
