use Rattle.std.proofs.Common.{◌++◌}
use Rattle.json.specs.Print.{quoted}
use Rattle.disco_writer.proofs.AppendedTexts.{before, renamed}
use Rattle.disco_writer.proofs.members.put_text.Goals as goal

pub returns : goal.returns
returns c = renamed c.push_quoted.result _ _ (λ i. c.args.lead.now ++ quoted (c.as_str.ensures i)) (before c.push_quoted.result _ _ c.in_ok-push.ensures c.push_quoted.ensures)
