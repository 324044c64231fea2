use Rattle.std.proofs.Common.{◌∙◌, ◌++◌, ap, sym}
use Rattle.json.specs.Print.{escape, quoted}
use Rattle.disco_writer.proofs.AppendedTexts.{before, renamed}
use Rattle.disco_writer.proofs.Escapes.{action_plain}
use Rattle.disco_writer.proofs.members.put_action.Goals as goal

pub push_plain-requires : goal.push_plain-requires
push_plain-requires c = ap escape c.name.ensures ∙ action_plain c.args.action ∙ sym c.name.ensures

pub returns : goal.returns
returns c = renamed c.push_plain.result _ _ (λ i. c.args.lead.now ++ quoted (c.name.ensures i)) (before c.push_plain.result _ _ c.in_ok-push.ensures c.push_plain.ensures)
