use Rattle.std.proofs.Common.{◌∙◌, ◌++◌, ap, sym}
use Rattle.json.specs.Print.{escape, quoted}
use Rattle.disco_writer.proofs.AppendedTexts.{before, renamed}
use Rattle.disco_writer.proofs.Escapes.{truth_plain}
use Rattle.disco_writer.proofs.members.put_truth.Goals as goal

pub push_plain-requires : goal.push_plain-requires
push_plain-requires c = ap escape c.truth_name.ensures ∙ truth_plain c.args.flag ∙ sym c.truth_name.ensures

pub returns : goal.returns
returns c = renamed c.push_plain.result _ _ (λ i. c.args.lead.now ++ quoted (c.truth_name.ensures i)) (before c.push_plain.result _ _ c.in_ok-push.ensures c.push_plain.ensures)
