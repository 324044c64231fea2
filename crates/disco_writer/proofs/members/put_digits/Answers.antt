use Rattle.std.proofs.Common.{◌∙◌, ◌++◌, ap, sym}
use Rattle.json.specs.Print.{escape, quoted}
use Rattle.disco_writer.proofs.AppendedTexts.{before, renamed}
use Rattle.disco_writer.proofs.Escapes.{decimal_plain}
use Rattle.disco_writer.proofs.members.put_digits.Goals as goal

pub push_plain-requires : goal.push_plain-requires
push_plain-requires c = ap escape c.format.ensures.text ∙ decimal_plain c.args.number c.ranges.number.fits ∙ sym c.format.ensures.text

pub returns : goal.returns
returns c = renamed c.push_plain.result _ _ (λ i. c.args.lead.now ++ quoted (c.format.ensures.text i)) (before c.push_plain.result _ _ c.in_ok-push.ensures c.push_plain.ensures)
