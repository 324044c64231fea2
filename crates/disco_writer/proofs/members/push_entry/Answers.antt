use Rattle.std.proofs.Common.{◌++◌, codes}
use Rattle.json.specs.Print.{quoted}
use Rattle.disco_writer.proofs.AppendedTexts.{before, renamed}
use Rattle.disco_writer.proofs.members.push_entry.Goals as goal

pub returns : goal.returns
returns c =
    renamed c.put_text.result _ _ (λ i. c.comma.ensures i ++ (quoted (c.as_str.ensures i) ++ (codes ":" ++ quoted c.args.text.now)))
    (before c.put_text.result _ _ c.in_ok-push.ensures (before c.put_text.result _ _ c.in_ok-push_quoted.ensures c.put_text.ensures))
