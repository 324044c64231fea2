use Rattle.std.proofs.Common.{◌∙◌}
use Rattle.json.proofs.Printed.Utf8.{IsUtf8-quoted}
use Rattle.disco_writer.proofs.AppendedTexts.{appended}
use Rattle.disco_writer.proofs.members.push_quoted.Goals as goal

pub returns : goal.returns
returns c = appended c.push-2.result _ _ c.push-2.ensures (c.as_slice.ensures.value ∙ c.in_ok-text.ensures) (IsUtf8-quoted _ c.utf8.text)
