use Rattle.std.proofs.Common.{◌∙◌, ◌++◌, ◌∷◌, [], sym}
use Rattle.json.proofs.Printed.Utf8.{IsUtf8-quoted}
use Rattle.disco_writer.proofs.AppendedTexts.{appended}
use Rattle.disco_writer.proofs.members.push_plain.Goals as goal

pub returns : goal.returns
returns c =
    appended c.push_between_quotes.result _ _ c.push_between_quotes.ensures
    (λ i. 34 ∷ ((c.as_bytes.ensures.value ∙ sym c.requires) i ++ 34 ∷ [])) (IsUtf8-quoted _ c.utf8.text)
