use Rattle.std.proofs.Common.{ap, take, length, arith, ◌≡◌, ◌∙◌}
use Rattle.std.proofs.lemmas.List.{length-take}
use Rattle.disco_values.specs.Front.{front_of}
use Rattle.disco_values.proofs.Fronts.{front_made, padded_eight}
use Rattle.disco_values.proofs.inline_text.InlineText.front.Goals as goal

pub returns : goal.returns
returns c =
    let text = c.self.inside in
    let short = take text.len text.bytes in
    let len : text.len ≡ length short = omega (arith, length-take text.len text.bytes, c.self.invariant.0, c.self.invariant.1) in
    c.front_of.ensures.front ∙ front_made short _ text.len (padded_eight short text.bytes c.self.invariant.3) len ∙ ap front_of c.self.view_is
