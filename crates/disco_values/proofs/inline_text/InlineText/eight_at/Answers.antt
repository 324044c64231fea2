use Rattle.std.proofs.Common.{ap, arith, drop, length, take, ◌-◌, ◌≤◌, ◌∙◌}
use Rattle.std.proofs.lemmas.List.{length-drop, take_all}
use Rattle.disco_values.specs.Front.{first_eight}
use Rattle.disco_values.proofs.Fronts.{padded_eight_behind}
use Rattle.disco_values.proofs.inline_text.InlineText.eight_at.Goals as goal

pub returns : goal.returns
returns c =
    let text = c.self.inside in
    let rest = drop c.args.at text.bytes in
    let all : length rest ≤ 30 - c.args.at = omega (arith, length-drop c.args.at text.bytes, c.self.told) in
    c.eight_of.ensures.eight
    ∙ ap first_eight (take_all (30 - c.args.at) rest all)
    ∙ padded_eight_behind c.args.at (take text.len text.bytes) text.bytes c.self.invariant.3
    ∙ ap (λ s. first_eight (drop c.args.at s)) c.self.view_is
