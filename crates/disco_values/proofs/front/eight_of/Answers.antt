use Rattle.std.proofs.Common.{ap, ◌∙◌}
use Rattle.std.specs.Int.{from_be_bytes, w64}
use Rattle.disco_values.proofs.Fronts.{are_bytes, whole_eight}
use Rattle.disco_values.proofs.front.eight_of.Goals as goal

pub returns-in-Some-clause-eight : goal.returns-in-Some-clause-eight
returns-in-Some-clause-eight c =
    let first = c.in-Some.ensures.cases in
    c.from_be_bytes.ensures ∙ ap (from_be_bytes w64) first.same ∙ whole_eight c.args.bytes.now c.requires

pub returns-in-Some-clause-bytes : goal.returns-in-Some-clause-bytes
returns-in-Some-clause-bytes c = are_bytes c.args.bytes.now c.type_inv.bytes
