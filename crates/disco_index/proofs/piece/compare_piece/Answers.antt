use Rattle.std.proofs.Common.{◌<◌, ◌≤◌, length, ap, arith, ◌∙◌}
use Rattle.std.specs.Cmp.Lexicographic.{slice_cmp}
use Rattle.std.specs.Ordering.{nat_cmp}
use Rattle.disco_index.proofs.FirstPiece.{front_order}
use Rattle.disco_index.proofs.piece.compare_piece.Goals as goal

pub returns : goal.returns
returns c =
    let text = c.args.text.now in
    let other = c.args.other.now in
    let m = c.min-most.result in
    let le : m ≤ length text = omega arith in
    let long : m < length text → length other < m = λ lt. omega (arith, lt) in
    c.cmp.ensures ∙ ap (λ p. slice_cmp nat_cmp p other) c.first_piece.ensures ∙ front_order other text m le long
