use Rattle.std.proofs.Common.{length, ap, arith}
use Rattle.disco_values.specs.Status.{status_name}
use Rattle.disco_index.proofs.Texts.{pushed, not_pushed}
use Rattle.disco_index.proofs.pieces.push_piece.Goals as goal

pub push_text-requires-then-count-gt0 : goal.push_text-requires-then-count-gt0
push_text-requires-then-count-gt0 c = omega (arith, c.format.ensures.fits, ap length c.name.ensures)

pub push_reserved-requires-then-count-gt0 : goal.push_reserved-requires-then-count-gt0
push_reserved-requires-then-count-gt0 c = omega (arith, c.format.ensures.fits, ap length c.name.ensures)

pub returns-then-count-gt0-clause-text : goal.returns-then-count-gt0-clause-text
returns-then-count-gt0-clause-text c =
    rw (c.push_reserved-then-count-gt0.ensures.items, c.push_text-then-count-gt0.ensures.text, c.format.ensures.text, c.push_reserved.ensures.items, c.push_text.ensures.text, c.name.ensures)
    (pushed (status_name c.args.status) c.args.out.now.items c.args.count c.if-count-gt0.true c.ranges.count.fits)

pub returns-then-count-gt0-clause-len : goal.returns-then-count-gt0-clause-len
returns-then-count-gt0-clause-len c = omega (arith, c.format.ensures.fits, ap length c.name.ensures)

pub returns-else-count-gt0-clause-text : goal.returns-else-count-gt0-clause-text
returns-else-count-gt0-clause-text c = not_pushed (status_name c.args.status) c.args.out.now.items c.args.count (omega arith)
