use Rattle.std.proofs.Common.{string_bytes, arith}
use Rattle.disco_values.specs.Status.{status_name}
use Rattle.disco_index.proofs.Texts.{pushed, not_pushed}
use Rattle.disco_index.proofs.pieces.write_piece.Goals as goal

pub returns-in_ok-push_str-4 : goal.returns-in_ok-push_str-4
returns-in_ok-push_str-4 c =
    rw (
      c.in_ok-push_str-4.ensures.bytes,
      c.in_ok-push_str-3.ensures.bytes,
      c.format.ensures.text,
      c.in_ok-push_str-2.ensures.bytes,
      c.in_ok-push_str.ensures.bytes,
      c.name.ensures,
    )
    (pushed (status_name c.args.status) (string_bytes c.args.text.now) c.args.count c.if-count-gt0.true c.ranges.count.fits)

pub returns-else-count-gt0 : goal.returns-else-count-gt0
returns-else-count-gt0 c = not_pushed (status_name c.args.status) (string_bytes c.args.text.now) c.args.count (omega arith)
