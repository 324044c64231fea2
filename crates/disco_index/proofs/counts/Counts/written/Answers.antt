use Rattle.std.proofs.Common.{[]}
use Rattle.disco_index.specs.Tally.{count_in}
use Rattle.disco_index.proofs.Texts.{pieces_hash}
use Rattle.disco_index.proofs.counts.Counts.written.Goals as goal

pub returns : goal.returns
returns c =
    rw (
      ← c.self.view_is,
      c.in_ok-write_piece-5.ensures,
      c.in_ok-write_piece-4.ensures,
      c.in_ok-write_piece-3.ensures,
      c.in_ok-write_piece-2.ensures,
      c.in_ok-write_piece.ensures,
      c.new-text.ensures.bytes,
    )
    (pieces_hash [] (count_in (record { down = c.self.inside.down; out_of_service = c.self.inside.out_of_service; starting = c.self.inside.starting; unknown = c.self.inside.unknown; up = c.self.inside.up })))
