use Rattle.std.proofs.Common.{◌++◌, ap, ◌∙◌}
use Rattle.disco_history.specs.Hash.{hash_by}
use Rattle.disco_index.specs.Tally.{count_in}
use Rattle.disco_index.proofs.Texts.{pieces_hash}
use Rattle.disco_index.proofs.counts.Counts.text_into.Goals as goal

pub returns-clause-text : goal.returns-clause-text
returns-clause-text c = λ rows is.
    let same = ap (λ t. c.args.out.now.items ++ hash_by (count_in t)) (c.self.view_is ∙ is) in
    rw (
      ← same,
      c.push_piece-5.ensures.text,
      c.push_piece-4.ensures.text,
      c.push_piece-3.ensures.text,
      c.push_piece-2.ensures.text,
      c.push_piece.ensures.text,
    )
    (pieces_hash c.args.out.now.items (count_in (record { down = c.self.inside.down; out_of_service = c.self.inside.out_of_service; starting = c.self.inside.starting; unknown = c.self.inside.unknown; up = c.self.inside.up })))
