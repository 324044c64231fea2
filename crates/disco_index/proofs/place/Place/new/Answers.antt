use Rattle.std.proofs.Common.{drop, ap, sym, ◌∙◌}
use Rattle.disco_index.specs.Pieces.{first_piece}
use Rattle.disco_index.proofs.FirstPiece.{piece_twice}
use Rattle.disco_index.proofs.place.Place.new.Goals as goal

pub alone-requires : goal.alone-requires
alone-requires c =
    c.requires.vip ∙ sym (piece_twice (drop c.args.start c.args.owner.now.address)) ∙ ap first_piece (sym c.requires.vip)
