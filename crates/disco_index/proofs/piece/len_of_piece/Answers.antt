use Rattle.std.proofs.Common.{length, rules, tests, ap, ◌∙◌}
use Rattle.std.specs.List.{position_or_len}
use Rattle.std.specs.Option.{unwrap_or}
use Rattle.std.proofs.lemmas.Iterator.{YieldsList-from_slice}
use Rattle.std.proofs.lemmas.Iterator.Search.{position_from_yields_List}
use Rattle.disco_index.specs.Pieces.{is_comma}
use Rattle.disco_index.proofs.FirstPiece.{or_len, within}
use Rattle.disco_index.proofs.piece.len_of_piece.Goals as goal

pub returns : goal.returns
returns c =
    let text = c.args.text.now in
    c.unwrap_or.ensures
    ∙ ap (λ o. unwrap_or o (length text)) (position_from_yields_List is_comma _ _ c.position.result c.position.ensures.ran (YieldsList-from_slice text cc) (λ x b q k. search (rules, tests)))
    ∙ or_len (position_or_len is_comma text) (length text) (within text)
