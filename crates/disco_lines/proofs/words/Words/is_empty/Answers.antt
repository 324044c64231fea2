use Rattle.disco_lines.proofs.Split.{are_left}
use Rattle.disco_lines.proofs.words.Words.is_empty.Goals as goal

pub returns : goal.returns
returns c = are_left _ _ _ c.is_none.ensures c.self.view_is
