use Rattle.disco_lines.proofs.Split.{stood}
use Rattle.disco_lines.proofs.words.Words.rest.Goals as goal

pub returns-in-Some : goal.returns-in-Some
returns-in-Some c = stood _ _ _ c.in-Some.is c.self.view_is
