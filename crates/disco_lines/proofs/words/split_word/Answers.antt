use Rattle.std.proofs.Common.{sym, ◌∙◌}
use Rattle.disco_lines.proofs.Split.{parted, unparted}
use Rattle.disco_lines.proofs.words.split_word.Goals as goal

pub returns-in-Some : goal.returns-in-Some
returns-in-Some c = parted c.args.line.now c.in-Some.at c.in-Some.ensures

pub returns-in-None : goal.returns-in-None
returns-in-None c = unparted c.args.line.now (sym c.in-None.is ∙ c.first_of.ensures)
