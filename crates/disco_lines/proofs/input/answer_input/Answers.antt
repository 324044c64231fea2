use Rattle.disco_lines.proofs.Whole.{none_bad}
use Rattle.disco_lines.proofs.input.answer_input.Goals as goal

pub returns-clause-bad_line : goal.returns-clause-bad_line
returns-clause-bad_line g c = λ input bad e line. absurd (none_bad _ _ c.in_ok-events.ensures.events input bad e line)
