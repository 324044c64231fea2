use Rattle.std.proofs.Common.{inl, inr, refl, sym, ◌∙◌}
use Rattle.disco_values.specs.declared.fault.Fault.TheVariants.{OutOfMemory}
use Rattle.disco_lines.proofs.Whole.{none_bad}
use Rattle.disco_prog.proofs.WantOfMemory.{no_memory}
use Rattle.disco_prog.proofs.replay_command.replay.Goals as goal

pub returns-in-Ok-answer_input-clause-bad_line : goal.returns-in-Ok-answer_input-clause-bad_line
returns-in-Ok-answer_input-clause-bad_line g c = λ none input bad e line. absurd (none_bad _ _ c.in-Ok-answer_input.ensures.answered.1.read input bad e line)

pub returns-in-Err-answer_input-clause-failed : goal.returns-in-Err-answer_input-clause-failed
returns-in-Err-answer_input-clause-failed g c = λ none one. (
  c.in-Err-answer_input.fault,
  c.report.ensures.says,
  inr (c.in-Ok.settings, c.in-Ok.ensures.settings, c.in-Err-answer_input.ensures.fault, c.in-Err-answer_input.ensures.left),
)

pub returns-in-Err-clause-failed : goal.returns-in-Err-clause-failed
returns-in-Err-clause-failed g c = λ none one.
    let memory = no_memory _ c.in-Err.error none c.in-Err.ensures.faults in
    (OutOfMemory, c.refused.ensures.memory memory, inl (refl, c.refused.ensures.unwritten (λ zero. let both = sym memory ∙ zero in absurd (cc))))
