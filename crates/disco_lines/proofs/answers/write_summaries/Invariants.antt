use Rattle.std.proofs.Common.{take}
use Rattle.std.specs.List.{flat_map}
use Rattle.std.specs.Io.KnownBytes.{Appends}
use Rattle.disco_lines.specs.Answers.{summary_text}
use Rattle.disco_lines.proofs.answers.write_summaries.Given as goal

abbrev pub invariant-loop-summary : goal.invariant-loop-summary
invariant-loop-summary g l = Appends (g.W.Write.contents l.fn.out) (g.W.Write.contents l.out) (flat_map summary_text (take l.summary-index l.listed))
