use Rattle.std.proofs.Common.{drop, ◌≡◌, ◌++◌}
use Rattle.disco_lines.specs.Answered.{AppendsUpTo}
use Rattle.disco_lines.specs.Answers.{answer_lines}
use Rattle.disco_lines.proofs.answers.write_answers.Given as goal

abbrev pub invariant-loop-reply : goal.invariant-loop-reply
invariant-loop-reply g l = record {
  told : AppendsUpTo (g.W.Sink.contents l.fn.out) (g.W.Sink.contents l.out) (answer_lines l.replies) (l.buffered.items ++ answer_lines (drop l.reply-index l.replies));
  failed : g.W.Sink.failed l.out ≡ g.W.Sink.failed l.fn.out;
}
