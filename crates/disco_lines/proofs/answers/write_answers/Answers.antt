use Rattle.std.proofs.Common.{◌++◌, ◌+◌, drop, refl, rules, subst, ◌∙◌}
use Rattle.disco_lines.specs.Answered.{AppendsUpTo}
use Rattle.disco_lines.specs.Answers.{answer_line, answer_lines}
use Rattle.disco_lines.proofs.Fronts.{failing, failing_last, goes_on, not_yet, to_come, wanting}
use Rattle.disco_lines.proofs.answers.write_answers.Goals as goal

pub returns-in_err-buffered-clause-front : goal.returns-in_err-buffered-clause-front
returns-in_err-buffered-clause-front g c =
    let all = answer_lines c.args.replies.now in
    wanting (g.W.Sink.contents c.args.out.now) (g.W.Sink.contents c.args.out.now) all all c.from_residual.result (not_yet _ all all refl) (search rules)

pub returns-in_err-gather_answer-clause-front : goal.returns-in_err-gather_answer-clause-front
returns-in_err-gather_answer-clause-front g c =
    let b = g.W.Sink.contents c.args.out.now in
    let mid = g.W.Sink.contents c.loop-reply.out in
    let rs = c.args.replies.now in
    let i = c.loop-reply.reply-index in
    let gathered = c.loop-reply.buffered.items in
    let r = c.reply-item.result in
    failing b mid (g.W.Sink.contents c.gather_answer.new.out) (answer_lines rs) (gathered ++ answer_line r) (answer_lines (drop (i + 1) rs)) c.from_residual-in_err-gather_answer.result
    c.in_err-gather_answer.field-0.0 c.from_residual-in_err-gather_answer.ensures
    (subst (AppendsUpTo b mid (answer_lines rs)) (to_come answer_line rs i r gathered c.loop-reply-test.true c.reply-item.is) c.loop-reply.invariant.told) c.in_err-gather_answer.ensures.front

pub loop-reply-preserved : goal.loop-reply-preserved
loop-reply-preserved g c =
    let b = g.W.Sink.contents c.args.out.now in
    let mid = g.W.Sink.contents c.loop-reply.out in
    let rs = c.args.replies.now in
    let i = c.loop-reply.reply-index in
    let gathered = c.loop-reply.buffered.items in
    let r = c.reply-item.result in
    record {
      told = goes_on b mid (g.W.Sink.contents c.gather_answer.new.out) (answer_lines rs) (gathered ++ answer_line r) (answer_lines (drop (i + 1) rs)) c.gather_answer.new.buffered.items
          (subst (AppendsUpTo b mid (answer_lines rs)) (to_come answer_line rs i r gathered c.loop-reply-test.true c.reply-item.is) c.loop-reply.invariant.told) c.in_ok-gather_answer.ensures.told;
      failed = c.in_ok-gather_answer.ensures.none_failed ∙ c.loop-reply.invariant.failed;
    }

pub returns-clause-front : goal.returns-clause-front
returns-clause-front g c =
    failing_last (g.W.Sink.contents c.args.out.now) (g.W.Sink.contents c.loop-reply.out) (g.W.Sink.contents c.write_buffered.new.out) (answer_lines c.args.replies.now) c.loop-reply.buffered.items
    (answer_lines (drop c.loop-reply.reply-index c.args.replies.now)) c.write_buffered.result c.loop-reply.invariant.told c.write_buffered.ensures.front
