use Rattle.std.proofs.Common.{◌++◌, List, ℕ, IfErr, refl, rules, subst}
use Rattle.disco_cache.specs.declared.payload.Payload.{Payload}
use Rattle.disco_lines.specs.Answered.{AppendsFront}
use Rattle.disco_lines.specs.Answers.{answer_line, document_line}
use Rattle.disco_lines.proofs.Fronts.{not_yet, wanting}
use Rattle.disco_lines.proofs.answers.gather_answer.Goals as goal

pub returns-clause-front : goal.returns-clause-front
returns-clause-front g c =
    rw c.in-Doc.is (subst (λ (d : Payload). IfErr c.write_long.result (λ e. AppendsFront (g.W.Sink.contents c.args.out.now) (g.W.Sink.contents c.write_long.new.out) e (c.args.buffered.now.items ++ document_line d)))
    c.deref-2.ensures c.write_long.ensures.front)

pub returns-in_err-gather-clause-front : goal.returns-in_err-gather-clause-front
returns-in_err-gather-clause-front g c =
    let all = c.args.buffered.now.items ++ answer_line c.args.reply.now in
    wanting (g.W.Sink.contents c.args.out.now) (g.W.Sink.contents c.args.out.now) all all c.from_residual.result (not_yet _ all all refl) (search rules)

pub returns-2-clause-front : goal.returns-2-clause-front
returns-2-clause-front g c =
    subst (λ (l : List ℕ). IfErr c.write_buffered.result (λ e. AppendsFront (g.W.Sink.contents c.args.out.now) (g.W.Sink.contents c.write_buffered.new.out) e l))
    c.in_ok-gather.ensures.line c.write_buffered.ensures.front
