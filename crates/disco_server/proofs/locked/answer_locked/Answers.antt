use Rattle.std.proofs.Common.{List, subst, sym, ◌∙◌}
use mathlib.Core.List.{IsPrefix}
use Rattle.disco_hub.specs.Press.{Note}
use Rattle.disco_server.proofs.DeskAnswers.{some_asked}
use Rattle.disco_server.proofs.locked.answer_locked.Goals as goal

pub returns-clause-answered : goal.returns-clause-answered
returns-clause-answered g c = λ asked gives. record {
  old = c.deref_mut.result.now;
  new = c.answer_read-reply.new.desk;
  by = c.answer_read-reply.ensures.answered asked gives;
}

pub returns-clause-known : goal.returns-clause-known
returns-clause-known g c =
    let asked = some_asked c.args.called in
    let by = c.answer_read-reply.ensures.answered asked.0 asked.1 in
    subst (λ (ps : List (List Note)). IsPrefix c.args.seat.now.known ps) (sym (by.knows ∙ by.answered.noted.0)) by.knew
