use Rattle.std.proofs.Common.{ap, subst, sym, ◌∙◌}
use Rattle.disco_press.specs.Desks.{DeskState, notes_of}
use Rattle.disco_press.specs.Seats.{SeatState}
use Rattle.disco_server.specs.Replies.{KeepsAsked}
use Rattle.disco_server.proofs.DeskAnswers.{learnt}
use Rattle.disco_server.proofs.desk.answer_read.Goals as goal

pub returns-clause-answered : goal.returns-clause-answered
returns-clause-answered g c = λ asked gives.
    let old = c.args.desk.now in
    let first = c.learn.ensures in
    let again = c.learn-2.ensures in
    let mid = c.learn.new.self in
    let so = rw first.desk at (c.answer_called-reply.ensures.answered asked gives) in
    record {
      valid = c.check.ensures;
      bound = first.bound;
      knew = first.knew;
      heard = first.heard;
      answered = learnt old c.answer_called-reply.new.desk c.learn-2.new.desk c.args.seat.now mid c.answer_called-reply.new.seat c.learn-2.new.self asked c.args.now _ so (ap (λ (s : SeatState). s.changes) first.knows) again.desk (ap (λ (s : SeatState). s.changes) again.knows);
      kept = subst (λ (d : DeskState). KeepsAsked old.hub d.hub asked) (sym again.desk) (rw first.desk at (c.answer_called-reply.ensures.kept asked gives));
      knows = ap (λ (s : SeatState). s.known) again.knows ∙ ap (λ (d : DeskState). d.published) (sym again.desk);
      hears = ap (λ (s : SeatState). s.heard) again.knows ∙ ap (λ (d : DeskState). notes_of d) (sym again.desk);
    }
