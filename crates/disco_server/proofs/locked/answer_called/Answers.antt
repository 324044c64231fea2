use Rattle.std.proofs.Common.{inr}
use Rattle.disco_server.proofs.DeskAnswers.{looked_before}
use Rattle.disco_server.proofs.locked.answer_called.Goals as goal

pub returns-in-None-clause-told : goal.returns-in-None-clause-told
returns-in-None-clause-told g c = λ asked gives.
    inr (looked_before c.args.seat.now c.looked.new.seat c.answer_locked.new.seat asked c.args.now _ c.looked.ensures.count c.looked.ensures.known c.looked.ensures.heard (c.answer_locked.ensures.answered asked gives))
