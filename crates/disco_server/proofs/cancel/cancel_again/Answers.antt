use Rattle.std.proofs.Common.{Ok, subst, sym}
use Rattle.disco_calls.specs.Calls.{writes}
use Rattle.disco_hub.specs.Transitions.{KeepsRest}
use Rattle.disco_message.specs.ReplyText.{reply_view}
use Rattle.disco_press.specs.Desks.{DeskState}
use Rattle.disco_registry.specs.Op.{cancel}
use Rattle.disco_server.specs.Desks.{IsAnsweredOn}
use Rattle.disco_server.specs.Replies.{KeepsAsked, shared_text}
use Rattle.disco_server.proofs.cancel.cancel_again.Goals as goal

pub returns-clause-answered : goal.returns-clause-answered
returns-clause-answered g c =
    let y = reply_view shared_text c.wrote.result in
    subst (λ (d : DeskState). IsAnsweredOn c.args.desk.now d c.args.seat.now c.cancel_once-done.new.seat (Ok (writes (cancel c.args.key.now))) c.args.now y) (sym c.take_reserve_again.ensures.same)
    (rw c.give_up_reserve-some.ensures.same at (c.cancel_once-done.ensures.told y c.wrote.ensures))

pub returns-clause-kept : goal.returns-clause-kept
returns-clause-kept g c =
    subst (λ (d : DeskState). KeepsAsked c.args.desk.now.hub d.hub (Ok (writes (cancel c.args.key.now)))) (sym c.take_reserve_again.ensures.same)
    (rw c.give_up_reserve-some.ensures.same at c.cancel_once-done.ensures.kept)

pub returns-clause-rest : goal.returns-clause-rest
returns-clause-rest g c =
    subst (λ (d : DeskState). KeepsRest c.args.desk.now.hub d.hub) (sym c.take_reserve_again.ensures.same) (rw c.give_up_reserve-some.ensures.same at c.cancel_once-done.ensures.rest)
