use Rattle.std.proofs.Common.{Ok, subst, sym}
use Rattle.disco_calls.specs.Calls.{writes}
use Rattle.disco_message.specs.ReplyText.{reply_view}
use Rattle.disco_registry.specs.Op.{op_view}
use Rattle.disco_registry.specs.declared.op.Op.{Op}
use Rattle.disco_server.specs.Desks.{IsAnsweredOn}
use Rattle.disco_server.specs.Replies.{KeepsAsked, shared_text}
use Rattle.disco_server.proofs.desk.write.Goals as goal

pub returns-in-Cancel-clause-answered : goal.returns-in-Cancel-clause-answered
returns-in-Cancel-clause-answered g c =
    subst (λ (op : Op). IsAnsweredOn c.args.desk.now c.cancel.new.desk c.args.seat.now c.cancel.new.seat (Ok (writes (op_view op))) c.args.now (reply_view shared_text c.cancel.result)) (sym c.in-Cancel.is) c.cancel.ensures.answered

pub returns-in-Cancel-clause-kept : goal.returns-in-Cancel-clause-kept
returns-in-Cancel-clause-kept g c = subst (λ (op : Op). KeepsAsked c.args.desk.now.hub c.cancel.new.desk.hub (Ok (writes (op_view op)))) (sym c.in-Cancel.is) c.cancel.ensures.kept
