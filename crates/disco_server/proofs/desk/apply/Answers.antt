use Rattle.std.proofs.Common.{ℕ, ◌≡◌, MatchResult, subst}
use Rattle.disco_message.specs.ReplyText.{reply_view}
use Rattle.disco_registry.specs.Op.{op_view}
use Rattle.disco_server.specs.Replies.{plain, refusal_answer, shared_text}
use Rattle.disco_server.proofs.HubAnswers.{changes_by, written}
use Rattle.disco_server.proofs.DeskAnswers.{counts, counts_too, notes}
use Rattle.disco_server.proofs.KeptDocuments.{written_keeps}
use Rattle.disco_server.proofs.desk.apply.Goals as goal

pub returns-clause-answered : goal.returns-clause-answered
returns-clause-answered g c =
    let y = reply_view shared_text c.wrote.result in
    let w = c.write_as.ensures in
    let shown = subst (λ (success : ℕ). MatchResult c.write_as.result (λ a. y ≡ plain success) (λ e. y ≡ refusal_answer e)) c.success_of-success.ensures c.wrote.ensures in
    record {
      changes = changes_by c.write_as.result;
      noted = notes c.args.desk.now c.write_as.new.self c.write_as.result w.noted w.not_noted;
      counted = counts c.args.seat.now c.write_as.new.seat c.write_as.result w.count w.not_counted;
      by_seat = counts_too c.args.desk.now c.write_as.new.self c.write_as.result w.counted w.not_noted;
      replied = written c.args.desk.now.hub c.write_as.new.self.hub c.args.now y (op_view c.args.op) c.write_as.result w.done w.refused shown;
    }

pub returns-clause-kept : goal.returns-clause-kept
returns-clause-kept g c =
    let w = c.write_as.ensures in
    written_keeps c.args.desk.now.hub c.write_as.new.self.hub (op_view c.args.op) c.args.now c.write_as.result w.done w.refused
