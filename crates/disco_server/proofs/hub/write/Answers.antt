use Rattle.std.proofs.Common.{ℕ, ◌≡◌, MatchResult, Ok, subst}
use Rattle.disco_calls.specs.Calls.{writes}
use Rattle.disco_message.specs.ReplyText.{reply_view}
use Rattle.disco_registry.specs.Op.{op_view}
use Rattle.disco_server.specs.Replies.{plain, refusal_answer, shared_text}
use Rattle.disco_server.proofs.HubAnswers.{answered_so, changes_by, written}
use Rattle.disco_server.proofs.KeptDocuments.{written_keeps}
use Rattle.disco_server.proofs.hub.write.Goals as goal

pub returns-clause-answered : goal.returns-clause-answered
returns-clause-answered c =
    let y = reply_view shared_text c.wrote.result in
    let shown = subst (λ (success : ℕ). MatchResult c.write.result (λ a. y ≡ plain success) (λ e. y ≡ refusal_answer e)) c.success_of-success.ensures c.wrote.ensures in
    let follows = written c.args.hub.now c.write.new.self c.args.now y (op_view c.args.op) c.write.result c.write.ensures.done c.write.ensures.refused shown in
    answered_so c.args.hub.now c.write.new.self (Ok (writes (op_view c.args.op))) c.args.now y (changes_by c.write.result) follows

pub returns-clause-kept : goal.returns-clause-kept
returns-clause-kept c = written_keeps c.args.hub.now c.write.new.self (op_view c.args.op) c.args.now c.write.result c.write.ensures.done c.write.ensures.refused
