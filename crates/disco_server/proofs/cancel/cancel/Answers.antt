use Rattle.std.proofs.Common.{◌≡◌, Ok, ◌∙◌}
use Rattle.disco_calls.specs.Calls.{writes}
use Rattle.disco_core.specs.Past.{Past}
use Rattle.disco_hub.specs.State.{HubStandsFor}
use Rattle.disco_message.specs.ReplyText.{reply_view}
use Rattle.disco_press.specs.Desks.{NotesNothing}
use Rattle.disco_registry.specs.Op as op
use Rattle.disco_server.specs.Replies.{shared_text}
use Rattle.disco_server.proofs.DeskAnswers.{lacked_memory, tried_before}
use Rattle.disco_server.proofs.KeptDocuments.{kept_twice}
use Rattle.disco_server.proofs.cancel.cancel.Goals as goal

pub returns-then-lacks_memory-clause-answered : goal.returns-then-lacks_memory-clause-answered
returns-then-lacks_memory-clause-answered g c =
    let old = c.args.desk.now in
    let mid = c.cancel_once-done.new.desk in
    let once = c.cancel_once-done.ensures in
    let done = c.cancel_once-done.result in
    let lacks = c.lacks_memory.ensures c.if-lacks_memory.true in
    tried_before old mid c.cancel_again.new.desk c.args.seat.now c.cancel_once-done.new.seat c.cancel_again.new.seat (Ok (writes (op.cancel c.args.key.now))) c.args.now (reply_view shared_text c.cancel_again.result)
    (lacked_memory ((p : Past) → HubStandsFor old.hub p → HubStandsFor mid.hub p) done lacks once.stands)
    (lacked_memory (NotesNothing old mid) done lacks once.noted)
    once.rest
    (lacked_memory (c.cancel_once-done.new.seat ≡ c.args.seat.now) done lacks once.seat)
    c.cancel_again.ensures.answered

pub returns-then-lacks_memory-clause-kept : goal.returns-then-lacks_memory-clause-kept
returns-then-lacks_memory-clause-kept g c =
    let old = c.args.desk.now.hub in
    let mid = c.cancel_once-done.new.desk.hub in
    let once = c.cancel_once-done.ensures in
    let lacks = c.lacks_memory.ensures c.if-lacks_memory.true in
    kept_twice old mid c.cancel_again.new.desk.hub (op.cancel c.args.key.now) (lacked_memory ((p : Past) → HubStandsFor old p → HubStandsFor mid p) c.cancel_once-done.result lacks once.stands) once.kept c.cancel_again.ensures.kept

pub returns-then-lacks_memory-clause-rest : goal.returns-then-lacks_memory-clause-rest
returns-then-lacks_memory-clause-rest g c =
    let once = c.cancel_once-done.ensures.rest in
    let again = c.cancel_again.ensures.rest in
    record { rules = again.rules ∙ once.rules; rounds = again.rounds ∙ once.rounds; room = again.room ∙ once.room }

pub returns-clause-answered : goal.returns-clause-answered
returns-clause-answered g c = c.cancel_once-done.ensures.told (reply_view shared_text c.wrote.result) c.wrote.ensures
