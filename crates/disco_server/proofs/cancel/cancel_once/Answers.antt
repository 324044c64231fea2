use Rattle.std.proofs.Common.{Ok, subst}
use Rattle.disco_values.specs.declared.key.Key.{Key}
use Rattle.disco_calls.specs.Calls.{writes}
use Rattle.disco_registry.specs.Op.{cancel}
use Rattle.disco_server.specs.Desks.{IsAnsweredOn}
use Rattle.disco_server.specs.Replies.{KeepsAsked}
use Rattle.disco_server.proofs.DeskAnswers.{no_memory}
use Rattle.disco_server.proofs.KeptDocuments.{still_kept}
use Rattle.disco_server.proofs.cancel.cancel_once.Goals as goal

pub returns-in-Ok-clause-told : goal.returns-in-Ok-clause-told
returns-in-Ok-clause-told g c = λ y shown.
    subst (λ (k : Key). IsAnsweredOn c.args.desk.now c.cancel_key.new.desk c.args.seat.now c.cancel_key.new.seat (Ok (writes (cancel k))) c.args.now y) c.in-Ok.ensures.cases (c.cancel_key.ensures.told y shown)

pub returns-in-Err-clause-told : goal.returns-in-Err-clause-told
returns-in-Err-clause-told g c = λ y shown. no_memory c.args.desk.now c.args.seat.now (Ok (writes (cancel c.args.key.now))) c.args.now y shown

pub returns-in-Ok-clause-kept : goal.returns-in-Ok-clause-kept
returns-in-Ok-clause-kept g c =
    subst (λ (k : Key). KeepsAsked c.args.desk.now.hub c.cancel_key.new.desk.hub (Ok (writes (cancel k)))) c.in-Ok.ensures.cases c.cancel_key.ensures.kept

pub returns-in-Err-clause-kept : goal.returns-in-Err-clause-kept
returns-in-Err-clause-kept g c = still_kept c.args.desk.now.hub (Ok (writes (cancel c.args.key.now)))
