use Rattle.disco_registry.specs.Op.{cancel}
use Rattle.disco_server.proofs.DeskAnswers.{counts, counts_too, notes}
use Rattle.disco_server.proofs.HubAnswers.{changes_by, stood, written}
use Rattle.disco_server.proofs.KeptDocuments.{written_keeps}
use Rattle.disco_server.proofs.cancel.cancel_key.Goals as goal

pub returns-clause-told : goal.returns-clause-told
returns-clause-told g c = λ y shown.
    let w = c.write_as.ensures in
    let old = c.args.desk.now in
    let new = c.write_as.new.self in
    record {
      changes = changes_by c.write_as.result;
      noted = notes old new c.write_as.result w.noted w.not_noted;
      counted = counts c.args.seat.now c.write_as.new.seat c.write_as.result w.count w.not_counted;
      by_seat = counts_too old new c.write_as.result w.counted w.not_noted;
      replied = written old.hub new.hub c.args.now y (cancel c.args.key) c.write_as.result w.done w.refused shown;
    }

pub returns-clause-stands : goal.returns-clause-stands
returns-clause-stands g c = stood c.args.desk.now.hub c.write_as.new.self.hub (cancel c.args.key) c.args.now c.write_as.result c.write_as.ensures.refused

pub returns-clause-kept : goal.returns-clause-kept
returns-clause-kept g c = written_keeps c.args.desk.now.hub c.write_as.new.self.hub (cancel c.args.key) c.args.now c.write_as.result c.write_as.ensures.done c.write_as.ensures.refused
