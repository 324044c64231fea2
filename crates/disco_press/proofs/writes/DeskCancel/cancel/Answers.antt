use Rattle.disco_hub.specs.Cancelling.{CancelsNone}
use Rattle.disco_hub.proofs.Cancels.{one_refused}
use Rattle.disco_hub.proofs.Rests.{of_error}
use Rattle.disco_press.proofs.Cancels.{cancels, noted_more, one_gone}
use Rattle.disco_press.proofs.writes.DeskCancel.cancel.Goals as goal

pub returns-in_err-write-clause-refused : goal.returns-in_err-write-clause-refused
returns-in_err-write-clause-refused g c =
    let old = c.args.self.now.hub in
    let new = c.write.new.self.hub in
    let e = c.in_err-write.field-0.0 in
    of_error (CancelsNone old new c.args.now c.args.key.now) c.from_residual-in_err-write.result e c.from_residual-in_err-write.ensures
    (one_refused old new c.args.now c.args.key.now c.in_ok-key.key e c.in_ok-key.ensures.cases c.in_err-write.ensures.refused)

pub returns-clause-done : goal.returns-clause-done
returns-clause-done g c =
    let old = c.args.self.now in
    cancels old c.write.new.self c.args.now c.args.key.now
    (one_gone old c.write.new.self c.args.now c.args.key.now c.in_ok-key.key c.in_ok-write.field-0 c.in_ok-key.ensures.cases c.in_ok-write.ensures.done c.in_ok-write.ensures.noted c.in_ok-write.ensures.counted)

pub returns-clause-noted : goal.returns-clause-noted
returns-clause-noted g c = record {
  more = λ old ks i is did so_far.
      let mid = c.args.self.now in
      let new = c.write.new.self in
      let k = c.args.key.now in
      noted_more old mid new c.args.now ks i k is did so_far
      (one_gone mid new c.args.now k c.in_ok-key.key c.in_ok-write.field-0 c.in_ok-key.ensures.cases c.in_ok-write.ensures.done c.in_ok-write.ensures.noted c.in_ok-write.ensures.counted);
}
