use Rattle.std.proofs.Common.{◌+◌, arith}
use Rattle.disco_press.proofs.KeptNotes.{new_kept}
use Rattle.disco_press.proofs.desk.Desk.new.Goals as goal

pub invariant_of-result : goal.invariant_of-result
invariant_of-result g c =
    let a = c.args in
    new_kept a.settings.now.run a.snapshots a.log c.new.result c.new-2.result (a.book.total + 0) c.requires.snapshots c.requires.log.0 c.requires.log.1 c.new.ensures.stands c.new.ensures.rounds (omega (arith, c.requires.book))
