use Rattle.std.proofs.Common.{◌≡◌, ◌++◌, drop, map}
use Rattle.disco_history.specs.Change.{Entry, change_view}
use Rattle.disco_queue.specs.Latest.{Latest}
use Rattle.disco_writer.specs.Joined.{shown_by, texts_by}
use Rattle.disco_writer.proofs.Told.{AreSoFar}
use Rattle.disco_writer.proofs.delta.pieces_by.Given as goal

abbrev told : Latest → Entry
told p = change_view p.2.now

abbrev pub invariant-loop-latest : goal.invariant-loop-latest
invariant-loop-latest l = (shown_by l.list.items ++ texts_by l.form l.texts (map told (drop l.latest-index l.changes)) ≡ texts_by l.form l.texts (map told l.changes))
    × AreSoFar l.form l.texts (map told (drop l.latest-index l.changes)) (map told l.changes)
