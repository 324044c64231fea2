-- The stored queue, as plain data. Nothing here is to be believed: it is the view and the invariant of a type.
use Rattle.disco_history.specs.Change.{Entry, change_view}
use Rattle.disco_queue.specs.Timed.{Timed}
use Rattle.disco_queue.specs.declared.kept.Kept.{Kept}

abbrev pub change_of : Kept → Entry
change_of k = change_view k.change

abbrev pub timed : Kept → Timed
timed k = (change_view k.change, k.moment)
