use Rattle.std.proofs.Common.{sym, ◌∙◌}
use Rattle.disco_places.proofs.Kept.{entries_none, entries_one}
use Rattle.disco_places.proofs.Stored.{stored}
use Rattle.disco_places.proofs.iter.Iter.new.Goals as goal

pub returns-in-Empty : goal.returns-in-Empty
returns-in-Empty g c = rw c.in-Empty.is (sym entries_none)

pub returns-in-One : goal.returns-in-One
returns-in-One g c = rw c.in-One.is (sym (entries_one c.in-One.id c.in-One.value))

pub returns-in-Many : goal.returns-in-Many
returns-in-Many g c = rw c.in-Many.is (c.iter.ensures.rest ∙ sym (stored c.in-Many.ids.entries c.iter.ensures.ordered))
