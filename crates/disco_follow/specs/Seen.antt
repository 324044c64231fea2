-- Changes as private contracts see them. Nothing here is to be believed: no public contract rests on it.
use Rattle.disco_instance.specs.Row.{row}
use Rattle.disco_follow.specs.Changes.{InstanceChange}
use Rattle.disco_follow.specs.declared.change.Change.{Change as Noted}

-- what became of an instance, and its row
abbrev pub seen_change : Noted → InstanceChange
seen_change c = (c.what, row c.rec.now)
