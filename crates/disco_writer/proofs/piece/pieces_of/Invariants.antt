use Rattle.std.proofs.Common.{◌≡◌, ◌++◌, drop}
use Rattle.disco_writer.specs.Joined.{shown_by, texts_by}
use Rattle.disco_wire.specs.Rows.{held_entries}
use Rattle.disco_writer.proofs.Told.{AreSoFar}
use Rattle.disco_writer.proofs.piece.pieces_of.Given as goal

abbrev pub invariant-loop-one : goal.invariant-loop-one
invariant-loop-one l = (shown_by l.list.items ++ texts_by l.form l.texts (held_entries (drop l.one-index l.held)) ≡ texts_by l.form l.texts (held_entries l.held))
    × AreSoFar l.form l.texts (held_entries (drop l.one-index l.held)) (held_entries l.held)
