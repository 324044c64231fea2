use Rattle.std.proofs.lemmas.Result.{IfOk-weaker}
use Rattle.disco_writer.proofs.Keyed.{are_theirs}
use Rattle.disco_writer.specs.Named.{named_text}
use Rattle.disco_writer.proofs.texts.Texts.entries.Goals as goal

pub returns : goal.returns
returns c = rw (← c.self.view_is) (IfOk-weaker c.entries_in.result _ _ (λ v is. are_theirs (record { places = c.self.inside.places; next = named_text c.self.inside.next }) v.items is) c.entries_in.ensures)
