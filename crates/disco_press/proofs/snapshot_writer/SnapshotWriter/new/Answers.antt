use Rattle.std.proofs.Common.{◌∙◌, ap}
use Rattle.disco_press.specs.declared.monotone_list.PrefixWitness.{PrefixWitness}
use Rattle.disco_press.specs.Logs.{publications}
use Rattle.disco_press.specs.declared.entry.LogEntry.{LogEntry}
use Rattle.disco_press.proofs.Shows.{new_edition}
use Rattle.disco_press.proofs.snapshot_writer.SnapshotWriter.new.Goals as goal

pub new-requires-3-clause-rule : goal.new-requires-3-clause-rule
new-requires-3-clause-rule g c =
    let same = c.again.ensures in
    (ap (λ (l : PrefixWitness LogEntry). l.name) same ∙ c.requires.empty.1, new_edition (publications c.again.result.witness.items) c.new.result (ap (λ (l : PrefixWitness LogEntry). publications l.items) same ∙ c.requires.empty.0) c.new.ensures)
