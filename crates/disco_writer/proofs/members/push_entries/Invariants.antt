use Rattle.std.proofs.Common.{drop}
use Rattle.disco_writer.proofs.Entries.{EntriesLeft}
use Rattle.disco_writer.proofs.members.push_entries.Given as goal

abbrev pub invariant-loop-name : goal.invariant-loop-name
invariant-loop-name l = EntriesLeft l.fn.out l.out l.later (drop l.name-index l.name-items) l.entries
