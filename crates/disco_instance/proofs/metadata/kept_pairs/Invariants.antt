use Rattle.std.proofs.Common.{◌≡◌, ◌++◌}
use Rattle.serde_json.specs.View.{members_view}
use Rattle.disco_instance.specs.Metadata.{kept_entries}
use Rattle.disco_instance.proofs.metadata.kept_pairs.Given as goal

abbrev pub invariant-loop-name : goal.invariant-loop-name
invariant-loop-name l = l.kept.items ++ kept_entries (members_view l.name-iterator) ≡ kept_entries (members_view l.members.entries)
