use Rattle.std.proofs.Common.{◌≡◌, take}
use Rattle.disco_hub.specs.Rounds.{kept_keys}
use Rattle.disco_hub.specs.Stored.{AreInOrder, key_pairs, seen_keys}
use Rattle.disco_hub.proofs.keys.of_edition.Given as goal

abbrev pub invariant-loop-one : goal.invariant-loop-one
invariant-loop-one l = AreInOrder l.keys.items × (seen_keys l.keys.items ≡ kept_keys (key_pairs (take l.one-index l.copied)))
