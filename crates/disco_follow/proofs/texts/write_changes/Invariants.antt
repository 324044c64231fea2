use Rattle.std.proofs.Common.{map, take}
use Rattle.std.specs.Io.KnownBytes.{Appends}
use Rattle.disco_follow.specs.Seen.{seen_change}
use Rattle.disco_follow.specs.Texts.{changes_text}
use Rattle.disco_follow.proofs.texts.write_changes.Given as goal

abbrev pub invariant-loop-change : goal.invariant-loop-change
invariant-loop-change g l = Appends (g.W.Write.contents l.fn.out) (g.W.Write.contents l.out) (changes_text (map seen_change (take l.change-index l.changes)))
