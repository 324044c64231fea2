use Rattle.std.proofs.Common.{map, take}
use Rattle.std.specs.Io.KnownBytes.{Appends}
use Rattle.std.specs.List.{flat_map}
use Rattle.disco_instance.specs.Row.{row}
use Rattle.disco_follow.specs.Texts.{reached_at}
use Rattle.disco_follow.proofs.texts.write_all_reached.Given as goal

abbrev pub invariant-loop-rec : goal.invariant-loop-rec
invariant-loop-rec g l = Appends (g.W.Write.contents l.fn.out) (g.W.Write.contents l.out) (flat_map reached_at (map (λ r. row r.now) (take l.rec-index l.recs)))
