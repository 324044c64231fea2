use Rattle.std.proofs.Common.{subst}
use Rattle.std.specs.Io.KnownBytes.{Appends}
use Rattle.disco_follow.proofs.tell.tell_copy.Goals as goal

pub returns-clause-told : goal.returns-clause-told
returns-clause-told g c = (
  c.in_ok-text.text.items,
  c.in_ok-text.ensures.told,
  subst (Appends (g.W.Sink.contents c.args.out.now) (g.W.Sink.contents c.write_all.new.sink)) c.as_slice.ensures.value c.in_ok-write_all.ensures.written.0,
)
