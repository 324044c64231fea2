use Rattle.std.proofs.Common.{◌≡◌, ◌-◌, IsTrue, length}
use Rattle.std.specs.Io.KnownBytes.{Keeps}
use Rattle.disco_http.specs.Streams.{ahead, unread}
use Rattle.disco_http.proofs.reader.Reader.read_reply_head.Given as goal

abbrev pub invariant-loop-line : goal.invariant-loop-line
invariant-loop-line g l = record {
  kept : Keeps (ahead g.R.Source.remaining l.fn.self) (ahead g.R.Source.remaining l.self);
  limits : l.self.limits ≡ l.fn.self.limits;
  spent : IsTrue l.self.spent;
  phase : l.self.incoming.phase ≡ l.fn.self.incoming.phase;
  failed : g.R.Source.failed l.self.source ≡ g.R.Source.failed l.fn.self.source;
}

abbrev pub decreases-loop-line : goal.decreases-loop-line
decreases-loop-line g l = l.self.limits.head - length (unread l.self)
