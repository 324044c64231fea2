use Rattle.std.proofs.Common.{◌≡◌, IfSome, IsTrue, length}
use Rattle.disco_http.specs.Coming.{BodyAt, fuel}
use Rattle.disco_http.specs.Streams.{ahead, unread, Came}
use Rattle.disco_http.proofs.reader.Reader.read_body.Given as goal

abbrev pub invariant-loop-body : goal.invariant-loop-body
invariant-loop-body g l = record {
  came : IfSome (ahead g.R.Source.remaining l.fn.self) (λ after.
      Came (λ given. BodyAt l.fn.self.limits l.extent given l.body.bytes.items l.body.left l.body.room (unread l.self)) after (g.R.Source.remaining l.self.source));
  limits : l.self.limits ≡ l.fn.self.limits;
  spent : IsTrue l.self.spent;
  phase : l.self.incoming.phase ≡ l.fn.self.incoming.phase;
  failed : g.R.Source.failed l.self.source ≡ g.R.Source.failed l.fn.self.source;
}

abbrev pub decreases-loop-body : goal.decreases-loop-body
decreases-loop-body g l = fuel l.self.limits.head l.body.left l.body.room (length (unread l.self))
