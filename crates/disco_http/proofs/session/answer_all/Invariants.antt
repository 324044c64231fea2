use Rattle.std.proofs.Common.{◌≡◌, ◌<◌, ◌-◌, ℕ, IsTrue, List, Option, vec_len}
use Rattle.std.specs.Io.KnownBytes.{IsAtEnd}
use Rattle.disco_http.specs.Exchanges.{SoFar}
use Rattle.disco_http.specs.declared.steps.State.TheVariants.{Looks}
use Rattle.disco_http.proofs.session.answer_all.Given as goal

abbrev pub invariant-replies : goal.invariant-replies
invariant-replies g l = record {
  so_far : (stream : List ℕ) (first : _) (before : Option (List ℕ)) → SoFar g.S.Body.Document.content g.S.Service.answers stream first before l.fn.session (g.R.Source.remaining l.fn.source) l.fn.service (g.W.Sink.contents l.fn.writer.sink)
      → SoFar g.S.Body.Document.content g.S.Service.answers stream first before l.session (g.R.Source.remaining l.source) l.service (g.W.Sink.contents l.writer.sink);
  looks : l.session.state ≡ Looks;
  few : l.session.requests < l.session.limits.requests;
  ended : IsTrue l.session.has_ended → IsAtEnd (g.R.Source.remaining l.source);
  limits : l.session.limits ≡ l.fn.session.limits;
  size : vec_len l.session.incoming.unread.buffer ≡ vec_len l.fn.session.incoming.unread.buffer;
  places : vec_len l.room.spans ≡ vec_len l.fn.room.spans;
  read : g.R.Source.failed l.source ≡ g.R.Source.failed l.fn.source;
  wrote : g.W.Sink.failed l.writer.sink ≡ g.W.Sink.failed l.fn.writer.sink;
}

abbrev pub decreases-replies : goal.decreases-replies
decreases-replies g l = l.session.limits.requests - l.session.requests
