use Rattle.std.proofs.Common.{◌≡◌, ℕ, List, IsTrue, vec_len}
use Rattle.std.specs.Io.KnownBytes.{Consumes, IsAtEnd}
use Rattle.disco_http.specs.Exchanges.{GoesOn, to_come}
use Rattle.disco_http.specs.declared.steps.State.TheVariants.{Looks}
use Rattle.disco_http.proofs.session.next_request.Given as goal

abbrev pub invariant-reads : goal.invariant-reads
invariant-reads g l = record {
  came : (came : List ℕ) × Consumes (g.R.Source.remaining l.fn.source) (g.R.Source.remaining l.source) came × GoesOn g.D.Document.content l.fn.session l.session came;
  looks : l.session.state ≡ Looks;
  ended : IsTrue l.session.has_ended → IsAtEnd (g.R.Source.remaining l.source);
  limits : l.session.limits ≡ l.fn.session.limits;
  requests : l.session.requests ≡ l.fn.session.requests;
  size : vec_len l.session.incoming.unread.buffer ≡ vec_len l.fn.session.incoming.unread.buffer;
  places : vec_len l.room.spans ≡ vec_len l.fn.room.spans;
  failed : g.R.Source.failed l.source ≡ g.R.Source.failed l.fn.source;
}

abbrev pub decreases-reads : goal.decreases-reads
decreases-reads g l = to_come l.session
