use Rattle.std.proofs.Common.{◌≡◌, ◌≤◌, List, ℕ, length, vec_len}
use Rattle.disco_message.specs.declared.received.Extent.{Extent}
use Rattle.disco_http.specs.Coming.{BodyAt, effort, fuel}
use Rattle.disco_http.specs.Unread.{bytes_of}
use Rattle.disco_http.proofs.body.Body.advance.Given as goal

abbrev pub invariant-loop : goal.invariant-loop
invariant-loop l = record {
  at : (extent : Extent) (given : List ℕ) → BodyAt l.limits extent given l.fn.self.bytes.items l.fn.self.left l.fn.self.room (bytes_of l.fn.unread)
      → BodyAt l.limits extent given l.self.bytes.items l.self.left l.self.room (bytes_of l.unread);
  less : fuel l.limits.head l.self.left l.self.room (length (bytes_of l.unread)) ≤ fuel l.limits.head l.fn.self.left l.fn.self.room (length (bytes_of l.fn.unread));
  size : vec_len l.unread.buffer ≡ vec_len l.fn.unread.buffer;
  places : vec_len l.spans ≡ vec_len l.fn.spans;
}

abbrev pub decreases-loop : goal.decreases-loop
decreases-loop l = effort l.self.left (bytes_of l.unread)
