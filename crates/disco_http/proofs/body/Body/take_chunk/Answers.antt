use Rattle.std.proofs.Common.{◌≡◌, ◌+◌, ◌-◌, ◌++◌, ◌∙◌, ap, arith, drop, length, rules, subst, take}
use Rattle.httparse.specs.Ascii.{crlf_bytes}
use Rattle.disco_http.specs.Unread.{bytes_of}
use Rattle.disco_http.proofs.BodyTurns.{chunk_done, chunk_refused, chunk_waits}
use Rattle.disco_http.proofs.body.Body.take_chunk.Goals as goal

pub returns-then-missing-gt0-clause-turns : goal.returns-then-missing-gt0-clause-turns
returns-then-missing-gt0-clause-turns c extent given h =
    let t = c.in_ok-missing.ensures.taken in
    let w = chunk_waits c.args.limits.now given c.args.self.now.bytes.items c.args.self.now.room extent c.args.self.now.left c.args.missing c.in_ok-missing.missing (bytes_of c.args.unread.now) t.0 (bytes_of c.take.new.unread) c.requires.left t.1 t.3 c.if-missing-gt0.true (c.in_ok-missing.ensures.all c.if-missing-gt0.true) h in
    rw (t.2, c.take.ensures.room) w

pub returns-then-not-is_line_end-clause-refused : goal.returns-then-not-is_line_end-clause-refused
returns-then-not-is_line_end-clause-refused c extent given more h =
    let t = c.in_ok-missing.ensures.taken in
    let end = c.saturating_sub-end.result in
    let size : c.len.result ≡ length c.take.new.self.bytes.items = search rules in
    let all : length t.0 + 0 ≡ c.args.missing = omega (arith, t.3, c.if-missing-gt0.false) in
    let at : end ≡ length (c.args.self.now.bytes.items ++ t.0) - 2 = c.saturating_sub-end.ensures ∙ ap (λ n. n - 2) (size ∙ ap length t.2) in
    let differs : drop end c.take.new.self.bytes.items ≡ crlf_bytes → ⊥ = search rules in
    chunk_refused c.args.limits.now given c.args.self.now.bytes.items c.args.self.now.room extent c.args.self.now.left c.args.missing end (bytes_of c.args.unread.now) t.0 (bytes_of c.take.new.unread) more c.requires.left t.1 all at (subst (λ xs. drop end xs ≡ crlf_bytes → ⊥) t.2 differs) h

pub returns-clause-turns : goal.returns-clause-turns
returns-clause-turns c extent given h =
    let t = c.in_ok-missing.ensures.taken in
    let end = c.saturating_sub-end.result in
    let size : c.len.result ≡ length c.take.new.self.bytes.items = search rules in
    let all : length t.0 + 0 ≡ c.args.missing = omega (arith, t.3, c.if-missing-gt0.false) in
    let at : end ≡ length (c.args.self.now.bytes.items ++ t.0) - 2 = c.saturating_sub-end.ensures ∙ ap (λ n. n - 2) (size ∙ ap length t.2) in
    let ends : drop end c.take.new.self.bytes.items ≡ crlf_bytes = search rules in
    let cut : c.truncate.new.self.items ≡ take end (c.args.self.now.bytes.items ++ t.0) = c.truncate.ensures.items ∙ ap (take end) t.2 in
    rw (cut, c.take.ensures.room) (chunk_done c.args.limits.now given c.args.self.now.bytes.items c.args.self.now.room extent c.args.self.now.left c.args.missing end (bytes_of c.args.unread.now) t.0 (bytes_of c.take.new.unread) c.requires.left t.1 all at (subst (λ xs. drop end xs ≡ crlf_bytes) t.2 ends) h)
