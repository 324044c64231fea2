use Rattle.std.proofs.Common.{◌≡◌, arith, ap, length, length-append, rules}
use Rattle.std.specs.Io.KnownBytes.{Appends}
use Rattle.std.proofs.lemmas.Result.{err_from_is_err_and}
use Rattle.disco_http.specs.Causes.{Raises}
use Rattle.disco_http.specs.Writes.{AppendsProperFront}
use Rattle.disco_http.proofs.Written.{not_written, then_written, some_rest}
use Rattle.disco_http.proofs.writer.Writer.send.Goals as goal

pub returns-in_err-write_all-clause-written : goal.returns-in_err-write_all-clause-written
returns-in_err-write_all-clause-written g c text has size =
    let p = err_from_is_err_and c.from_residual.result c.from_residual.ensures.1 in
    let room = c.args.self.now.room.items in
    let sent : AppendsProperFront (g.W.Sink.contents c.args.self.now.sink) (g.W.Sink.contents c.write_all.new.sink) room × Raises (g.W.Sink.failed c.args.self.now.sink) (g.W.Sink.failed c.write_all.new.sink) = search rules in
    rw has.1 (not_written c.from_residual.result p.0 _ _ _ _ room has.0 p.1 sent)

pub returns-in_err-write_all-2-clause-written : goal.returns-in_err-write_all-2-clause-written
returns-in_err-write_all-2-clause-written g c text has size =
    let p = err_from_is_err_and c.from_residual-in_err-write_all-2.result c.from_residual-in_err-write_all-2.ensures.1 in
    let room = c.args.self.now.room.items in
    let body = c.args.body.now in
    let first = c.args.self.now.sink in
    let mid = c.write_all.new.sink in
    let last = c.write_all-then-len-size.new.sink in
    let sent : Appends (g.W.Sink.contents first) (g.W.Sink.contents mid) room × (g.W.Sink.failed mid ≡ g.W.Sink.failed first) = search rules in
    let behind : AppendsProperFront (g.W.Sink.contents mid) (g.W.Sink.contents last) body × Raises (g.W.Sink.failed mid) (g.W.Sink.failed last) = search rules in
    let all : has.0 ≡ body = some_rest has.0 body has.2 (omega (arith, c.if-len-size.true, c.len.ensures, size, ap length has.1, length-append room has.0)) in
    rw (has.1, all) (then_written c.from_residual-in_err-write_all-2.result _ _ _ _ _ _ room body sent (rw p.1 behind))
