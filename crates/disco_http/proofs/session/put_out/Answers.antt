use Rattle.std.proofs.Common.{◌≤◌, arith, inl, inr}
use Rattle.disco_http.specs.Sessions.{text_of}
use Rattle.disco_http.proofs.SessionSteps.{behind_is}
use Rattle.disco_http.proofs.session.put_out.Goals as goal

pub returns-in-Ok-clause-put : goal.returns-in-Ok-clause-put
returns-in-Ok-clause-put g c =
    let o = c.in-Writes.outgoing in
    let put = c.requires o c.in-Writes.is in
    let wrote = c.in-Ok.ensures.written (text_of g.D.Document.content o) (rw c.body_of.ensures put.1) put.0 in
    let all : o.left ≤ o.left = omega arith in
    let is = behind_is c.sent.new.self.state o.end (c.sent.ensures.whole o c.in-Writes.is all) (λ end. c.sent.ensures.last o end c.in-Writes.is all) in
    rw c.in-Writes.is (inl (is, wrote.0, wrote.1))

pub returns-in-Err-clause-put : goal.returns-in-Err-clause-put
returns-in-Err-clause-put g c =
    let o = c.in-Writes.outgoing in
    let put = c.requires o c.in-Writes.is in
    let wrote = c.in-Err.ensures.written (text_of g.D.Document.content o) (rw c.body_of.ensures put.1) put.0 in
    rw c.in-Writes.is (inr (c.fail.ensures.state, wrote.0, wrote.1))
