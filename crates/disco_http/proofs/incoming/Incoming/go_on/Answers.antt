use Rattle.std.proofs.Common.{◌++◌, inr, refl}
use Rattle.std.proofs.lemmas.Result.{err_from_is_err_and}
use Rattle.disco_message.specs.declared.received.Extent.TheVariants.{Framed}
use Rattle.disco_http.specs.Unread.{bytes_of}
use Rattle.disco_http.proofs.CameBefore.{head_and}
use Rattle.disco_http.proofs.MoreBytes.{body_more, head_more}
use Rattle.disco_http.proofs.incoming.Incoming.go_on.Goals as goal

pub returns-in_err-advance-clause-refused : goal.returns-in_err-advance-clause-refused
returns-in_err-advance-clause-refused c =
    let p = err_from_is_err_and c.from_residual.result c.from_residual.ensures.1 in
    let limits = c.args.limits.now in
    let says = c.args.head in
    rw (p.1, p.2) (λ given more k. inr (k.1.0, k.0 ++ more, head_more limits given k.1.0 k.0 more k.1.1, inr (says, k.1.2, c.in_err-advance.ensures.refused (Framed says.framing) k.0 more k.2)))

pub returns-then-branch-clause-whole : goal.returns-then-branch-clause-whole
returns-then-branch-clause-whole c given more k =
    let limits = c.args.limits.now in
    let says = c.args.head in
    let reads = rw c.if-branch.true at (c.in_ok-advance.ensures.turns (Framed says.framing) k.0 k.2) in
    rw c.new.ensures
    (record {
      head = k.1.0;
      after = k.0 ++ more;
      begins = head_more limits given k.1.0 k.0 more k.1.1;
      says = says;
      heading = k.1.2;
      body = body_more limits says.framing k.0 c.advance.new.self.bytes.items (bytes_of c.advance.new.unread) more reads;
      asks = refl;
    })

pub returns-clause-waits : goal.returns-clause-waits
returns-clause-waits c given k =
    let limits = c.args.limits.now in
    let says = c.args.head in
    let turned = rw c.if-branch.false at (c.in_ok-advance.ensures.turns (Framed says.framing) k.0 k.2) in
    ((k.0, k.1, turned.0), head_and limits given k.0 says k.1 turned.1.0, inr (k.1.0, k.0, k.1.1, inr (says, k.1.2, turned.1.1)))
