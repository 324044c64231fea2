use Rattle.std.proofs.Common.{◌≡◌, ℕ, List, rules, IfSome, Some}
use Rattle.std.proofs.lemmas.Result.{err_from_is_err_and}
use Rattle.disco_message.specs.Received.{received}
use Rattle.disco_http.specs.declared.parts.Part.TheVariants as part
use Rattle.disco_http.specs.Found.{HasNoExtent}
use Rattle.disco_http.specs.Parts.{PartRefused}
use Rattle.disco_http.specs.Replies.{BeginsReply, ExtentRefused, ReadsExtent, TakesReply}
use Rattle.disco_http.specs.Streams.{ahead, Came}
use Rattle.disco_http.proofs.CameBefore.{no_extent_came}
use Rattle.disco_http.proofs.Messages.{refused_body, with_body}
use Rattle.disco_http.proofs.reader.Reader.read_reply.Goals as goal

pub returns-in_err-body-clause-refused : goal.returns-in_err-body-clause-refused
returns-in_err-body-clause-refused g c =
    let p = err_from_is_err_and c.from_residual-in_err-body.result c.from_residual-in_err-body.ensures.1 in
    let limits = c.args.self.now.limits in
    let says = c.in_ok-head.head in
    let mid = ahead g.R.Source.remaining c.read_reply_head.new.self in
    let fault = c.in_err-body.field-0.0 in
    let refused : IfSome mid (ExtentRefused limits says.extent fault) = search rules in
    rw (p.1, p.2) (refused_body (λ h. received h) (BeginsReply limits) (PartRefused limits part.ReplyHead) (λ says. ExtentRefused limits says.extent) fault (ahead g.R.Source.remaining c.args.self.now) mid says c.in_ok-head.ensures.head refused)

pub returns-in_err-body-clause-broken : goal.returns-in_err-body-clause-broken
returns-in_err-body-clause-broken g c failed =
    let limits = c.args.self.now.limits in
    let says = c.in_ok-head.head in
    let mid = ahead g.R.Source.remaining c.read_reply_head.new.self in
    let left = g.R.Source.remaining c.read_body.new.self.source in
    let cut : IfSome mid (λ after. Came (HasNoExtent limits says.extent) after left) = search rules in
    no_extent_came limits (ahead g.R.Source.remaining c.args.self.now) mid left says c.in_ok-head.ensures.head cut

pub returns-clause-reply : goal.returns-clause-reply
returns-clause-reply g c =
    let limits = c.args.self.now.limits in
    let says = c.in_ok-head.head in
    let body = c.in_ok-body.body.items in
    let mid = ahead g.R.Source.remaining c.read_reply_head.new.self in
    let now = ahead g.R.Source.remaining c.read_body.new.self in
    let read : IfSome mid (λ after. (rest : List ℕ) × ReadsExtent limits says.extent after body rest × (now ≡ Some rest)) = search rules in
    with_body (λ h. received h) (BeginsReply limits) (λ after rest. ReadsExtent limits says.extent after body rest) (λ stream rest. TakesReply limits stream says body rest) (ahead g.R.Source.remaining c.args.self.now) mid now says
    (λ stream h after rest begins is reads. record { head = h; after = after; begins = begins; received = is; reads = reads }) c.in_ok-head.ensures.head read
