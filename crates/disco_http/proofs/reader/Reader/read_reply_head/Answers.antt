use Rattle.std.proofs.Common.{◌≤◌, arith, inl, length, rules, sym}
use Rattle.std.proofs.KnownBytes.{Keeps-trans}
use Rattle.std.proofs.lemmas.Result.{err_from_is_err_and}
use Rattle.std.specs.Io.KnownBytes.{prepend_known}
use Rattle.httparse.specs.Spans.{IsResponseOf, IsResponseWithin}
use Rattle.disco_message.specs.Received.{received}
use Rattle.disco_http.specs.declared.parts.Part.TheVariants as part
use Rattle.disco_http.specs.Parts.{HasNo, PartRefused}
use Rattle.disco_http.specs.Replies.{BeginsReply, ExtentRefused, HasNoReply, ReplyRefused}
use Rattle.disco_http.specs.Streams.{ahead, unread}
use Rattle.disco_http.specs.Unread.{bytes_of}
use Rattle.disco_http.proofs.CameBefore.{came}
use Rattle.disco_http.proofs.Heads.{reply_here}
use Rattle.disco_http.proofs.Known.{ahead-same}
use Rattle.disco_http.proofs.Messages.{head_read, head_refused, no_room}
use Rattle.disco_http.proofs.ReadOn.{of_ahead}
use Rattle.disco_http.proofs.Refusals.{by_front}
use Rattle.disco_http.proofs.Slices.{bytes_fit}
use Rattle.disco_http.proofs.reader.Reader.read_reply_head.Goals as goal

pub returns-in_err-line-clause-refused : goal.returns-in_err-line-clause-refused
returns-in_err-line-clause-refused g c =
    let p = err_from_is_err_and c.from_residual.result c.from_residual.ensures.1 in
    let limits = c.args.self.now.limits in
    let it = c.loop-line in
    let refused = rw it.invariant.limits at c.in_err-line.ensures.refused in
    rw (p.1, p.2) (of_ahead (unread it.self) (ahead g.R.Source.remaining c.args.self.now) (g.R.Source.remaining it.self.source) (ReplyRefused limits c.in_err-line.field-0.0) it.invariant.kept (λ more. inl (by_front limits part.ReplyHead _ _ (refused more))))

pub returns-in_err-head-in-Some-ReplyHead-clause-refused : goal.returns-in_err-head-in-Some-ReplyHead-clause-refused
returns-in_err-head-in-Some-ReplyHead-clause-refused g c =
    let p = err_from_is_err_and c.from_residual-in_err-head-in-Some-ReplyHead.result c.from_residual-in_err-head-in-Some-ReplyHead.ensures.1 in
    let it = c.loop-line in
    let limits = it.self.limits in
    let u = unread it.self in
    let spans = c.find.new.spans.items in
    let line = c.in-Some-ReplyHead.line in
    let within : IsResponseWithin u spans line = search rules in
    let is : IsResponseOf u spans line = search rules in
    let small : length u ≤ limits.head = omega (arith, bytes_fit it.self.incoming.unread, it.self.size) in
    let few : length spans ≤ limits.fields = omega (arith, c.find.ensures.places, it.self.places) in
    let here = reply_here limits u spans line is.0 small few within.section.len_fits is.1 in
    let told = c.in_err-head-in-Some-ReplyHead.ensures.says is.0 (search rules) in
    rw (p.1, p.2, sym it.invariant.limits) (head_refused (λ h. received h) (BeginsReply limits) (PartRefused limits part.ReplyHead) (λ says. ExtentRefused limits says.extent) (λ says. no_room limits says.extent) c.in_err-head-in-Some-ReplyHead.field-0.0 (ahead g.R.Source.remaining c.args.self.now) (g.R.Source.remaining it.self.source) u line.len is.0 here told it.invariant.kept)

pub returns-in-Some-ReplyHead-clause-head : goal.returns-in-Some-ReplyHead-clause-head
returns-in-Some-ReplyHead-clause-head g c =
    let it = c.loop-line in
    let limits = it.self.limits in
    let u = unread it.self in
    let spans = c.find.new.spans.items in
    let line = c.in-Some-ReplyHead.line in
    let within : IsResponseWithin u spans line = search rules in
    let is : IsResponseOf u spans line = search rules in
    let small : length u ≤ limits.head = omega (arith, bytes_fit it.self.incoming.unread, it.self.size) in
    let few : length spans ≤ limits.fields = omega (arith, c.find.ensures.places, it.self.places) in
    let here = reply_here limits u spans line is.0 small few within.section.len_fits is.1 in
    let told = c.in_ok-head-in-Some-ReplyHead.ensures.says is.0 (search rules) in
    rw (sym it.invariant.limits) (head_read (λ h. received h) (BeginsReply limits) (ahead g.R.Source.remaining c.args.self.now) (g.R.Source.remaining it.self.source) u (bytes_of c.consume.new.self) line.len is.0 c.in_ok-head-in-Some-ReplyHead.head here told it.invariant.kept c.consume.ensures.rest)

pub returns-in_err-more-clause-broken : goal.returns-in_err-more-clause-broken
returns-in_err-more-clause-broken g c failed =
    let it = c.loop-line in
    let limits = c.args.self.now.limits in
    let first = ahead g.R.Source.remaining c.args.self.now in
    let u = unread it.self in
    let left = g.R.Source.remaining c.more.new.self.source in
    let none : HasNo part.ReplyHead u = search rules in
    let kept = Keeps-trans first (ahead g.R.Source.remaining it.self) (prepend_known u left) it.invariant.kept (ahead-same u (g.R.Source.remaining it.self.source) left c.in_err-more.ensures.broken.1) in
    came (HasNoReply limits) first u left kept (λ says body rest takes. absurd (none takes.head takes.after takes.begins.reads))
