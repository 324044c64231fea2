use Rattle.std.proofs.Common.{◌≡◌, ◌∙◌, rules, map, take, Some, inl, inr, refl}
use Rattle.httparse.specs.Spans.{header_bytes}
use Rattle.disco_message.specs.Heading.{closes}
use Rattle.disco_message.specs.Received.{body_extent}
use Rattle.disco_message.proofs.ReplyHeads.{received_at, made, may_be_read}
use Rattle.disco_message.proofs.received.ReceivedHead.new.Goals as goal

pub returns-in-Ok-clause-says : goal.returns-in-Ok-clause-says
returns-in-Ok-clause-says c h is =
    let buf = c.args.buf.now in
    let line = c.args.line.now in
    let head = c.in-Ok.head in
    let fields = map (header_bytes buf) (take line.headers c.args.spans.now) in
    let end : body_extent line.code line.version fields ≡ Some c.in-Some.extent = search rules in
    let shut : head.closes ≡ closes line.version fields = search rules in
    inl (made head line.code line.version fields _ c.in-Some.extent end
    c.in-Ok.ensures.status c.in-Ok.ensures.fields c.in-Ok.ensures.extent shut
    ∙ received_at buf c.args.spans.now line h is)

pub returns-in-Err-clause-says : goal.returns-in-Err-clause-says
returns-in-Err-clause-says c h is =
    let buf = c.args.buf.now in
    let line = c.args.line.now in
    let fields = map (header_bytes buf) (take line.headers c.args.spans.now) in
    let end : body_extent line.code line.version fields ≡ Some c.in-Some.extent = search rules in
    inr (refl, may_be_read line.code line.version fields _ c.in-Some.extent _ end (received_at buf c.args.spans.now line h is))
