use Rattle.std.proofs.Common.{rules}
use Rattle.disco_message.specs.ReplyText.{reply_text, reply_view}
use Rattle.disco_http.specs.Writes.{WritesBytes}
use Rattle.disco_http.proofs.replies.write_reply.Goals as goal

pub returns : goal.returns
returns g c =
    let text = reply_text (reply_view g.D.Document.content c.args.reply.now) c.args.last in
    let put = c.put-size.ensures.text in
    let first = c.args.writer.now.sink in
    let new = c.send-result.new.self.sink in
    let all : WritesBytes (g.W.Sink.contents first) (g.W.Sink.contents new) (g.W.Sink.failed first) (g.W.Sink.failed new) c.send-result.result text =
    c.send-result.ensures.written text (rw c.body_of.ensures put) c.put-size.ensures.size in
    search rules
