use Rattle.std.proofs.Common.{◌≡◌, ◌++◌, [], append-nil, inl, inr, length, option_map, refl, rules, sym}
use Rattle.disco_message.specs.ReplyText.{reply_body, reply_head}
use Rattle.disco_http.proofs.replies.put.Goals as goal
use Rattle.disco_http.proofs.replies.put.Goals.{then-body-le-SMALL_BODY, else-body-le-SMALL_BODY}

pub returns-clause-text : goal.returns-clause-text
returns-clause-text g c =
    let reply = c.args.reply.now in
    let document = option_map g.D.Document.content reply.document in
    let body = reply_body reply.status document in
    let head = reply_head reply.status reply.allow (option_map length document) reply.cert c.args.last in
    let put : c.push_head.new.out.items ≡ head = search rules in
    elim c.if-body-le-SMALL_BODY.branch [
      | then-body-le-SMALL_BODY w ↦
          let all : w.push_bytes.new.out.items ≡ head ++ body = search rules in
          rw (w.text-is, all) ([], sym (append-nil (head ++ body)), inl refl)
      | else-body-le-SMALL_BODY w ↦ rw (w.text-is, put) (body, refl, inr refl)
    ]
