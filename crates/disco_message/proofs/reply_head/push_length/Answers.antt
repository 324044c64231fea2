use Rattle.std.proofs.Common.{◌++◌, codes, decimal, sym, ap, ◌∙◌, append_assoc}
use Rattle.disco_message.specs.ReplyText.{length_line}
use Rattle.disco_message.proofs.reply_head.push_length.Goals as goal

pub returns-clause-text : goal.returns-clause-text
unfolding length_line
returns-clause-text c =
    let out = c.args.out.now.items in
    let n = decimal c.args.size in
    rw (c.push_bytes-2.ensures.bytes, c.push_number.ensures.text, c.push_bytes.ensures.bytes)
    (append_assoc (out ++ codes "Content-Length: ") n (codes "\r\n") ∙ append_assoc out (codes "Content-Length: ") (n ++ codes "\r\n") ∙ ap (λ x. out ++ x) (sym (append_assoc (codes "Content-Length: ") n (codes "\r\n"))))
