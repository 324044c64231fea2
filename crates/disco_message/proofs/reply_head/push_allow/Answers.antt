use Rattle.std.proofs.Common.{◌++◌, codes, sym, ap, ◌∙◌, append_assoc, append-nil}
use Rattle.disco_message.specs.ReplyText.{allow_line}
use Rattle.disco_message.specs.StatusLine.{allowed}
use Rattle.disco_message.proofs.reply_head.push_allow.Goals as goal

pub returns-in-Some-clause-text : goal.returns-in-Some-clause-text
unfolding allow_line
returns-in-Some-clause-text c =
    rw (c.in-Some.is, c.push_bytes-in-Some-2.ensures.bytes, c.push_bytes-in-Some.ensures.bytes, c.text.ensures.text, c.push_bytes.ensures.bytes)
    (append_assoc (c.args.out.now.items ++ codes "Allow: ") (allowed c.in-Some.methods) (codes "\r\n") ∙ append_assoc c.args.out.now.items (codes "Allow: ") (allowed c.in-Some.methods ++ codes "\r\n") ∙ ap (λ x. c.args.out.now.items ++ x) (sym (append_assoc (codes "Allow: ") (allowed c.in-Some.methods) (codes "\r\n"))))

pub returns-in_default-clause-text : goal.returns-in_default-clause-text
unfolding allow_line
returns-in_default-clause-text c = rw c.in_default.is (sym (append-nil c.args.out.now.items))
