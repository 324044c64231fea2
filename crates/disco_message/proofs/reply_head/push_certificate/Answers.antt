use Rattle.std.proofs.Common.{◌≡◌, ℕ, List, ◌++◌, codes, decimal, sym, append_assoc, append-nil}
use Rattle.disco_message.specs.ReplyText.{certificate_line}
use Rattle.disco_message.proofs.reply_head.push_certificate.Goals as goal

in_turn : (out name run space base version end : List ℕ) → ((((out ++ name) ++ (run ++ space)) ++ (base ++ space)) ++ version) ++ end ≡ out ++ (name ++ run ++ space ++ base ++ space ++ version ++ end)
in_turn out name run space base version end = simp append_assoc

pub returns-in-Some-clause-text : goal.returns-in-Some-clause-text
unfolding certificate_line
returns-in-Some-clause-text c =
    let cert = c.in-Some.cert in
    rw (c.in-Some.is, c.push_bytes-in-Some.ensures.bytes, c.push_number.ensures.text, c.push_spaced-in-Some.ensures.text, c.push_spaced.ensures.text, c.push_bytes.ensures.bytes)
    (in_turn c.args.out.now.items (codes "X-Discovery-Certificate: ") (decimal cert.run) (codes " ") (decimal cert.base) (decimal cert.version) (codes "\r\n"))

pub returns-in_default-clause-text : goal.returns-in_default-clause-text
unfolding certificate_line
returns-in_default-clause-text c = rw c.in_default.is (sym (append-nil c.args.out.now.items))
