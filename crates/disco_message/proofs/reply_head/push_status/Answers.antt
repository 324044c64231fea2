use Rattle.std.proofs.Common.{◌≡◌, ℕ, List, ◌++◌, codes, append_assoc}
use Rattle.http.specs.StatusCode.{code_digits}
use Rattle.disco_message.specs.StatusLine.{phrase, status_line}
use Rattle.disco_message.proofs.reply_head.push_status.Goals as goal

in_turn : (out version digits words end : List ℕ) → ((((out ++ version) ++ digits) ++ codes " ") ++ words) ++ end ≡ out ++ (version ++ digits ++ codes " " ++ words ++ end)
in_turn out version digits words end = simp append_assoc

pub returns-clause-text : goal.returns-clause-text
unfolding status_line
returns-clause-text c =
    rw (c.push_bytes-5.ensures.bytes, c.push_bytes-4.ensures.bytes, c.as_bytes-2.ensures.value, c.phrase.ensures.text, c.push_bytes-3.ensures.bytes, c.push_bytes-2.ensures.bytes, c.as_bytes.ensures.value, c.as_str.ensures, c.push_bytes.ensures.bytes)
    (in_turn c.args.out.now.items (codes "HTTP/1.1 ") (code_digits c.args.status) (phrase c.args.status) (codes "\r\n"))
