use Rattle.std.proofs.Common.{◌≡◌, ◌≤◌, ◌<◌, ◌-◌, ◌++◌, ◌⊎◌, [], List, ℕ, ap, arith, drop, length, rules, subst, sym, ◌∙◌}
use Rattle.std.proofs.lemmas.List.{take_rest}
use Rattle.disco_message.specs.ReplyText.{reply_text, reply_view}
use Rattle.disco_http.specs.Sessions.{Holds, text_of, unsent}
use Rattle.disco_http.proofs.SessionSteps.{end_of, some_of}
use Rattle.disco_http.proofs.steps.Session.text.Goals as goal

pub returns-else-from-len : goal.returns-else-from-len
returns-else-from-len g c =
    let content = g.D.Document.content in
    let self = c.args.self.now in
    let o = c.in-Writes.outgoing in
    let text = text_of content o in
    let body = c.body_of-body.result.now in
    let put = c.put-size.ensures.text in
    let front = c.put-size.new.self.text.items in
    let whole : text ≡ front ++ put.0 = subst (λ b. reply_text (reply_view content o.reply) b ≡ front ++ put.0) c.is_some.ensures put.1 in
    let size : c.put-size.result ≡ length text = subst (λ b. c.put-size.result ≡ length (reply_text (reply_view content o.reply) b)) c.is_some.ensures c.put-size.ensures.size in
    let rest : (put.0 ≡ []) ⊎ (put.0 ≡ body) = subst (λ b. (put.0 ≡ []) ⊎ (put.0 ≡ b)) (sym c.body_of-body.ensures) put.2 in
    let long : c.len.result ≡ length front = search rules in
    let far : length front ≤ length text - o.left = omega (arith, c.if-from-len.false, c.saturating_sub-from.ensures, size, long) in
    let from : c.saturating_sub.result ≡ length body - o.left = search rules in
    record {
      front = λ given asks texts out h.
          let holds = subst (λ s. Holds content self.limits self.incoming s h.rest) c.in-Writes.is h.holds in
          let ends = end_of text front put.0 body o.left whole rest holds.1 far in
          ([], ap (unsent content) c.in-Writes.is ∙ ends ∙ ap (λ n. drop n body ++ []) (sym from) ∙ ap (λ (xs : List ℕ). xs ++ []) (sym (take_rest body c.saturating_sub.result)));
      some = λ left.
          let there = some_of text front put.0 body o.left whole rest far (subst (λ s. 0 < length (unsent content s)) c.in-Writes.is left) in
          subst (λ (xs : List ℕ). 0 < length xs) (sym (take_rest body c.saturating_sub.result)) (subst (λ n. 0 < length (drop n body)) (sym from) there);
    }
