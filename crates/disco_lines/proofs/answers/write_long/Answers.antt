use Rattle.std.proofs.Common.{◌≡◌, ◌++◌, ap, codes, refl, rules, subst, sym, ◌∙◌}
use Rattle.disco_lines.specs.Answered.{AppendsUpTo}
use Rattle.disco_lines.specs.Answers.{document_line}
use Rattle.disco_lines.specs.Steps.{document_front}
use Rattle.disco_lines.proofs.Fronts.{ended, failing, fronted, not_yet, parts, wanting}
use Rattle.disco_lines.proofs.answers.write_long.Goals as goal

pub returns-in_err-gather_front-clause-front : goal.returns-in_err-gather_front-clause-front
returns-in_err-gather_front-clause-front g c =
    let all = c.args.buffered.now.items ++ document_line c.args.payload.now in
    wanting (g.W.Sink.contents c.args.out.now) (g.W.Sink.contents c.args.out.now) all all c.from_residual.result (not_yet _ all all refl) (search rules)

pub returns-in_err-write_buffered-clause-front : goal.returns-in_err-write_buffered-clause-front
returns-in_err-write_buffered-clause-front g c =
    let out = g.W.Sink.contents c.args.out.now in
    let b = c.args.buffered.now.items in
    let p = c.args.payload.now in
    let l = b ++ document_front p in
    let rest = p.text ++ codes "\n" in
    failing out out (g.W.Sink.contents c.write_buffered.new.out) (b ++ document_line p) l rest c.from_residual-in_err-write_buffered.result c.in_err-write_buffered.field-0.0
    c.from_residual-in_err-write_buffered.ensures (not_yet out _ (l ++ rest) (parts b (document_front p) p.text (codes "\n")))
    (rw (← c.in_ok-gather_front.ensures.front) c.in_err-write_buffered.ensures.front)

pub returns-in_err-write_bytes-clause-front : goal.returns-in_err-write_bytes-clause-front
returns-in_err-write_bytes-clause-front g c =
    let out = g.W.Sink.contents c.args.out.now in
    let mid = g.W.Sink.contents c.write_buffered.new.out in
    let b = c.args.buffered.now.items in
    let p = c.args.payload.now in
    failing out mid (g.W.Sink.contents c.write_bytes.new.out) (b ++ document_line p) p.text (codes "\n") c.from_residual-in_err-write_bytes.result c.in_err-write_bytes.field-0.0
    c.from_residual-in_err-write_bytes.ensures
    (fronted out mid b (document_front p) p.text (codes "\n") (rw (← c.in_ok-gather_front.ensures.front) c.in_ok-write_buffered.ensures.written))
    (rw (← c.as_slice.ensures) c.in_err-write_bytes.ensures.front)

pub returns-in_err-push-clause-front : goal.returns-in_err-push-clause-front
returns-in_err-push-clause-front g c =
    let out = g.W.Sink.contents c.args.out.now in
    let mid = g.W.Sink.contents c.write_buffered.new.out in
    let end = g.W.Sink.contents c.write_bytes.new.out in
    let b = c.args.buffered.now.items in
    let p = c.args.payload.now in
    wanting out end (b ++ document_line p) (codes "\n") c.from_residual-in_err-push.result
    (ended out mid b (document_front p) p.text (codes "\n") end (rw (← c.in_ok-gather_front.ensures.front) c.in_ok-write_buffered.ensures.written)
    (rw (← c.as_slice.ensures) c.in_ok-write_bytes.ensures.written)) (search rules)

pub returns-clause-told : goal.returns-clause-told
returns-clause-told g c =
    let out = g.W.Sink.contents c.args.out.now in
    let mid = g.W.Sink.contents c.write_buffered.new.out in
    let end = g.W.Sink.contents c.write_bytes.new.out in
    let b = c.args.buffered.now.items in
    let p = c.args.payload.now in
    let left : codes "\n" ≡ c.push.new.self.items = sym (c.in_ok-push.ensures.items ∙ ap (λ l. l ++ codes "\n") c.in_ok-write_buffered.ensures.empty) in
    subst (AppendsUpTo out end (b ++ document_line p)) left
    (ended out mid b (document_front p) p.text (codes "\n") end (rw (← c.in_ok-gather_front.ensures.front) c.in_ok-write_buffered.ensures.written)
    (rw (← c.as_slice.ensures) c.in_ok-write_bytes.ensures.written))
