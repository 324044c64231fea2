use Rattle.std.proofs.Common.{◌≡◌, ◌∙◌, rules, ap, map, take, Some, Ok, Err, inl, inr, refl}
use Rattle.std.proofs.lemmas.Result.{err_from_is_err_and}
use Rattle.httparse.specs.Spans.{span_bytes, header_bytes}
use Rattle.disco_message.specs.Heading.{closes}
use Rattle.disco_message.specs.Framing.{framed}
use Rattle.disco_message.specs.Target.{path_of}
use Rattle.disco_message.proofs.KeptHeads.{heading_at, made, may_be_read, method_token}
use Rattle.disco_message.proofs.head.Head.new.Goals as goal

pub returns-in-Ok-clause-says : goal.returns-in-Ok-clause-says
returns-in-Ok-clause-says c h is =
    let buf = c.args.buf.now in
    let line = c.args.line.now in
    let head = c.in-Ok.head in
    let fields = map (header_bytes buf) (take line.headers c.args.spans.now) in
    let path : path_of (span_bytes buf line.path) ≡ Some c.in-Some.path = search rules in
    let framing : framed line.version fields ≡ Ok c.in_ok-framing.framing = search rules in
    let shut : head.closes ≡ closes line.version fields = search rules in
    let named : c.in_ok-method.method ≡ span_bytes buf line.method = search rules in
    inl (made head (span_bytes buf line.method) line.version fields _ _ c.in-Some.path c.in_ok-framing.framing path framing
    (c.in-Ok.ensures.method ∙ named) c.in-Ok.ensures.target c.in-Ok.ensures.fields c.in-Ok.ensures.framing shut
    ∙ heading_at buf c.args.spans.now line h is)

pub returns-in-Err-clause-says : goal.returns-in-Err-clause-says
returns-in-Err-clause-says c h is =
    let buf = c.args.buf.now in
    let line = c.args.line.now in
    let fields = map (header_bytes buf) (take line.headers c.args.spans.now) in
    let path : path_of (span_bytes buf line.path) ≡ Some c.in-Some.path = search rules in
    let framing : framed line.version fields ≡ Ok c.in_ok-framing.framing = search rules in
    inr (refl, may_be_read (span_bytes buf line.method) line.version fields _ _ c.in-Some.path c.in_ok-framing.framing _ path framing (heading_at buf c.args.spans.now line h is))

pub returns-in_err-method-clause-says : goal.returns-in_err-method-clause-says
returns-in_err-method-clause-says c h is =
    let p = err_from_is_err_and c.from_residual-in_err-method.result c.from_residual-in_err-method.ensures.1 in
    let buf = c.args.buf.now in
    let line = c.args.line.now in
    let fields = map (header_bytes buf) (take line.headers c.args.spans.now) in
    let path : path_of (span_bytes buf line.path) ≡ Some c.in-Some.path = search rules in
    let framing : framed line.version fields ≡ Ok c.in_ok-framing.framing = search rules in
    elim c.in_err-method.ensures.fault [
      | inl bad ↦ absurd (c.in_err-method.ensures.invalid (search rules) (rw c.of-2.ensures (method_token buf c.args.spans.now line h is)))
      | inr none ↦ inr (p.1 ∙ ap (λ fault. Err fault) (p.2 ∙ none), may_be_read (span_bytes buf line.method) line.version fields _ _ c.in-Some.path c.in_ok-framing.framing _ path framing (heading_at buf c.args.spans.now line h is))
    ]
