use Rattle.std.proofs.Common.{◌∙◌}
use Rattle.disco_calls.proofs.FoundCalls.{unknown}
use Rattle.disco_calls.proofs.dispatch.call_by.Goals as goal

pub returns-in_default : goal.returns-in_default
returns-in_default c = λ some.
    let method = c.as_str.ensures.value ∙ c.method.ensures in
    let other = c.in_default in
    unknown c.args.place c.args.request.now c.args.query.now (λ e. other.not-GET (method ∙ e)) (λ e. other.not-POST (method ∙ e)) (λ e. other.not-PUT (method ∙ e)) (λ e. other.not-DELETE (method ∙ e))
