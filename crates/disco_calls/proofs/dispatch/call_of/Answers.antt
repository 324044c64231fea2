use Rattle.std.proofs.Common.{Some, None, option_map, sym, ap, ◌∙◌}
use Rattle.disco_calls.specs.Places.{place_view}
use Rattle.disco_calls.specs.Query.{path_in, query_in}
use Rattle.disco_calls.proofs.FoundCalls.{no_text, text}
use Rattle.disco_calls.proofs.dispatch.call_of.Goals as goal

pub returns-in_default : goal.returns-in_default
returns-in_default c = λ some. no_text c.args.request.now c.split_target.result.0.now (c.split_target.ensures.path ∙ ap path_in c.target.ensures) c.in_default.ensures.cases.0

pub returns-in-Some : goal.returns-in-Some
returns-in-Some c =
    let utf8 = c.in-Ok.ensures.cases in
    let found = ap (option_map place_view) (sym c.in-Some.is) ∙ c.find.ensures in
    let asked = text c.args.request.now c.in-Ok.path.now c.split_target.result.1.now (Some (place_view c.in-Some.place)) (utf8.0 ∙ (c.split_target.ensures.path ∙ ap path_in c.target.ensures)) (c.split_target.ensures.query ∙ ap query_in c.target.ensures) (rw utf8.0 utf8.1) found in
    rw asked c.call_at.ensures

pub returns-in-None : goal.returns-in-None
returns-in-None c = λ some.
    let utf8 = c.in-Ok.ensures.cases in
    let found = ap (option_map place_view) (sym c.in-None.is) ∙ c.find.ensures in
    text c.args.request.now c.in-Ok.path.now c.split_target.result.1.now None (utf8.0 ∙ (c.split_target.ensures.path ∙ ap path_in c.target.ensures)) (c.split_target.ensures.query ∙ ap query_in c.target.ensures) (rw utf8.0 utf8.1) found
