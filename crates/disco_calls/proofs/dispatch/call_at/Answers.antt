use Rattle.std.proofs.Common.{◌≡◌, ◌∙◌, rules, sym, true, Some}
use Rattle.disco_calls.specs.Decoding.{decoded}
use Rattle.disco_calls.specs.Methods.{allow_of, lists_method}
use Rattle.disco_calls.specs.Places.{place_view}
use Rattle.disco_calls.proofs.FoundCalls.{same_methods}
use Rattle.disco_calls.proofs.dispatch.call_at.Goals as goal

pub returns-in-Some : goal.returns-in-Some
returns-in-Some c =
    let place = place_view c.args.place in
    let allow : c.allow_of-allow.result ≡ allow_of place = c.allow_of-allow.ensures ∙ sym (same_methods c.args.place) in
    let method : c.as_str.result.now ≡ c.args.request.now.method = c.as_str.ensures.value ∙ c.method.ensures in
    let listed : lists_method c.allow_of-allow.result c.as_str.result.now ≡ true = search rules in
    let has : lists_method (allow_of place) c.args.request.now.method ≡ true = (λ i. lists_method (sym allow i) (sym method i)) ∙ listed in
    let named : decoded place ≡ Some c.in-Some.place = search rules in
    rw (has, named) c.call_by.ensures
