use Rattle.std.proofs.Common.{◌≡◌, Option, Some, None, option_map, ap, subst, sym, ◌∙◌}
use Rattle.disco_instance.specs.Row.{Row, row}
use Rattle.disco_history.specs.Query.{by_id}
use Rattle.disco_history.specs.Registry.{registry_of}
use Rattle.disco_core.specs.Refusals.{doc_of_key, refusal_by}
use Rattle.disco_core.specs.State.{CoreState}
use Rattle.disco_registry.specs.State.{StandsFor}
use Rattle.disco_core.proofs.SameAnswer.{err_then, ok_then}
use Rattle.disco_core.proofs.state.Core.by_id.Goals as goal

pub returns-in-Some-clause-key : goal.returns-in-Some-clause-key
returns-in-Some-clause-key c = ok_then c.instance.result _ _ (λ p is h stands.
    let rec = c.in-Some.rec.now in
    let there : by_id (registry_of h) c.args.id.now ≡ Some (row rec) = ap (by_id (registry_of h)) (sym c.in_ok-id.ensures) ∙ sym (c.in-Some.ensures.history h (subst (λ (s : CoreState). StandsFor s.registry h) (sym c.self.view_is) stands)) in
    ap (option_map (λ (r : Row). doc_of_key r.key c.args.form)) there ∙ ap (λ k. Some k) (sym is)) c.instance.ensures.key

pub returns-in-Some-clause-refused : goal.returns-in-Some-clause-refused
returns-in-Some-clause-refused c = err_then c.instance.result _ _ (λ e why other h stands.
    let rec = c.in-Some.rec.now in
    let there : by_id (registry_of h) c.args.id.now ≡ Some (row rec) = ap (by_id (registry_of h)) (sym c.in_ok-id.ensures) ∙ sym (c.in-Some.ensures.history h (subst (λ (s : CoreState). StandsFor s.registry h) (sym c.self.view_is) stands)) in
    ap (λ (o : Option Row). refusal_by o h) there ∙ why other h stands) c.instance.ensures.refused

pub returns-clause-refused : goal.returns-clause-refused
returns-clause-refused c = λ other h stands.
    let none : by_id (registry_of h) c.args.id.now ≡ None = ap (by_id (registry_of h)) (sym c.in_ok-id.ensures) ∙ sym (c.in-None.ensures.history h (subst (λ (s : CoreState). StandsFor s.registry h) (sym c.self.view_is) stands)) in
    ap (λ (o : Option Row). refusal_by o h) none

pub returns-in-Some-clause-allowed : goal.returns-in-Some-clause-allowed
returns-in-Some-clause-allowed c = ok_then c.instance.result _ _ (λ d none h stands.
    let rec = c.in-Some.rec.now in
    let there : by_id (registry_of h) c.args.id.now ≡ Some (row rec) = ap (by_id (registry_of h)) (sym c.in_ok-id.ensures) ∙ sym (c.in-Some.ensures.history h (subst (λ (s : CoreState). StandsFor s.registry h) (sym c.self.view_is) stands)) in
    ap (λ (o : Option Row). refusal_by o h) there ∙ none h stands) c.instance.ensures.allowed
