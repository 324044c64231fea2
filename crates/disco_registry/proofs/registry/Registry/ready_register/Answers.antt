use Rattle.std.proofs.Common.{◌≡◌, sym, ap, subst, ◌∙◌, not, Some, Option, Ok, arith}
use Rattle.std.specs.FinMap.{get}
use Rattle.disco_history.specs.Change.{Entry}
use Rattle.disco_history.specs.Held.{record_at, seen_record}
use Rattle.disco_instance.specs.Row.{Row, row}
use Rattle.disco_values.specs.declared.action.Action.TheVariants.{Added}
use Rattle.disco_registry.specs.Commit.{IsReady}
use Rattle.disco_registry.specs.Records.{key_of_held}
use Rattle.disco_registry.specs.Settle.{settle}
use Rattle.disco_registry.proofs.Readies.{accepted_new, fresh, fresh_only, new_key, not_false, seen_key}
use Rattle.disco_registry.proofs.registry.Registry.ready_register.Goals as goal

pub admit-requires : goal.admit-requires
admit-requires c = c.known-held.ensures.found

pub make_place-requires : goal.make_place-requires
make_place-requires c is_new =
    let s = c.args.self.now in
    let p = row c.args.posted in
    let held : seen_record c.known-held.result ≡ record_at s.held p.key = c.known-held.ensures.found in
    let new = c.in_ok-new.ensures.record_is in
    let key : key_of_held c.in_ok-kept.kept ≡ p.key = ap (λ (e : Entry). e.0.key) c.in_ok-kept.ensures ∙ ap (λ (r : Row). r.key) new ∙ new_key (seen_record c.known-held.result) p c.args.now (seen_key c.known-held.result p.key c.known-held.ensures.same_key) in
    fresh s.held p.key (key_of_held c.in_ok-kept.kept) c.known-held.result held key (c.is_none-is_new.ensures ∙ ap not is_new)

pub returns-clause-ready : goal.returns-clause-ready
returns-clause-ready c =
    let s = c.args.self.now in
    let p = row c.args.posted in
    let held : seen_record c.known-held.result ≡ record_at s.held p.key = c.known-held.ensures.found in
    let new = c.in_ok-new.ensures.record_is in
    let put_is : c.in_ok-ready.ready ≡ Some (row c.in_ok-new.new, Added) = c.in_ok-ready.ensures.change ∙ ap (λ (e : Entry). Some e) c.in_ok-kept.ensures in
    let key : (row c.in_ok-new.new).key ≡ p.key = ap (λ (r : Row). r.key) new ∙ new_key (seen_record c.known-held.result) p c.args.now (seen_key c.known-held.result p.key c.known-held.ensures.same_key) in
    let same = c.in_ok-make_place.ensures.same in (
      accepted_new s p c.args.now c.in_ok-admit.ensures.place c.in_ok-admit.ensures.left ∙ ap (λ (r : Row). Ok (Some (r, Added))) (sym (new ∙ ap (λ o. settle o p c.args.now) held)) ∙ ap (λ (o : Option Entry). Ok o) (sym put_is),
      subst (IsReady c.make_place.new.self) (sym put_is) (
        omega (arith, c.in_ok-admit.ensures.left, same.version, same.versions),
        λ none. c.in_ok-make_place.ensures.place (not_false _ (sym c.is_none-is_new.ensures ∙ fresh_only s.held p.key (row c.in_ok-new.new).key c.known-held.result held key (ap (λ m. get m (row c.in_ok-new.new).key) (sym same.held) ∙ none))) ∙ ap (λ (e : Entry). Some e.0.key) c.in_ok-kept.ensures,
      ),
    )
