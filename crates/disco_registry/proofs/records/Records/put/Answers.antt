use Rattle.std.proofs.Common.{◌≡◌, None, Some, option_map, sym, ap, ◌∙◌}
use Rattle.std.specs.FinMap.{get, insert}
use Rattle.disco_history.specs.Held.{entry_of}
use Rattle.disco_registry.specs.Records.{Contents, key_of_held, next_left, mentions_held}
use Rattle.disco_registry.proofs.PlaceSteps.{has_place, placed-put, put_shown}
use Rattle.disco_registry.proofs.records.Records.put.Goals as goal

pub invariant_of-self : goal.invariant_of-self
invariant_of-self c =
    let k = c.args.key.now in
    let next_is : get (mentions_held c.self.inside.places) k ≡ None → option_map key_of_held c.self.inside.next ≡ Some k = λ none. ap (λ (s : Contents). s.next) c.self.view_is ∙ c.requires.place (sym (ap (λ (s : Contents). get s.held k) c.self.view_is) ∙ none) in
    let put = c.put.ensures.there (has_place c.self.inside.places c.self.inside.next c.self.inside.sought k c.self.invariant next_is) in
    rw (c.left_after.ensures ∙ ap (next_left k) c.take.ensures.value) (placed-put c.self.inside.places c.put.new.self k c.args.added put c.requires.same_key c.self.inside.next c.self.inside.sought c.self.invariant next_is)

pub returns : goal.returns
returns c =
    let k = c.args.key.now in
    let next_is : get (mentions_held c.self.inside.places) k ≡ None → option_map key_of_held c.self.inside.next ≡ Some k = λ none. ap (λ (s : Contents). s.next) c.self.view_is ∙ c.requires.place (sym (ap (λ (s : Contents). get s.held k) c.self.view_is) ∙ none) in
    let put = c.put.ensures.there (has_place c.self.inside.places c.self.inside.next c.self.inside.sought k c.self.invariant next_is) in
    put_shown c.self.inside.places c.put.new.self k c.args.added put ∙ ap (λ (s : Contents). insert s.held k (entry_of c.args.added)) c.self.view_is
