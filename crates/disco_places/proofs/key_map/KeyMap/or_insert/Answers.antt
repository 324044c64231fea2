use Rattle.std.proofs.Common.{◌≡◌, ◌+◌, ℕ, false, is_some, sym, ap, ◌∙◌}
use Rattle.std.specs.FinMap.{get}
use Rattle.disco_places.specs.KeyMaps.{by_key}
use Rattle.disco_places.proofs.Lengths.{len_made}
use Rattle.disco_places.proofs.key_map.KeyMap.or_insert.Goals as goal

pub invariant_of-self-2 : goal.invariant_of-self-2
invariant_of-self-2 g c =
    let none : is_some (get (by_key c.self.inside.apps.entries) c.args.key.now) ≡ false = rw (c.self.view_is) (sym c.has.ensures ∙ c.if-has.false) in
    let more : c.in-Some.len ≡ c.self.inside.len + 1 = c.in-Some.ensures.1 in (
      c.insert_in.ensures.ordered,
      more ∙ ap (λ (l : ℕ). l + 1) c.self.invariant.1 ∙ sym (len_made (by_key c.self.inside.apps.entries) c.args.key.now (by_key c.insert_in.new.apps.entries) c.args.value none c.in_ok-insert_in.ensures.ok),
      c.insert_in.ensures.full c.self.invariant.2,
    )
