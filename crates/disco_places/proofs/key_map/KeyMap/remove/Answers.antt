use Rattle.std.proofs.Common.{◌≡◌, ◌-◌, ◌≤◌, ℕ, is_some, false, true, sym, ap, subst, ◌∙◌}
use Rattle.std.specs.FinMap.{get}
use Rattle.disco_places.specs.KeyMaps.{by_key}
use Rattle.disco_places.proofs.Lengths.{len_out, len_some, len_same}
use Rattle.disco_places.proofs.key_map.KeyMap.remove.Goals as goal

pub overflow_sub-self : goal.overflow_sub-self
overflow_sub-self g c =
    let there : is_some (get (by_key c.self.inside.apps.entries) c.args.key.now) ≡ true = sym c.take_out.ensures.there ∙ c.if-take_out.true in
    subst (λ (l : ℕ). 1 ≤ l) (sym c.self.invariant.1) (len_some (by_key c.self.inside.apps.entries) c.args.key.now there)

pub invariant_of-self : goal.invariant_of-self
invariant_of-self g c =
    let there : is_some (get (by_key c.self.inside.apps.entries) c.args.key.now) ≡ true = sym c.take_out.ensures.there ∙ c.if-take_out.true in (
      c.take_out.ensures.ordered,
      ap (λ (l : ℕ). l - 1) c.self.invariant.1 ∙ sym (len_out (by_key c.self.inside.apps.entries) c.args.key.now (by_key c.take_out.new.apps.entries) there c.take_out.ensures.closed),
      c.take_out.ensures.full c.self.invariant.2,
    )

pub invariant_of-self-else-take_out : goal.invariant_of-self-else-take_out
invariant_of-self-else-take_out g c =
    let none : is_some (get (by_key c.self.inside.apps.entries) c.args.key.now) ≡ false = sym c.take_out.ensures.there ∙ c.if-take_out.false in (
      c.take_out.ensures.ordered,
      c.self.invariant.1 ∙ sym (len_same (by_key c.self.inside.apps.entries) c.args.key.now (by_key c.take_out.new.apps.entries) none c.take_out.ensures.closed),
      c.take_out.ensures.full c.self.invariant.2,
    )
