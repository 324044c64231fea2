use Rattle.std.proofs.Common.{Bool, sym, ap, ◌∙◌, ◌+◌, ◌∷◌, ◌++◌, [], arith, length}
use Rattle.disco_hub.proofs.NewKeys.{none_more, one_more, rest_new}
use Rattle.disco_hub.proofs.round.Round.mark.Goals as goal

pub invariant_of-self-then-kept : goal.invariant_of-self-then-kept
invariant_of-self-then-kept c =
    let was = c.self.inside.done.items in
    let left = c.pop_front.new.self.items in
    let all = c.self.inside.left.items in
    let more = c.push_reserved.ensures.items in
    let first = c.in-Some.ensures.items in
    let k = c.in-Some.key in
    let new = c.self.invariant.3 in (
      omega (arith, c.self.invariant.0, ap length first, c.push_reserved.ensures.len, c.push_reserved.ensures.capacity),
      omega (arith, c.self.invariant.1, c.push_reserved.ensures.len),
      ap (λ n. n + 1) c.self.invariant.2 ∙ sym (one_more was c.push_reserved.new.self.items k left all (more ∙ ap (λ (b : Bool). was ++ record { key = k; kept = b } ∷ []) c.if-kept.true) first new),
      rest_new was c.push_reserved.new.self.items (record { key = k; kept = c.args.kept }) left all more first new,
    )

pub invariant_of-self-else-kept : goal.invariant_of-self-else-kept
invariant_of-self-else-kept c =
    let was = c.self.inside.done.items in
    let left = c.pop_front.new.self.items in
    let all = c.self.inside.left.items in
    let more = c.push_reserved.ensures.items in
    let first = c.in-Some.ensures.items in
    let k = c.in-Some.key in
    let new = c.self.invariant.3 in (
      omega (arith, c.self.invariant.0, ap length first, c.push_reserved.ensures.len, c.push_reserved.ensures.capacity),
      omega (arith, c.self.invariant.1, c.push_reserved.ensures.len),
      c.self.invariant.2 ∙ sym (none_more was c.push_reserved.new.self.items k left all (more ∙ ap (λ (b : Bool). was ++ record { key = k; kept = b } ∷ []) c.if-kept.false) first new),
      rest_new was c.push_reserved.new.self.items (record { key = k; kept = c.args.kept }) left all more first new,
    )
