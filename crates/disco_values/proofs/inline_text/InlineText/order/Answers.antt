use Rattle.std.proofs.Common.{arith, ap, length, sym, ◌≡◌, ◌≤◌, ◌∙◌}
use Rattle.std.proofs.lemmas.List.{length-take-le}
use Rattle.std.specs.Ordering.{nat_cmp}
use Rattle.disco_values.proofs.Fronts.{AreSame, all_same, eight_decide, eight_same, six_same}
use Rattle.disco_values.proofs.inline_text.InlineText.order.Goals as goal

pub returns-then-eight_at : goal.returns-then-eight_at
returns-then-eight_at c =
    let one = c.args.self.now in
    let other = c.args.other.now in
    let six : AreSame 6 one other = six_same one other c.requires.one c.requires.other c.requires.fronts in
    c.cmp.ensures
    ∙ (λ i. nat_cmp (c.eight_at-then-eight_at.ensures i) (c.eight_at-then-eight_at-2.ensures i))
    ∙ eight_decide 6 one other c.requires.one c.requires.other six (λ e. c.if-eight_at.true (c.eight_at.ensures ∙ e ∙ sym c.eight_at-2.ensures))

pub returns-then-eight_at-2 : goal.returns-then-eight_at-2
returns-then-eight_at-2 c =
    let one = c.args.self.now in
    let other = c.args.other.now in
    let six : AreSame 6 one other = six_same one other c.requires.one c.requires.other c.requires.fronts in
    let fourteen : AreSame 14 one other = eight_same 6 one other six (sym c.eight_at.ensures ∙ c.if-eight_at.false ∙ c.eight_at-2.ensures) in
    c.cmp-then-eight_at-2.ensures
    ∙ (λ i. nat_cmp (c.eight_at-then-eight_at-2-2.ensures i) (c.eight_at-then-eight_at-2-3.ensures i))
    ∙ eight_decide 14 one other c.requires.one c.requires.other fourteen (λ e. c.if-eight_at-2.true (c.eight_at-3.ensures ∙ e ∙ sym c.eight_at-4.ensures))

pub returns-then-eight_at-3 : goal.returns-then-eight_at-3
returns-then-eight_at-3 c =
    let one = c.args.self.now in
    let other = c.args.other.now in
    let six : AreSame 6 one other = six_same one other c.requires.one c.requires.other c.requires.fronts in
    let fourteen : AreSame 14 one other = eight_same 6 one other six (sym c.eight_at.ensures ∙ c.if-eight_at.false ∙ c.eight_at-2.ensures) in
    let last : AreSame 22 one other = eight_same 14 one other fourteen (sym c.eight_at-3.ensures ∙ c.if-eight_at-2.false ∙ c.eight_at-4.ensures) in
    c.cmp-then-eight_at-3.ensures
    ∙ (λ i. nat_cmp (c.eight_at-then-eight_at-3.ensures i) (c.eight_at-then-eight_at-3-2.ensures i))
    ∙ eight_decide 22 one other c.requires.one c.requires.other last (λ e. c.if-eight_at-3.true (c.eight_at-5.ensures ∙ e ∙ sym c.eight_at-6.ensures))

pub returns : goal.returns
returns c =
    let one = c.args.self.now in
    let other = c.args.other.now in
    let six : AreSame 6 one other = six_same one other c.requires.one c.requires.other c.requires.fronts in
    let fourteen : AreSame 14 one other = eight_same 6 one other six (sym c.eight_at.ensures ∙ c.if-eight_at.false ∙ c.eight_at-2.ensures) in
    let last : AreSame 22 one other = eight_same 14 one other fourteen (sym c.eight_at-3.ensures ∙ c.if-eight_at-2.false ∙ c.eight_at-4.ensures) in
    let same : AreSame 30 one other = eight_same 22 one other last (sym c.eight_at-5.ensures ∙ c.if-eight_at-3.false ∙ c.eight_at-6.ensures) in
    let one_len : c.self.inside.len ≡ length one =
    sym (length-take-le c.self.inside.len c.self.inside.bytes (omega (arith, c.self.invariant.0, c.self.told))) ∙ ap length c.self.view_is in
    let other_len : c.other.inside.len ≡ length other =
    sym (length-take-le c.other.inside.len c.other.inside.bytes (omega (arith, c.other.invariant.0, c.other.told))) ∙ ap length c.other.view_is in
    let short : length one ≤ 30 = omega (arith, one_len, c.self.invariant.0) in
    c.cmp-2.ensures ∙ (λ i. nat_cmp (one_len i) (other_len i)) ∙ all_same one other c.requires.one c.requires.other short same
