use Rattle.std.proofs.Common.{arith, sym, subst, ◌≡◌, ◌<◌, ◌%◌}
use Rattle.disco_values.specs.Front.{front_of}
use Rattle.disco_values.specs.Storage.{bytes_in}
use Rattle.disco_values.proofs.Fronts.{by_fronts, by_fronts_above, by_whole_front}
use Rattle.disco_values.proofs.text.order.Goals as goal

pub returns-then-one-other : goal.returns-then-one-other
returns-then-one-other c =
    let one = bytes_in c.one.inside.storage in
    let other = bytes_in c.other.inside.storage in
    let above : front_of other < front_of one = omega (arith, c.if-one-other.true, c.one.invariant.0, c.other.invariant.0) in
    rw (← c.one.view_is) (rw (← c.other.view_is) (sym (by_fronts_above one other c.one.invariant.1 c.other.invariant.1 above)))

pub returns-then-one-other-2 : goal.returns-then-one-other-2
returns-then-one-other-2 c =
    let one = bytes_in c.one.inside.storage in
    let other = bytes_in c.other.inside.storage in
    let below : front_of one < front_of other = omega (arith, c.if-one-other-2.true, c.one.invariant.0, c.other.invariant.0) in
    rw (← c.one.view_is) (rw (← c.other.view_is) (sym (by_fronts one other c.one.invariant.1 c.other.invariant.1 below)))

pub returns-then-is_whole : goal.returns-then-is_whole
returns-then-is_whole c =
    let one = bytes_in c.one.inside.storage in
    let other = bytes_in c.other.inside.storage in
    let same : front_of one ≡ front_of other = omega (arith, c.if-one-other.false, c.if-one-other-2.false, c.one.invariant.0, c.other.invariant.0) in
    let whole = subst (λ n. n % 256 < 8) c.one.invariant.0 (c.is_whole.ensures.0 c.if-is_whole.true) in
    rw (← c.one.view_is) (rw (← c.other.view_is) (sym (by_whole_front one other c.one.invariant.1 c.other.invariant.1 same whole)))
