use Rattle.std.proofs.Common.{sym, subst, ◌∙◌}
use Rattle.std.specs.FinMap.{get}
use Rattle.disco_history.specs.Slots.{AltersAt}
use Rattle.disco_queue.specs.Numbers.{number_kept}
use Rattle.disco_queue.proofs.Places.{as_it_was, left-gone, left-kept, taken_out}
use Rattle.disco_queue.proofs.numbers.Numbers.close.Goals as goal

pub returns-then-eq : goal.returns-then-eq
returns-then-eq c =
    let m = c.self.inside.places in
    let k = c.args.key.now in
    let gone = left-gone c.args.number (get m k) c.copied.result (c.copied.ensures ∙ c.get.ensures) (sym c.eq.ensures ∙ c.if-eq.true) in
    rw (← c.self.view_is) (subst (AltersAt (number_kept c.args.number) k m) (sym c.remove.ensures) (taken_out (number_kept c.args.number) m k gone))

pub returns-else-eq : goal.returns-else-eq
returns-else-eq c =
    let m = c.self.inside.places in
    let k = c.args.key.now in
    rw (← c.self.view_is) (as_it_was (number_kept c.args.number) m k (left-kept c.args.number (get m k) c.copied.result (c.copied.ensures ∙ c.get.ensures) (sym c.eq.ensures ∙ c.if-eq.false)))
