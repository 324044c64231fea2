use Rattle.std.proofs.Common.{◌+◌, ◌++◌, map, subst}
use Rattle.disco_values.specs.declared.key.Key.{Key}
use Rattle.disco_history.specs.Change.{key_of}
use Rattle.disco_history.specs.Slots.{AltersAt}
use Rattle.disco_queue.specs.Numbers.{number_kept}
use Rattle.disco_queue.specs.Seen.{change_of}
use Rattle.disco_queue.specs.Superseded.{AreSuperseded}
use Rattle.disco_queue.proofs.LastNumbers.{followed_left, none_left, number_left}
use Rattle.disco_queue.proofs.Superseded.{followed_more}
use Rattle.disco_queue.proofs.queue.drop_front.Goals as goal

pub returns-then-oldest-clause-numbers : goal.returns-then-oldest-clause-numbers
returns-then-oldest-clause-numbers c es =
    let oldest = c.in-Some.oldest in
    let rest = c.pop_front.new.self.items in
    let followed = (subst AreSuperseded c.in-Some.ensures.items c.requires.superseded).0 c.if-oldest.true in
    rw (c.in-Some.ensures.items) (λ are.
    followed_left c.args.numbers.now c.args.base.now (change_of oldest) (map change_of rest ++ es) (followed_more (map change_of rest) es (key_of (change_of oldest)) followed) are)

pub returns-else-oldest-clause-numbers : goal.returns-else-oldest-clause-numbers
returns-else-oldest-clause-numbers c es =
    let before = c.args.base.now in
    let here = c.args.numbers.now in
    rw (c.in-Some.ensures.items) (λ are.
    number_left here c.close.new.self before (change_of c.in-Some.oldest) (map change_of c.pop_front.new.self.items ++ es) (subst (λ (k : Key). AltersAt (number_kept (before + 1)) k here c.close.new.self) c.key.ensures c.close.ensures) are)

pub returns-else-oldest-clause-empty : goal.returns-else-oldest-clause-empty
returns-else-oldest-clause-empty c = none_left (c.args.base.now + 1) c.key.result.now c.args.numbers.now c.close.new.self c.close.ensures
