use Rattle.std.proofs.Common.{ap, sym, subst, ◌∙◌, arith, map}
use Rattle.std.specs.FinMap.{get, get-empty}
use Rattle.std.specs.Option.{unwrap_or}
use Rattle.disco_values.specs.Key.{key_cmp}
use Rattle.disco_queue.specs.Numbers.{last_number}
use Rattle.disco_queue.specs.Seen.{change_of}
use Rattle.disco_queue.specs.Superseded.{AreSuperseded}
use Rattle.disco_queue.proofs.queue.ChangedQueue.new.Goals as goal

pub invariant_of-result : goal.invariant_of-result
invariant_of-result c = (
  record { some = c.requires; few = omega (arith, c.requires, c.new.ensures.len); fits = omega (arith, c.new.ensures.len) },
  λ k.
      ap (λ m. unwrap_or (get m k) 0) c.new-2.ensures ∙ ap (λ o. unwrap_or o 0) (get-empty key_cmp k) ∙ sym (ap (λ ks. last_number 0 (map change_of ks) k) c.new.ensures.items),
  subst AreSuperseded (sym c.new.ensures.items) tt,
)
