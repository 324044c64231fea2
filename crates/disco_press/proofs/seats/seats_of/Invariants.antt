use Rattle.std.proofs.Common.{◌≡◌, ◌+◌, All, vec_len}
use Rattle.disco_press.specs.Seats.{IsNew}
use Rattle.disco_press.proofs.seats.seats_of.Given as goal

abbrev pub invariant-loop : goal.invariant-loop
invariant-loop g l =
    (l.rest.parts + l.counter ≡ l.fn.rest.parts)
    × (l.rest.amount ≡ 0)
    × (vec_len l.seats ≡ l.counter)
    × All (λ s. IsNew l.fn.log.published s) l.seats.items
