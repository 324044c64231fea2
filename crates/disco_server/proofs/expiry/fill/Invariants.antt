use Rattle.std.proofs.Common.{◌≡◌, ◌≤◌, ◌++◌, length, vec_len}
use Rattle.std.specs.Vec.{vec_capacity}
use Rattle.disco_server.proofs.expiry.fill.Given as goal

abbrev pub invariant-loop : goal.invariant-loop
invariant-loop l =
    (l.next.items ++ l.behind.items ≡ l.fn.next.items ++ l.fn.behind.items)
    × (vec_len l.next ≡ l.counter)
    × (length l.next.items ≡ l.counter)
    × (l.counter ≤ 100)
    × (100 ≤ vec_capacity l.next)
