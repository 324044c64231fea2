use Rattle.std.proofs.Common.{◌≡◌}
use Rattle.disco_hub.specs.Expiry.{cancelled}
use Rattle.disco_hub.specs.State.{rules_of}
use Rattle.disco_hub.specs.Cancelling.{HasCancelled}
use Rattle.disco_hub.specs.Transitions.{KeepsRest}
use Rattle.disco_hub.proofs.cancel.cancel_all.Given as goal

abbrev pub invariant-loop-key : goal.invariant-loop-key
invariant-loop-key g l =
    (l.gone ≡ l.key-index)
    × HasCancelled (g.C.Cancel.hub l.fn.from) (g.C.Cancel.hub l.from) l.now l.keys l.key-index
    × KeepsRest (g.C.Cancel.hub l.fn.from) (g.C.Cancel.hub l.from)
    × g.C.Cancel.noted l.fn.from l.from (λ p. cancelled (rules_of (g.C.Cancel.hub l.fn.from)) p l.now l.keys l.key-index)
