use Rattle.std.proofs.Common.{◌≡◌, ℕ, ◌<◌, List, length, get_or, slice_get, refl, ap, sym, subst, ◌∙◌, ◌+◌, Some}
use Rattle.std.proofs.lemmas.Option.{slice_get-get_or}
use Rattle.disco_values.specs.declared.key.Key.{Key}
use Rattle.disco_hub.specs.Expiry.{Expires, cancelled}
use Rattle.disco_hub.specs.State.{rules_of}
use Rattle.disco_hub.proofs.Cancels.{did_more, did_nothing, stopped_at}
use Rattle.disco_hub.proofs.Rests.{rest_of, rest_on}
use Rattle.disco_hub.proofs.cancel.cancel_all.Goals as goal

there : (ks : List Key) (i : ℕ) (k : Key) → i < length ks → k ≡ get_or ks i k → slice_get ks i ≡ Some k
there ks i k lt is = slice_get-get_or ks i k lt ∙ ap (λ y. Some y) (sym is)

pub loop-key-init : goal.loop-key-init
loop-key-init g c =
    let hub = g.C.Cancel.hub c.args.from.now in
    (refl, did_nothing hub c.args.now c.args.keys.now, rest_of hub, c.requires.none_yet)

pub loop-key-preserved : goal.loop-key-preserved
loop-key-preserved g c =
    let hub = g.C.Cancel.hub in
    let i = c.loop-key.key-index in
    let k = c.key-item.result in
    let is = there c.args.keys.now i k c.loop-key-test.true c.key-item.is in
    let inv = c.loop-key.invariant in (
      ap (λ n. n + 1) inv.0,
      did_more (hub c.args.from.now) (hub c.loop-key.from) (hub c.cancel.new.self) c.args.now c.args.keys.now i k is inv.1 c.in_default.ensures.done c.cancel.ensures.rest.rules,
      rest_on _ _ _ inv.2 c.cancel.ensures.rest,
      c.in_default.ensures.noted.more c.args.from.now c.args.keys.now i is inv.1 inv.3,
    )

pub returns-in-Err-clause-history : goal.returns-in-Err-clause-history
returns-in-Err-clause-history g c =
    let hub = g.C.Cancel.hub in
    let i = c.loop-key.key-index in
    let k = c.key-item.result in
    subst (λ n. Expires (hub c.args.from.now) (hub c.cancel.new.self) c.args.now (λ _. c.args.keys.now) n (Some c.in-Err.fault)) (sym c.loop-key.invariant.0)
    (stopped_at (hub c.args.from.now) (hub c.loop-key.from) (hub c.cancel.new.self) c.args.now c.args.keys.now i k (there c.args.keys.now i k c.loop-key-test.true c.key-item.is) c.loop-key.invariant.1 c.in-Err.fault c.loop-key-test.true c.in-Err.ensures.refused)

pub returns-in-Err-clause-noted : goal.returns-in-Err-clause-noted
returns-in-Err-clause-noted g c =
    let rules = rules_of (g.C.Cancel.hub c.args.from.now) in
    let then : ℕ → _ = λ n p. cancelled rules p c.args.now c.args.keys.now n in
    subst (λ n. g.C.Cancel.noted c.args.from.now c.cancel.new.self (then n)) (sym c.loop-key.invariant.0)
    (c.in-Err.ensures.not_noted.same c.args.from.now (then c.loop-key.key-index) c.loop-key.invariant.3)
