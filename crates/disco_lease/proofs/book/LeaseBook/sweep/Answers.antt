use Rattle.std.proofs.Common.{◌≡◌, false, Option, Some, None, option_map, is_some, refl, sym, ◌∙◌}
use Rattle.std.specs.FinMap.{get}
use Rattle.std.specs.Option.{option_flatten}
use Rattle.disco_lease.specs.Seen.{plain_lease}
use Rattle.disco_lease.specs.declared.lease.Lease.{Lease}
use Rattle.disco_lease.proofs.Steps.{lease-close, no-place, none-out, others-out}
use Rattle.disco_lease.proofs.book.LeaseBook.sweep.Goals as goal

unseen : (o : Option Lease) → is_some o ≡ false → option_map plain_lease o ≡ None
unseen None is = refl
unseen (Some l) is = absurd (cc)

pub returns-clause-same : goal.returns-clause-same
returns-clause-same c =
    let m = c.self.inside.places in
    let k = c.args.key.now in
    let none : option_flatten (get m k) ≡ None = sym c.lease.ensures ∙ unseen c.lease.result (sym c.is_some.ensures ∙ c.if-is_some.false) in
    rw (← c.self.view_is) (record { leases = lease-close m c.close.new.self k none c.close.ensures; renewals = refl; closed = refl })

pub returns-clause-swept : goal.returns-clause-swept
returns-clause-swept c = λ some. absurd (no-place (get c.close.new.self c.args.key.now) (none-out c.self.inside.places c.close.new.self c.args.key.now c.close.ensures) some)

pub returns-clause-others : goal.returns-clause-others
returns-clause-others c = rw (← c.self.view_is) (others-out c.self.inside.places c.close.new.self c.args.key.now c.close.ensures)
