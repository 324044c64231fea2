use Rattle.std.proofs.Common.{◌≡◌, Err, None, ap, arith, sym, true, ◌∙◌}
use Rattle.std.proofs.lemmas.Result.{err_from_is_err_and}
use Rattle.disco_values.specs.declared.status.Status.TheVariants.{Unknown}
use Rattle.disco_index.specs.Tally.{count_in}
use Rattle.disco_lease.specs.Leases.{lease_at}
use Rattle.disco_core.proofs.Marks.{went_on}
use Rattle.disco_core.proofs.Renewals.{NoneUnknown, has_lease}
use Rattle.disco_core.proofs.Ties.{leased_by, missed}
use Rattle.disco_core.proofs.leases.renew.Goals as goal
use Rattle.disco_core.proofs.leases.renew.Goals.{then-of-gt0+in_ok-admit_renewal, else-of-gt0}

pub returns-in_err-admit_renewal-clause-refused : goal.returns-in_err-admit_renewal-clause-refused
returns-in_err-admit_renewal-clause-refused c =
    let p = err_from_is_err_and c.from_residual.result c.from_residual.ensures.1 in
    rw p.1 (c.in_err-admit_renewal.ensures.refused c.args.now ∙ ap Err (sym p.2))

pub returns-clause-accepted : goal.returns-clause-accepted
returns-clause-accepted c = elim c.if-of-gt0.branch [
  | then-of-gt0+in_ok-admit_renewal w ↦ w.in_ok-admit_renewal.ensures.accepted c.args.now
  | else-of-gt0 w ↦
      let none : NoneUnknown c.args.registry.now.held =
      sym (ap (λ t. count_in t Unknown) c.requires.tally) ∙ sym c.of.ensures ∙ omega (arith, w.if-of-gt0.false) in
      has_lease c.args.registry.now c.args.leases.now c.args.key.now c.args.now c.requires.leased none (λ missing. absurd (let is = c.in_ok-renew.ensures.missing.1 missing in cc))
]

pub returns-clause-leased : goal.returns-clause-leased
returns-clause-leased c =
    let k = c.args.key.now in
    let old = c.args.leases.now in
    let goes =
    went_on c.renew.result k true c.args.now old c.renew.new.self c.renew.ensures.leases c.renew.ensures.err
    (missed c.renew.result (lease_at old k ≡ None) c.renew.ensures.missing.0 c.renew.ensures.error) c.renew.ensures.renewals c.renew.ensures.closed in
    leased_by None k true c.args.now old c.renew.new.self goes c.args.registry.now.held c.requires.leased
