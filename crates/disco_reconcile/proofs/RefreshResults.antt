-- What a refresh comes to, from the fetches that it made.
use Rattle.std.proofs.Common.{ℕ, Option, Result, refl}
use Rattle.disco_values.specs.declared.fault.Fault.{Fault}
use Rattle.disco_values.specs.declared.form.Form.{Form}
use Rattle.disco_values.specs.declared.doc_key.DocKey.{DocKey}
use Rattle.disco_client.specs.declared.certified.CertifiedCopy.{CertifiedCopy}
use Rattle.disco_reconcile.proofs.FailedFetches.{raises}
use Rattle.disco_reconcile.proofs.PlainCopies.{plain_follows, plain_left}
use Rattle.disco_reconcile.proofs.CertifiedCopies.{certified_left, certified_rises, certified_stays}
use Rattle.disco_reconcile.proofs.ToldFetches.{are_as_told}
use Rattle.disco_reconcile.specs.Courses.{certified_delta, certified_full, plain_delta, plain_full}
use Rattle.disco_reconcile.specs.Failures.{Gave}
use Rattle.disco_reconcile.specs.Refreshes.{Refreshes}
use Rattle.disco_reconcile.specs.State.{CopyRows}
use Rattle.disco_reconcile.specs.Steps.{GoesThrough}
use Rattle.disco_reconcile.specs.declared.fetch.Fetched.{Fetched}
use Rattle.disco_reconcile.specs.declared.kept.Kept.TheVariants.{Plain, Certified}
use Rattle.disco_reconcile.specs.declared.refreshed.Refreshed.{Refreshed}

module _ {S : Type 0} (gives : S → DocKey → Result Fetched Fault → S → Type 0) (failed : S → ℕ) (f : Form) (before after : S) (result : Result Refreshed Fault) where
  pub plain_refreshes : (held kept : Option CopyRows) → GoesThrough (Gave gives failed) plain_delta plain_full f before held result after kept
      → Refreshes gives failed (record { fetcher = before; form = f; kept = Plain held }) result (record { fetcher = after; form = f; kept = Plain kept })
  plain_refreshes held kept g = record {
    form = refl;
    log = g.log;
    fetched = g.fetched;
    course = g.course;
    cause = raises gives failed plain_delta plain_full f held kept result g.log before after g.course g.fetched;
    left = plain_left held kept result g.log g.course;
    keeps = plain_follows f held kept result g.log (are_as_told (Gave gives failed) f g.log before after g.fetched) g.course;
  }

  pub certified_refreshes : (held kept : Option CertifiedCopy) → GoesThrough (Gave gives failed) (certified_delta f) (certified_full f) f before held result after kept
      → Refreshes gives failed (record { fetcher = before; form = f; kept = Certified held }) result (record { fetcher = after; form = f; kept = Certified kept })
  certified_refreshes held kept g = record {
    form = refl;
    log = g.log;
    fetched = g.fetched;
    course = g.course;
    cause = raises gives failed (certified_delta f) (certified_full f) f held kept result g.log before after g.course g.fetched;
    left = certified_left f held kept result g.log g.course;
    keeps = (certified_stays f held kept result g.log (are_as_told (Gave gives failed) f g.log before after g.fetched) g.course, certified_rises f held kept result g.log g.course);
  }
