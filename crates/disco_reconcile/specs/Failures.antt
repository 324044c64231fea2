-- Failures of a fetcher, and their count.
use Rattle.std.specs.Prelude.{◌≢◌, ℕ, ◌≤◌, Result, Ok, Err}
use Rattle.disco_values.specs.declared.fault.Fault.{Fault}
use Rattle.disco_values.specs.declared.fault.Fault.TheVariants.{OutOfMemory}
use Rattle.disco_values.specs.declared.doc_key.DocKey.{DocKey}
use Rattle.disco_http.specs.Causes.{Raises}
use Rattle.disco_reconcile.specs.declared.fetch.Fetched.{Fetched}

-- a fetch failed, and not for want of memory
abbrev pub IsFailure : Result Fetched Fault → Type 0
IsFailure (Ok x) = ⊥
IsFailure (Err e) = e ≢ OutOfMemory

-- the fetcher may answer so, and counts its failures
pub record Gave {S : Type 0} (gives : S → DocKey → Result Fetched Fault → S → Type 0) (failed : S → ℕ) (old : S) (k : DocKey)
    (answer : Result Fetched Fault) (new : S) : Type 0 where
  pub given : gives old k answer new
  pub count : failed old ≤ failed new
  pub cause : IsFailure answer → Raises (failed old) (failed new)
