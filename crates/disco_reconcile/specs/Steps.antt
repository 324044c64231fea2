-- What private contracts say of fetches: nothing here is to be believed.
use Rattle.std.specs.Prelude.{◌≡◌, ◌⊎◌, Bool, true, false, List, Option, Some, None, option_map, Result, Ok, Err}
use Rattle.disco_instance.specs.Instance.{Gives}
use Rattle.disco_values.specs.declared.fault.Fault.{Fault}
use Rattle.disco_values.specs.declared.fault.Fault.TheVariants.{OutOfMemory}
use Rattle.disco_values.specs.declared.form.Form.{Form}
use Rattle.disco_wire.specs.Wire.{wire_meaning}
use Rattle.disco_values.specs.Query.{is_delta}
use Rattle.disco_values.specs.declared.query.Query.{Query}
use Rattle.disco_values.specs.declared.query.Query.TheVariants as query
use Rattle.disco_values.specs.declared.doc_key.DocKey.{DocKey}
use Rattle.disco_reconcile.specs.Courses.{AreFetched, Exchange, IsCourse, IsFetched, OfDelta, OfFull, exchange, full_by, doc_key_of, outcome_of}
use Rattle.disco_reconcile.specs.Told.{FetchAnswer, ToldDocument, told_in_answer}
use Rattle.disco_reconcile.specs.declared.document.Document.{Document}
use Rattle.disco_reconcile.specs.declared.fetch.Fetched.{Fetched}
use Rattle.disco_reconcile.specs.declared.refreshed.Refreshed.{Refreshed}
use Rattle.disco_reconcile.specs.declared.refreshed.Refreshed.TheVariants as refreshed

-- what was read of a document, as plain data
abbrev pub told_document : Document → ToldDocument
told_document d = record { meaning = wire_meaning d.wire; cert = d.cert }

-- a document was asked for, and this is what the answer tells
pub record IsAsked {S : Type 0} (gives : S → DocKey → Result Fetched Fault → S → Type 0) (q : Query) (f : Form) (old : S)
    (result : Result (Option Document) Fault) (new : S) : Type 0 where
  pub answer : Result Fetched Fault
  pub given : gives old (doc_key_of q f) answer new
  pub told : Gives (option_map told_document) result (told_in_answer (is_delta q) answer)

-- the fetches were made, and came to this
pub record GoesThrough {S K : Type 0} (gives : S → DocKey → Result Fetched Fault → S → Type 0) (delta : OfDelta K) (full : OfFull K) (f : Form)
    (before : S) (held : Option K) (result : Result Refreshed Fault) (after : S) (kept : Option K) : Type 0 where
  pub log : List Exchange
  pub fetched : AreFetched gives f before log after
  pub course : IsCourse delta full held log (outcome_of result kept)

-- all apps were fetched
pub record TakesFull {S K : Type 0} (gives : S → DocKey → Result Fetched Fault → S → Type 0) (full : OfFull K) (f : Form) (done : Refreshed)
    (before : S) (held : Option K) (result : Result Refreshed Fault) (after : S) (kept : Option K) : Type 0 where
  pub answer : Result Fetched Fault
  pub told : FetchAnswer
  pub fetched : IsFetched gives f before (exchange query.Apps answer told) after
  pub comes : outcome_of result kept ≡ full_by full done held told

-- what a full document that follows the delta is answered with, if one follows
abbrev pub following : Bool → Option Refreshed
following true = None
following false = Some refreshed.DeltaThenFull

-- what is kept after the answer to the fetch of the delta, and what follows
abbrev pub StepTo : {K : Type 0} → OfDelta K → K → FetchAnswer → Result (Option Refreshed) Fault → K → Type 0
StepTo delta k (Err e) result l = (result ≡ Err e) × (l ≡ k)
StepTo delta k (Ok None) result l = (result ≡ Ok (Some refreshed.Full)) × (l ≡ k)
StepTo delta k (Ok (Some m)) result l = (result ≡ Ok (following ((delta k m).0))) × (l ≡ (delta k m).1)

-- the delta was fetched
pub record IsStep {S K : Type 0} (gives : S → DocKey → Result Fetched Fault → S → Type 0) (delta : OfDelta K) (f : Form) (before : S) (held : K)
    (result : Result (Option Refreshed) Fault) (after : S) (kept : K) : Type 0 where
  pub answer : Result Fetched Fault
  pub told : FetchAnswer
  pub fetched : IsFetched gives f before (exchange query.Delta answer told) after
  pub comes : StepTo delta held told result kept

-- a full document was taken as it is, or no memory was found for it
abbrev pub IsPut : {K : Type 0} → OfFull K → Refreshed → Option K → ToldDocument → Result Refreshed Fault → Option K → Type 0
IsPut full done held m result kept = (outcome_of result kept ≡ full done held m) ⊎ (outcome_of result kept ≡ outcome_of (Err OutOfMemory) held)

-- a delta was taken as it is, or no memory was found for it
abbrev pub IsOverlaid : {K : Type 0} → OfDelta K → K → ToldDocument → Result Bool Fault → K → Type 0
IsOverlaid delta held m (Ok is) kept = (is ≡ (delta held m).0) × (kept ≡ (delta held m).1)
IsOverlaid delta held m (Err e) kept = (e ≡ OutOfMemory) × (kept ≡ held)
