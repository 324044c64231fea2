-- Which fetches a refresh makes, and what it does with their answers.
use Rattle.std.specs.Prelude.{◌≡◌, Bool, true, false, List, [], ◌∷◌, if◌then◌else◌, Option, Some, None, Result, Ok, Err}
use Rattle.disco_instance.specs.Instance.{Gives}
use Rattle.disco_values.specs.declared.cert.Cert.{Cert}
use Rattle.disco_values.specs.declared.fault.Fault.{Fault}
use Rattle.disco_values.specs.declared.fault.Fault.TheVariants.{BadDocument, NotFetched}
use Rattle.disco_values.specs.declared.form.Form.{Form}
use Rattle.disco_history.specs.Mentions.{copied, overlay}
use Rattle.disco_values.specs.Query.{is_delta}
use Rattle.disco_values.specs.declared.query.Query.{Query}
use Rattle.disco_values.specs.declared.query.Query.TheVariants as query
use Rattle.disco_values.specs.declared.doc_key.DocKey.{DocKey}
use Rattle.disco_client.specs.Copies.{hash_equal}
use Rattle.disco_client.specs.Tracks.{gives_way, known_at, reaches}
use Rattle.disco_client.specs.declared.certified.CertifiedCopy.{CertifiedCopy}
use Rattle.disco_reconcile.specs.State.{CopyRows}
use Rattle.disco_reconcile.specs.Told.{FetchAnswer, ToldDocument, told_in_answer}
use Rattle.disco_reconcile.specs.declared.fetch.Fetched.{Fetched}
use Rattle.disco_reconcile.specs.declared.refreshed.Refreshed.{Refreshed}
use Rattle.disco_reconcile.specs.declared.refreshed.Refreshed.TheVariants as refreshed

-- ---- fetches

-- a fetch: what was asked for, what was answered, and what the client reads in the answer
pub record Exchange : Type 0 where
  pub query : Query
  pub answer : Result Fetched Fault
  pub told : FetchAnswer

abbrev pub exchange : Query → Result Fetched Fault → FetchAnswer → Exchange
exchange q answer told = record { query = q; answer = answer; told = told }

abbrev pub doc_key_of : Query → Form → DocKey
doc_key_of q f = record { query = q; form = f }

-- the answer is one that the fetcher may give, and the client takes it as it is, or finds no memory for it
pub record IsFetched {S : Type 0} (gives : S → DocKey → Result Fetched Fault → S → Type 0) (f : Form) (old : S) (x : Exchange) (new : S) : Type 0 where
  pub given : gives old (doc_key_of x.query f) x.answer new
  pub told : Gives (λ t. t) x.told (told_in_answer (is_delta x.query) x.answer)

-- fetches one after another
abbrev pub AreFetched : {S : Type 0} → (S → DocKey → Result Fetched Fault → S → Type 0) → Form → S → List Exchange → S → Type 0
AreFetched gives f old [] new = new ≡ old
AreFetched {S} gives f old (x ∷ xs) new = (mid : S) × IsFetched gives f old x mid × AreFetched gives f mid xs new

-- ---- what a kind of client makes of documents; K is what it keeps once it has a copy

-- after a delta: whether that is all, and what is kept
abbrev pub OfDelta : Type 0 → Type 0
OfDelta K = K → ToldDocument → Bool × K

-- what a refresh comes to
pub record Outcome (K : Type 0) : Type 0 where
  pub answer : Result Refreshed Fault
  pub kept : Option K

abbrev pub outcome_of : {K : Type 0} → Result Refreshed Fault → Option K → Outcome K
outcome_of answer kept = record { answer = answer; kept = kept }

-- after a full document
abbrev pub OfFull : Type 0 → Type 0
OfFull K = Refreshed → Option K → ToldDocument → Outcome K

-- ---- the order of the fetches

abbrev pub full_by : {K : Type 0} → OfFull K → Refreshed → Option K → FetchAnswer → Outcome K
full_by full done held (Err e) = outcome_of (Err e) held
full_by full done held (Ok None) = outcome_of (Err NotFetched) held
full_by full done held (Ok (Some m)) = full done held m

-- all apps are fetched, and nothing else
pub record IsFull {K : Type 0} (full : OfFull K) (done : Refreshed) (held : Option K) (log : List Exchange) (o : Outcome K) : Type 0 where
  pub answer : Result Fetched Fault
  pub told : FetchAnswer
  pub log_is : log ≡ exchange query.Apps answer told ∷ []
  pub comes : o ≡ full_by full done held told

-- after the delta: nothing more where that is all, else a full document
abbrev pub IsRest : {K : Type 0} → OfFull K → Bool × K → List Exchange → Outcome K → Type 0
IsRest full (true, k) rest o = (rest ≡ []) × (o ≡ outcome_of (Ok refreshed.Delta) (Some k))
IsRest full (false, k) rest o = IsFull full refreshed.DeltaThenFull (Some k) rest o

-- after the answer to the fetch of the delta: nothing more where it was refused, a full document where there is none
abbrev pub GoesOnAfterDelta : {K : Type 0} → OfDelta K → OfFull K → K → FetchAnswer → List Exchange → Outcome K → Type 0
GoesOnAfterDelta delta full k (Err e) rest o = (rest ≡ []) × (o ≡ outcome_of (Err e) (Some k))
GoesOnAfterDelta delta full k (Ok None) rest o = IsFull full refreshed.Full (Some k) rest o
GoesOnAfterDelta delta full k (Ok (Some m)) rest o = IsRest full (delta k m) rest o

-- the delta is fetched first
pub record IsDeltaFirst {K : Type 0} (delta : OfDelta K) (full : OfFull K) (k : K) (log : List Exchange) (o : Outcome K) : Type 0 where
  pub answer : Result Fetched Fault
  pub told : FetchAnswer
  pub rest : List Exchange
  pub log_is : log ≡ exchange query.Delta answer told ∷ rest
  pub comes : GoesOnAfterDelta delta full k told rest o

-- a refresh: without a copy all apps are fetched, with one the delta comes first
abbrev pub IsCourse : {K : Type 0} → OfDelta K → OfFull K → Option K → List Exchange → Outcome K → Type 0
IsCourse delta full None log o = IsFull full refreshed.Full None log o
IsCourse delta full (Some k) log o = IsDeltaFirst delta full k log o

-- ---- plain clients (Eureka's)

-- a delta is overlaid, and is all where the hash codes are equal
abbrev pub plain_delta : OfDelta CopyRows
plain_delta s m = let rows = overlay s m.meaning.mentions in (hash_equal m.meaning.hash rows, rows)

-- a full document is the copy
abbrev pub plain_full : OfFull CopyRows
plain_full done held m = outcome_of (Ok done) (Some (copied m.meaning.mentions))

-- ---- certified clients, which ask for documents of a form (this project's own rule)

-- the copy after a delta
abbrev pub overlaid : Form → CertifiedCopy → ToldDocument → Cert → CertifiedCopy
overlaid f k m c = record { copy = overlay k.copy m.meaning.mentions; known = known_at f c }

-- the copy that a document of all apps makes
abbrev pub copy_made : Form → ToldDocument → Cert → CertifiedCopy
copy_made f m c = record { copy = copied m.meaning.mentions; known = known_at f c }

abbrev pub delta_by : Form → CertifiedCopy → ToldDocument → Option Cert → Bool × CertifiedCopy
delta_by f k m None = (false, k)
delta_by f k m (Some c) = if reaches c k.known then (true, overlaid f k m c) else (false, k)

-- a delta that is certified and reaches the copy is overlaid, and is all; every other one is left
abbrev pub certified_delta : Form → OfDelta CertifiedCopy
certified_delta f k m = delta_by f k m m.cert

-- where there is no copy every document is taken
abbrev pub is_taken : Option CertifiedCopy → Cert → Bool
is_taken None c = true
is_taken (Some k) c = gives_way c k.known

abbrev pub renewed_by : Form → Refreshed → Option CertifiedCopy → ToldDocument → Option Cert → Outcome CertifiedCopy
renewed_by f done held m None = outcome_of (Err BadDocument) held
renewed_by f done held m (Some c) = if is_taken held c then outcome_of (Ok done) (Some (copy_made f m c)) else outcome_of (Ok refreshed.Kept) held

-- a full document that is certified becomes the copy, if the copy gives way to it; one that isn't is refused
abbrev pub certified_full : Form → OfFull CertifiedCopy
certified_full f done held m = renewed_by f done held m m.cert
