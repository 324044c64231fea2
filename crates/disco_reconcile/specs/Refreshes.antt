-- What a refresh of a client does.
use Rattle.std.specs.Prelude.{◌≡◌, ◌⊎◌, ℕ, List, [], ◌∷◌, Option, Some, None, Result, Err}
use Rattle.disco_instance.specs.Mention.{Mention}
use Rattle.disco_values.specs.declared.fault.Fault.{Fault}
use Rattle.disco_values.specs.declared.form.Form.{Form}
use Rattle.disco_history.specs.Mentions.{overlay}
use Rattle.disco_values.specs.declared.doc_key.DocKey.{DocKey}
use Rattle.disco_http.specs.Causes.{Raises}
use Rattle.disco_reconcile.specs.Courses.{AreFetched, Exchange, IsCourse, certified_delta, certified_full, outcome_of, plain_delta, plain_full}
use Rattle.disco_reconcile.specs.Failures.{Gave, IsFailure}
use Rattle.disco_reconcile.specs.State.{CopyRows, ClientState}
use Rattle.disco_reconcile.specs.Tracked.{FollowsTracks, NeverFalls, StaysExact}
use Rattle.disco_reconcile.specs.declared.fetch.Fetched.{Fetched}
use Rattle.disco_reconcile.specs.declared.kept.Kept.{Kept}
use Rattle.disco_reconcile.specs.declared.kept.Kept.TheVariants.{Plain, Certified}
use Rattle.disco_reconcile.specs.declared.refreshed.Refreshed.{Refreshed}

-- the fetches came to this, by the rule of the client's kind
abbrev pub IsCourseOf : Form → Kept → List Exchange → Result Refreshed Fault → Kept → Type 0
IsCourseOf f (Plain held) log result (Plain kept) = IsCourse plain_delta plain_full held log (outcome_of result kept)
IsCourseOf f (Certified held) log result (Certified kept) = IsCourse (certified_delta f) (certified_full f) held log (outcome_of result kept)
IsCourseOf f _ log result _ = ⊥

-- a delta was overlaid, and no more
abbrev pub IsOverlaidOn : Option CopyRows → Option CopyRows → Type 0
IsOverlaidOn None kept = ⊥
IsOverlaidOn (Some s) kept = (ms : List Mention) × (kept ≡ Some (overlay s ms))

-- what is left after a refusal: the old copy, or a plain client's after the overlay that a refused document followed
abbrev pub IsLeft : Kept → Kept → Type 0
IsLeft (Plain held) (Plain kept) = (kept ≡ held) ⊎ IsOverlaidOn held kept
IsLeft (Certified held) (Certified kept) = kept ≡ held
IsLeft _ _ = ⊥

-- which version of which history the copy is, where the documents mean what they have to
abbrev pub KeepsTrack : Form → Kept → List Exchange → Kept → Type 0
KeepsTrack f (Plain held) log (Plain kept) = FollowsTracks f held log kept
KeepsTrack f (Certified held) log (Certified kept) = StaysExact f held log kept × NeverFalls held kept
KeepsTrack f _ log _ = ⊥

-- a fetch failed
abbrev pub HasFailed : List Exchange → Type 0
HasFailed [] = ⊥
HasFailed (x ∷ xs) = IsFailure x.answer ⊎ HasFailed xs

-- some fetches were made, one after another; they came to this; and where the documents mean what they have to, the copy is known
pub record Refreshes {S : Type 0} (gives : S → DocKey → Result Fetched Fault → S → Type 0) (failed : S → ℕ) (old : ClientState S)
    (result : Result Refreshed Fault) (new : ClientState S) : Type 0 where
  pub form : new.form ≡ old.form
  pub log : List Exchange
  pub fetched : AreFetched (Gave gives failed) old.form old.fetcher log new.fetcher
  pub course : IsCourseOf old.form old.kept log result new.kept
  pub cause : HasFailed log → Raises (failed old.fetcher) (failed new.fetcher)
  pub left : (e : Fault) → result ≡ Err e → IsLeft old.kept new.kept
  pub keeps : KeepsTrack old.form old.kept log new.kept
