-- A failed fetch raises the count of failures, since nothing is fetched after one.
use Rattle.std.proofs.Common.{◌≡◌, ℕ, ◌≤◌, Bool, true, false, List, [], ◌∷◌, Option, Some, None, Result, Ok, Err, refl, sym, subst, arith, inl, inr}
use Rattle.disco_values.specs.declared.fault.Fault.{Fault}
use Rattle.disco_values.specs.declared.form.Form.{Form}
use Rattle.disco_values.specs.declared.query.Query.{Query}
use Rattle.disco_values.specs.declared.query.Query.TheVariants as query
use Rattle.disco_values.specs.declared.doc_key.DocKey.{DocKey}
use Rattle.disco_http.specs.Causes.{Raises}
use Rattle.disco_reconcile.proofs.ToldFetches.{IsAsTold}
use Rattle.disco_reconcile.specs.Courses.{AreFetched, Exchange, GoesOnAfterDelta, IsCourse, IsFull, IsRest, OfDelta, OfFull, exchange, outcome_of}
use Rattle.disco_reconcile.specs.Failures.{Gave, IsFailure}
use Rattle.disco_reconcile.specs.Refreshes.{HasFailed}
use Rattle.disco_reconcile.specs.Told.{FetchAnswer}
use Rattle.disco_reconcile.specs.declared.fetch.Fetched.{Fetched}
use Rattle.disco_reconcile.specs.declared.refreshed.Refreshed.{Refreshed}
use Rattle.disco_reconcile.specs.declared.refreshed.Refreshed.TheVariants.{Full, DeltaThenFull}

later_count : (a b c : ℕ) → a ≤ b → Raises b c → Raises a c
later_count a b c le (inl h) = inl (omega arith)
later_count a b c le (inr h) = inr h

-- a failed fetch tells no document, and not that there is none
failed_is : (q : Query) (answer : Result Fetched Fault) (told : FetchAnswer) → IsAsTold q answer told → IsFailure answer → (e : Fault) × (told ≡ Err e)
failed_is q (Ok x) told is failed = absurd failed
failed_is q (Err e) (Err x) is failed = (x, refl)
failed_is q (Err e) (Ok o) is failed = absurd (cc)

module _ {S K : Type 0} (gives : S → DocKey → Result Fetched Fault → S → Type 0) (failed : S → ℕ) (delta : OfDelta K) (full : OfFull K) (f : Form) where
  one_raises : (x : Exchange) (old new : S) → AreFetched (Gave gives failed) f old (x ∷ []) new → HasFailed (x ∷ []) → Raises (failed old) (failed new)
  one_raises x old new a (inl h) = subst (λ s. Raises (failed old) (failed s)) (sym a.2) (a.1.given.cause h)
  one_raises x old new a (inr h) = absurd h

  full_raises : (done : Refreshed) (held kept : Option K) (result : Result Refreshed Fault) (log : List Exchange) (old new : S) → IsFull full done held log (outcome_of result kept) → AreFetched (Gave gives failed) f old log new → HasFailed log → Raises (failed old) (failed new)
  full_raises done held kept result log old new i =
      subst (λ l. AreFetched (Gave gives failed) f old l new → HasFailed l → Raises (failed old) (failed new)) (sym i.log_is) (one_raises (exchange query.Apps i.answer i.told) old new)

  rest_raises : (p : Bool × K) (kept : Option K) (result : Result Refreshed Fault) (rest : List Exchange) (old new : S) → IsRest full p rest (outcome_of result kept) → AreFetched (Gave gives failed) f old rest new → HasFailed rest → Raises (failed old) (failed new)
  rest_raises (true, s) kept result rest old new i a h = absurd (subst HasFailed i.0 h)
  rest_raises (false, s) kept result rest old new i a h = full_raises DeltaThenFull (Some s) kept result rest old new i a h

  behind_raises : (s : K) (told : FetchAnswer) (kept : Option K) (result : Result Refreshed Fault) (rest : List Exchange) (old new : S) → GoesOnAfterDelta delta full s told rest (outcome_of result kept) → AreFetched (Gave gives failed) f old rest new → HasFailed rest → Raises (failed old) (failed new)
  behind_raises s (Err e) kept result rest old new i a h = absurd (subst HasFailed i.0 h)
  behind_raises s (Ok None) kept result rest old new i a h = full_raises Full (Some s) kept result rest old new i a h
  behind_raises s (Ok (Some m)) kept result rest old new i a h = rest_raises (delta s m) kept result rest old new i a h

  -- nothing follows a delta that failed
  alone : (s : K) (told : FetchAnswer) (kept : Option K) (result : Result Refreshed Fault) (rest : List Exchange) (e : Fault) → told ≡ Err e → GoesOnAfterDelta delta full s told rest (outcome_of result kept) → rest ≡ []
  alone s (Err x) kept result rest e is i = i.0
  alone s (Ok o) kept result rest e is i = absurd (cc)

  delta_raises : (s : K) (kept : Option K) (result : Result Refreshed Fault) (answer : Result Fetched Fault) (told : FetchAnswer) (rest : List Exchange) (old new : S) → GoesOnAfterDelta delta full s told rest (outcome_of result kept)
      → AreFetched (Gave gives failed) f old (exchange query.Delta answer told ∷ rest) new → HasFailed (exchange query.Delta answer told ∷ rest) → Raises (failed old) (failed new)
  delta_raises s kept result answer told rest old new i a (inl h) =
      let why = failed_is query.Delta answer told a.1.told h in
      let last = alone s told kept result rest why.0 why.1 i in
      one_raises (exchange query.Delta answer told) old new (subst (λ l. AreFetched (Gave gives failed) f old (exchange query.Delta answer told ∷ l) new) last a) (inl h)
  delta_raises s kept result answer told rest old new i a (inr h) = later_count (failed old) (failed a.0) (failed new) a.1.given.count (behind_raises s told kept result rest a.0 new i a.2 h)

  pub raises : (held kept : Option K) (result : Result Refreshed Fault) (log : List Exchange) (old new : S) → IsCourse delta full held log (outcome_of result kept) → AreFetched (Gave gives failed) f old log new → HasFailed log → Raises (failed old) (failed new)
  raises None kept result log old new i = full_raises Full None kept result log old new i
  raises (Some s) kept result log old new i =
      subst (λ l. AreFetched (Gave gives failed) f old l new → HasFailed l → Raises (failed old) (failed new)) (sym i.log_is) (delta_raises s kept result i.answer i.told i.rest old new i.comes)
