-- The document of a fetch, and the answer that it came from.
use Rattle.std.proofs.Common.{◌≡◌, Bool, List, [], ◌∷◌, Option, Some, Result, Ok, Err, refl, ap}
use Rattle.disco_instance.specs.Instance.{Gives}
use Rattle.disco_values.specs.declared.fault.Fault.{Fault}
use Rattle.disco_values.specs.declared.form.Form.{Form}
use Rattle.disco_values.specs.Query.{is_delta}
use Rattle.disco_values.specs.declared.query.Query.{Query}
use Rattle.disco_values.specs.declared.doc_key.DocKey.{DocKey}
use Rattle.disco_reconcile.proofs.Steps.{IsTold, told_is}
use Rattle.disco_reconcile.specs.Courses.{AreFetched, Exchange, Outcome, outcome_of}
use Rattle.disco_reconcile.specs.Told.{FetchAnswer, ToldDocument, told_in_answer}
use Rattle.disco_reconcile.specs.declared.fetch.Fetched.{Fetched}
use Rattle.disco_reconcile.specs.declared.refreshed.Refreshed.{Refreshed}

abbrev pub IsAsTold : Query → Result Fetched Fault → FetchAnswer → Type 0
IsAsTold q answer told = Gives (λ t. t) told (told_in_answer (is_delta q) answer)

-- each exchange of a log tells what its answer does
abbrev pub AreAsTold : List Exchange → Type 0
AreAsTold [] = Unit {0}
AreAsTold (x ∷ xs) = IsAsTold x.query x.answer x.told × AreAsTold xs

pub are_as_told : {S : Type 0} (gives : S → DocKey → Result Fetched Fault → S → Type 0) (f : Form) (log : List Exchange) (old new : S) → AreFetched gives f old log new → AreAsTold log
are_as_told gives f [] old new a = tt
are_as_told gives f (x ∷ xs) old new a = (a.1.told, are_as_told gives f xs a.0 new a.2)

-- the answer that a told document came from
pub record From (answer : Result Fetched Fault) (m : ToldDocument) : Type 0 where
  pub fetched : Fetched
  pub answered : answer ≡ Ok fetched
  pub told : IsTold fetched m

pub came_from : (delta : Bool) (answer : Result Fetched Fault) (m : ToldDocument) → told_in_answer delta answer ≡ Ok (Some m) → From answer m
came_from delta (Err e) m t = absurd (cc)
came_from delta (Ok x) m t = record { fetched = x; answered = refl; told = told_is delta x m t }

pub kept_is : {K : Type 0} (result : Result Refreshed Fault) (kept : Option K) (o : Outcome K) → outcome_of result kept ≡ o → kept ≡ o.kept
kept_is result kept o e = ap (λ x. x.kept) e
