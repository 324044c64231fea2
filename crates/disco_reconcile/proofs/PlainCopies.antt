-- What a refresh makes of a plain client's copy.
use Rattle.std.proofs.Common.{◌≡◌, ◌⊎◌, Bool, true, false, List, ◌∷◌, Option, Some, None, Result, Ok, Err, refl, sym, ap, subst, inl, inr}
use Rattle.disco_values.specs.declared.cert.Cert.{Cert}
use Rattle.disco_values.specs.declared.fault.Fault.{Fault}
use Rattle.disco_values.specs.declared.form.Form.{Form}
use Rattle.disco_history.specs.Mentions.{overlay}
use Rattle.disco_values.specs.declared.query.Query.{Query}
use Rattle.disco_values.specs.declared.query.Query.TheVariants as query
use Rattle.disco_client.specs.Tracks.{Histories}
use Rattle.disco_client.specs.declared.known.Known.{Known}
use Rattle.disco_reconcile.proofs.Exactness.{delta_means, full_means}
use Rattle.disco_reconcile.proofs.ToldFetches.{AreAsTold, IsAsTold, came_from, kept_is}
use Rattle.disco_reconcile.specs.Courses.{Exchange, GoesOnAfterDelta, IsCourse, IsFull, IsRest, exchange, full_by, outcome_of, plain_delta, plain_full}
use Rattle.disco_reconcile.specs.Refreshes.{IsOverlaidOn}
use Rattle.disco_reconcile.specs.State.{CopyRows}
use Rattle.disco_reconcile.specs.Told.{FetchAnswer, ToldDocument}
use Rattle.disco_reconcile.specs.Tracked.{FollowsTracks, IsGood, Means, known_after, known_by}
use Rattle.disco_reconcile.specs.declared.fetch.Fetched.{Fetched}
use Rattle.disco_reconcile.specs.declared.refreshed.Refreshed.{Refreshed}
use Rattle.disco_reconcile.specs.declared.refreshed.Refreshed.TheVariants.{Full, DeltaThenFull}

-- ---- where the copy is known

abbrev GoodWhere : Histories → Form → Query → Result Fetched Fault → FetchAnswer → Cert → Type 0
GoodWhere hs f q answer told c = (m : ToldDocument) → told ≡ Ok (Some m) → IsGood hs f c (exchange q answer told)

full_follows : (hs : Histories) (f : Form) (at : Option Known) (c : Cert) (done : Refreshed) (held kept : Option CopyRows) (result : Result Refreshed Fault) (answer : Result Fetched Fault) (told : FetchAnswer)
    → IsAsTold query.Apps answer told → outcome_of result kept ≡ full_by plain_full done held told → GoodWhere hs f query.Apps answer told c → Means hs at held → Means hs (known_after query.Apps at f c told) kept
full_follows hs f at c done held kept result answer (Err e) is o good means = subst (Means hs at) (sym (ap (λ x. x.kept) o)) means
full_follows hs f at c done held kept result answer (Ok None) is o good means = subst (Means hs at) (sym (ap (λ x. x.kept) o)) means
full_follows hs f at c done held kept result answer (Ok (Some m)) is o good means =
    let from = came_from false answer m is in
    subst (Means hs (known_by false at f c)) (sym (ap (λ x. x.kept) o)) (full_means hs f c from.fetched.body m.meaning (good m refl from.fetched from.answered) from.told.means)

delta_follows : (hs : Histories) (f : Form) (at : Option Known) (c : Cert) (rows : CopyRows) (answer : Result Fetched Fault) (m : ToldDocument)
    → IsAsTold query.Delta answer (Ok (Some m)) → IsGood hs f c (exchange query.Delta answer (Ok (Some m))) → Means hs at (Some rows) → Means hs (known_by true at f c) (Some (overlay rows m.meaning.mentions))
delta_follows hs f at c rows answer m is good means =
    let from = came_from true answer m is in
    delta_means hs f c at rows from.fetched.body m.meaning means (good from.fetched from.answered) from.told.means

full_log : (f : Form) (done : Refreshed) (held kept : Option CopyRows) (result : Result Refreshed Fault) (log : List Exchange) → AreAsTold log → IsFull plain_full done held log (outcome_of result kept) → FollowsTracks f held log kept
full_log f done held kept result log told i =
    let told' = subst AreAsTold i.log_is told in
    subst (λ l. FollowsTracks f held l kept) (sym i.log_is) (λ hs at names good means. full_follows hs f at (names query.Apps) done held kept result i.answer i.told told'.0 i.comes good.0 means)

rest_log : (f : Form) (p : Bool × CopyRows) (kept : Option CopyRows) (result : Result Refreshed Fault) (rest : List Exchange) → AreAsTold rest → IsRest plain_full p rest (outcome_of result kept) → FollowsTracks f (Some p.1) rest kept
rest_log f (true, s) kept result rest told i = subst (λ l. FollowsTracks f (Some s) l kept) (sym i.0) (λ hs at names good means. subst (Means hs at) (sym (kept_is result kept _ i.1)) means)
rest_log f (false, s) kept result rest told i = full_log f DeltaThenFull (Some s) kept result rest told i

delta_log : (f : Form) (s : CopyRows) (kept : Option CopyRows) (result : Result Refreshed Fault) (answer : Result Fetched Fault) (told : FetchAnswer) (rest : List Exchange)
    → IsAsTold query.Delta answer told → AreAsTold rest → GoesOnAfterDelta plain_delta plain_full s told rest (outcome_of result kept) → FollowsTracks f (Some s) (exchange query.Delta answer told ∷ rest) kept
delta_log f s kept result answer (Err e) rest is told i =
    subst (λ l. FollowsTracks f (Some s) (exchange query.Delta answer (Err e) ∷ l) kept) (sym i.0) (λ hs at names good means. subst (Means hs at) (sym (kept_is result kept _ i.1)) means)
delta_log f s kept result answer (Ok None) rest is told i = λ hs at names good means. full_log f Full (Some s) kept result rest told i hs at names good.1 means
delta_log f s kept result answer (Ok (Some m)) rest is told i = λ hs at names good means.
    rest_log f (plain_delta s m) kept result rest told i hs (known_by true at f (names query.Delta)) names good.1 (delta_follows hs f at (names query.Delta) s answer m is (good.0 m refl) means)

pub plain_follows : (f : Form) (held kept : Option CopyRows) (result : Result Refreshed Fault) (log : List Exchange) → AreAsTold log → IsCourse plain_delta plain_full held log (outcome_of result kept) → FollowsTracks f held log kept
plain_follows f None kept result log told i = full_log f Full None kept result log told i
plain_follows f (Some s) kept result log told i =
    let told' = subst AreAsTold i.log_is told in
    subst (λ l. FollowsTracks f (Some s) l kept) (sym i.log_is) (delta_log f s kept result i.answer i.told i.rest told'.0 told'.1 i.comes)

-- ---- what is left after a refusal

full_left : (e : Fault) (done : Refreshed) (held kept : Option CopyRows) (result : Result Refreshed Fault) (told : FetchAnswer) → outcome_of result kept ≡ full_by plain_full done held told → result ≡ Err e → kept ≡ held
full_left e done held kept result (Err x) o is = kept_is result kept _ o
full_left e done held kept result (Ok None) o is = kept_is result kept _ o
full_left e done held kept result (Ok (Some m)) o is = let r : result ≡ Ok done = ap (λ x. x.answer) o in absurd (cc)

rest_left : (e : Fault) (p : Bool × CopyRows) (kept : Option CopyRows) (result : Result Refreshed Fault) (rest : List Exchange) → IsRest plain_full p rest (outcome_of result kept) → result ≡ Err e → kept ≡ Some p.1
rest_left e (true, s) kept result rest i is = kept_is result kept _ i.1
rest_left e (false, s) kept result rest i is = full_left e DeltaThenFull (Some s) kept result i.told i.comes is

delta_left : (e : Fault) (s : CopyRows) (kept : Option CopyRows) (result : Result Refreshed Fault) (told : FetchAnswer) (rest : List Exchange) → GoesOnAfterDelta plain_delta plain_full s told rest (outcome_of result kept) → result ≡ Err e → (kept ≡ Some s) ⊎ IsOverlaidOn (Some s) kept
delta_left e s kept result (Err x) rest i is = inl (kept_is result kept _ i.1)
delta_left e s kept result (Ok None) rest i is = inl (full_left e Full (Some s) kept result i.told i.comes is)
delta_left e s kept result (Ok (Some m)) rest i is = inr (m.meaning.mentions, rest_left e (plain_delta s m) kept result rest i is)

pub plain_left : (held kept : Option CopyRows) (result : Result Refreshed Fault) (log : List Exchange) → IsCourse plain_delta plain_full held log (outcome_of result kept) → (e : Fault) → result ≡ Err e → (kept ≡ held) ⊎ IsOverlaidOn held kept
plain_left None kept result log i e is = inl (full_left e Full None kept result i.told i.comes is)
plain_left (Some s) kept result log i e is = delta_left e s kept result i.told i.rest i.comes is
