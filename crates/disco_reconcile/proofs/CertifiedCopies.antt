-- What a refresh makes of a certified client's copy.
use Rattle.std.proofs.Common.{◌≡◌, Bool, true, false, cond, List, ◌∷◌, Option, Some, None, Result, Ok, Err, refl, sym, ap, subst, arith}
use Rattle.disco_values.specs.declared.cert.Cert.{Cert}
use Rattle.disco_values.specs.declared.fault.Fault.{Fault}
use Rattle.disco_values.specs.declared.form.Form.{Form}
use Rattle.disco_values.specs.declared.query.Query.{Query}
use Rattle.disco_values.specs.declared.query.Query.TheVariants as query
use Rattle.disco_client.specs.Tracks.{Histories, gives_way, reaches}
use Rattle.disco_client.specs.declared.certified.CertifiedCopy.{CertifiedCopy}
use Rattle.disco_client.proofs.KnownVersions.{reached, rises}
use Rattle.disco_reconcile.proofs.Exactness.{full_means, reached_means}
use Rattle.disco_reconcile.proofs.ToldFetches.{AreAsTold, IsAsTold, came_from, kept_is}
use Rattle.disco_reconcile.specs.Courses.{Exchange, GoesOnAfterDelta, IsCourse, IsFull, IsRest, certified_delta, certified_full, delta_by, exchange, full_by, is_taken, outcome_of, overlaid, copy_made, renewed_by}
use Rattle.disco_reconcile.specs.Told.{FetchAnswer, ToldDocument}
use Rattle.disco_reconcile.specs.Tracked.{IsExact, IsGood, NeverFalls, StaysExact}
use Rattle.disco_reconcile.specs.declared.fetch.Fetched.{Fetched}
use Rattle.disco_reconcile.specs.declared.refreshed.Refreshed.{Refreshed}
use Rattle.disco_reconcile.specs.declared.refreshed.Refreshed.TheVariants.{Full, Delta, DeltaThenFull, Kept}

abbrev Held : Type 0
Held = Option CertifiedCopy

-- ---- the copy stays exact

abbrev GoodWhere : Histories → Form → Query → Result Fetched Fault → FetchAnswer → Type 0
GoodWhere hs f q answer told = (m : ToldDocument) (c : Cert) → told ≡ Ok (Some m) → m.cert ≡ Some c → IsGood hs f c (exchange q answer told)

taken_exact : (hs : Histories) (f : Form) (done : Refreshed) (held : Held) (m : ToldDocument) (answer : Result Fetched Fault) (c : Cert) (b : Bool)
    → IsAsTold query.Apps answer (Ok (Some m)) → IsGood hs f c (exchange query.Apps answer (Ok (Some m))) → IsExact hs f held
    → IsExact hs f ((cond b (outcome_of (Ok done) (Some (copy_made f m c))) (outcome_of (Ok Kept) held)).kept)
taken_exact hs f done held m answer c true is good exact =
    let from = came_from false answer m is in
    (refl, full_means hs f c from.fetched.body m.meaning (good from.fetched from.answered) from.told.means)
taken_exact hs f done held m answer c false is good exact = exact

renewed_exact : (hs : Histories) (f : Form) (done : Refreshed) (held : Held) (m : ToldDocument) (answer : Result Fetched Fault) (o : Option Cert) → m.cert ≡ o
    → IsAsTold query.Apps answer (Ok (Some m)) → GoodWhere hs f query.Apps answer (Ok (Some m)) → IsExact hs f held → IsExact hs f ((renewed_by f done held m o).kept)
renewed_exact hs f done held m answer None e is good exact = exact
renewed_exact hs f done held m answer (Some c) e is good exact = taken_exact hs f done held m answer c (is_taken held c) is (good m c refl e) exact

full_exact : (hs : Histories) (f : Form) (done : Refreshed) (held kept : Held) (result : Result Refreshed Fault) (answer : Result Fetched Fault) (told : FetchAnswer)
    → IsAsTold query.Apps answer told → outcome_of result kept ≡ full_by (certified_full f) done held told → GoodWhere hs f query.Apps answer told → IsExact hs f held → IsExact hs f kept
full_exact hs f done held kept result answer (Err e) is o good exact = subst (IsExact hs f) (sym (kept_is result kept _ o)) exact
full_exact hs f done held kept result answer (Ok None) is o good exact = subst (IsExact hs f) (sym (kept_is result kept _ o)) exact
full_exact hs f done held kept result answer (Ok (Some m)) is o good exact =
    subst (IsExact hs f) (sym (kept_is result kept _ o)) (renewed_exact hs f done held m answer m.cert refl is good exact)

full_log : (f : Form) (done : Refreshed) (held kept : Held) (result : Result Refreshed Fault) (log : List Exchange) → AreAsTold log → IsFull (certified_full f) done held log (outcome_of result kept) → StaysExact f held log kept
full_log f done held kept result log told i =
    let told' = subst AreAsTold i.log_is told in
    subst (λ l. StaysExact f held l kept) (sym i.log_is) (λ hs good exact. full_exact hs f done held kept result i.answer i.told told'.0 i.comes good.0 exact)

overlaid_exact : (hs : Histories) (f : Form) (k : CertifiedCopy) (m : ToldDocument) (answer : Result Fetched Fault) (c : Cert) (b : Bool) → reaches c k.known ≡ b
    → IsAsTold query.Delta answer (Ok (Some m)) → IsGood hs f c (exchange query.Delta answer (Ok (Some m))) → IsExact hs f (Some k)
    → IsExact hs f (Some ((cond {A = Bool × CertifiedCopy} b (true, overlaid f k m c) (false, k)).1))
overlaid_exact hs f k m answer c true e is good exact =
    let from = came_from true answer m is in
    (refl, reached_means hs f c k.known k.copy from.fetched.body m.meaning exact.0 (reached c k.known e) exact.1 (good from.fetched from.answered) from.told.means)
overlaid_exact hs f k m answer c false e is good exact = exact

delta_exact : (hs : Histories) (f : Form) (k : CertifiedCopy) (m : ToldDocument) (answer : Result Fetched Fault) (o : Option Cert) → m.cert ≡ o
    → IsAsTold query.Delta answer (Ok (Some m)) → GoodWhere hs f query.Delta answer (Ok (Some m)) → IsExact hs f (Some k) → IsExact hs f (Some ((delta_by f k m o).1))
delta_exact hs f k m answer None e is good exact = exact
delta_exact hs f k m answer (Some c) e is good exact = overlaid_exact hs f k m answer c (reaches c k.known) refl is (good m c refl e) exact

rest_log : (f : Form) (p : Bool × CertifiedCopy) (kept : Held) (result : Result Refreshed Fault) (rest : List Exchange) → AreAsTold rest → IsRest (certified_full f) p rest (outcome_of result kept) → StaysExact f (Some p.1) rest kept
rest_log f (true, k) kept result rest told i = λ hs good exact. subst (IsExact hs f) (sym (kept_is result kept _ i.1)) exact
rest_log f (false, k) kept result rest told i = full_log f DeltaThenFull (Some k) kept result rest told i

delta_log : (f : Form) (k : CertifiedCopy) (kept : Held) (result : Result Refreshed Fault) (answer : Result Fetched Fault) (told : FetchAnswer) (rest : List Exchange)
    → IsAsTold query.Delta answer told → AreAsTold rest → GoesOnAfterDelta (certified_delta f) (certified_full f) k told rest (outcome_of result kept) → StaysExact f (Some k) (exchange query.Delta answer told ∷ rest) kept
delta_log f k kept result answer (Err e) rest is told i = λ hs good exact. subst (IsExact hs f) (sym (kept_is result kept _ i.1)) exact
delta_log f k kept result answer (Ok None) rest is told i = λ hs good exact. full_log f Full (Some k) kept result rest told i hs good.1 exact
delta_log f k kept result answer (Ok (Some m)) rest is told i = λ hs good exact.
    rest_log f (certified_delta f k m) kept result rest told i hs good.1 (delta_exact hs f k m answer m.cert refl is good.0 exact)

pub certified_stays : (f : Form) (held kept : Held) (result : Result Refreshed Fault) (log : List Exchange) → AreAsTold log → IsCourse (certified_delta f) (certified_full f) held log (outcome_of result kept) → StaysExact f held log kept
certified_stays f None kept result log told i = full_log f Full None kept result log told i
certified_stays f (Some k) kept result log told i =
    let told' = subst AreAsTold i.log_is told in
    subst (λ l. StaysExact f (Some k) l kept) (sym i.log_is) (delta_log f k kept result i.answer i.told i.rest told'.0 told'.1 i.comes)

-- ---- its version doesn't fall

taken_rises : (f : Form) (k : CertifiedCopy) (m : ToldDocument) (c : Cert) (b : Bool) → gives_way c k.known ≡ b → (done : Refreshed) → NeverFalls (Some k) ((cond b (outcome_of (Ok done) (Some (copy_made f m c))) (outcome_of (Ok Kept) (Some k))).kept)
taken_rises f k m c true e done = λ same. rises c k.known e same
taken_rises f k m c false e done = λ same. omega arith

renewed_rises : (f : Form) (k : CertifiedCopy) (m : ToldDocument) (o : Option Cert) (done : Refreshed) → NeverFalls (Some k) ((renewed_by f done (Some k) m o).kept)
renewed_rises f k m None done = λ same. omega arith
renewed_rises f k m (Some c) done = taken_rises f k m c (gives_way c k.known) refl done

full_rises : (f : Form) (k : CertifiedCopy) (kept : Held) (result : Result Refreshed Fault) (done : Refreshed) (told : FetchAnswer) → outcome_of result kept ≡ full_by (certified_full f) done (Some k) told → NeverFalls (Some k) kept
full_rises f k kept result done (Err e) o = subst (NeverFalls (Some k)) (sym (kept_is result kept _ o)) (λ same. omega arith)
full_rises f k kept result done (Ok None) o = subst (NeverFalls (Some k)) (sym (kept_is result kept _ o)) (λ same. omega arith)
full_rises f k kept result done (Ok (Some m)) o = subst (NeverFalls (Some k)) (sym (kept_is result kept _ o)) (renewed_rises f k m m.cert done)

overlaid_rises : (f : Form) (k : CertifiedCopy) (m : ToldDocument) (c : Cert) (b : Bool) → reaches c k.known ≡ b → (rest : List Exchange) (result : Result Refreshed Fault) (kept : Held)
    → IsRest (certified_full f) (cond b (true, overlaid f k m c) (false, k)) rest (outcome_of result kept) → NeverFalls (Some k) kept
overlaid_rises f k m c true e rest result kept i = subst (NeverFalls (Some k)) (sym (kept_is result kept _ i.1)) (λ same. (reached c k.known e).below)
overlaid_rises f k m c false e rest result kept i = full_rises f k kept result DeltaThenFull i.told i.comes

rest_rises : (f : Form) (k : CertifiedCopy) (m : ToldDocument) (o : Option Cert) (rest : List Exchange) (result : Result Refreshed Fault) (kept : Held) → IsRest (certified_full f) (delta_by f k m o) rest (outcome_of result kept) → NeverFalls (Some k) kept
rest_rises f k m None rest result kept i = full_rises f k kept result DeltaThenFull i.told i.comes
rest_rises f k m (Some c) rest result kept i = overlaid_rises f k m c (reaches c k.known) refl rest result kept i

delta_rises : (f : Form) (k : CertifiedCopy) (kept : Held) (result : Result Refreshed Fault) (told : FetchAnswer) (rest : List Exchange) → GoesOnAfterDelta (certified_delta f) (certified_full f) k told rest (outcome_of result kept) → NeverFalls (Some k) kept
delta_rises f k kept result (Err e) rest i = subst (NeverFalls (Some k)) (sym (kept_is result kept _ i.1)) (λ same. omega arith)
delta_rises f k kept result (Ok None) rest i = full_rises f k kept result Full i.told i.comes
delta_rises f k kept result (Ok (Some m)) rest i = rest_rises f k m m.cert rest result kept i

pub certified_rises : (f : Form) (held kept : Held) (result : Result Refreshed Fault) (log : List Exchange) → IsCourse (certified_delta f) (certified_full f) held log (outcome_of result kept) → NeverFalls held kept
certified_rises f None kept result log i = tt
certified_rises f (Some k) kept result log i = delta_rises f k kept result i.told i.rest i.comes

-- ---- what is left after a refusal

taken_left : (e : Fault) (done : Refreshed) (held kept new : Held) (result : Result Refreshed Fault) (b : Bool) → outcome_of result kept ≡ cond b (outcome_of (Ok done) new) (outcome_of (Ok Kept) held) → result ≡ Err e → kept ≡ held
taken_left e done held kept new result true o is = let r : result ≡ Ok done = ap (λ x. x.answer) o in absurd (cc)
taken_left e done held kept new result false o is = kept_is result kept _ o

renewed_left : (f : Form) (e : Fault) (done : Refreshed) (held kept : Held) (result : Result Refreshed Fault) (m : ToldDocument) (o : Option Cert) → outcome_of result kept ≡ renewed_by f done held m o → result ≡ Err e → kept ≡ held
renewed_left f e done held kept result m None o is = kept_is result kept _ o
renewed_left f e done held kept result m (Some c) o is = taken_left e done held kept _ result (is_taken held c) o is

full_left : (f : Form) (e : Fault) (done : Refreshed) (held kept : Held) (result : Result Refreshed Fault) (told : FetchAnswer) → outcome_of result kept ≡ full_by (certified_full f) done held told → result ≡ Err e → kept ≡ held
full_left f e done held kept result (Err x) o is = kept_is result kept _ o
full_left f e done held kept result (Ok None) o is = kept_is result kept _ o
full_left f e done held kept result (Ok (Some m)) o is = renewed_left f e done held kept result m m.cert o is

reached_left : (f : Form) (e : Fault) (k new : CertifiedCopy) (kept : Held) (result : Result Refreshed Fault) (b : Bool) (rest : List Exchange) → IsRest (certified_full f) (cond b (true, new) (false, k)) rest (outcome_of result kept) → result ≡ Err e → kept ≡ Some k
reached_left f e k new kept result true rest i is = let r : result ≡ Ok Delta = ap (λ x. x.answer) i.1 in absurd (cc)
reached_left f e k new kept result false rest i is = full_left f e DeltaThenFull (Some k) kept result i.told i.comes is

rest_left : (f : Form) (e : Fault) (k : CertifiedCopy) (kept : Held) (result : Result Refreshed Fault) (m : ToldDocument) (o : Option Cert) (rest : List Exchange) → IsRest (certified_full f) (delta_by f k m o) rest (outcome_of result kept) → result ≡ Err e → kept ≡ Some k
rest_left f e k kept result m None rest i is = full_left f e DeltaThenFull (Some k) kept result i.told i.comes is
rest_left f e k kept result m (Some c) rest i is = reached_left f e k _ kept result (reaches c k.known) rest i is

delta_left : (f : Form) (e : Fault) (k : CertifiedCopy) (kept : Held) (result : Result Refreshed Fault) (told : FetchAnswer) (rest : List Exchange) → GoesOnAfterDelta (certified_delta f) (certified_full f) k told rest (outcome_of result kept) → result ≡ Err e → kept ≡ Some k
delta_left f e k kept result (Err x) rest i is = kept_is result kept _ i.1
delta_left f e k kept result (Ok None) rest i is = full_left f e Full (Some k) kept result i.told i.comes is
delta_left f e k kept result (Ok (Some m)) rest i is = rest_left f e k kept result m m.cert rest i is

pub certified_left : (f : Form) (held kept : Held) (result : Result Refreshed Fault) (log : List Exchange) → IsCourse (certified_delta f) (certified_full f) held log (outcome_of result kept) → (e : Fault) → result ≡ Err e → kept ≡ held
certified_left f None kept result log i e is = full_left f e Full None kept result i.told i.comes is
certified_left f (Some k) kept result log i e is = delta_left f e k kept result i.told i.rest i.comes is
