-- One fetch, and what is made of it.
use Rattle.std.proofs.Common.{◌≡◌, Bool, true, false, cond, [], ◌∷◌, Option, Some, None, Result, Ok, Err, refl, sym, ap, subst, ◌∙◌, inl, inr}
use Rattle.std.specs.Result.{IsErr, IsErrAnd}
use Rattle.disco_values.specs.declared.cert.Cert.{Cert}
use Rattle.disco_values.specs.declared.fault.Fault.{Fault}
use Rattle.disco_values.specs.declared.fault.Fault.TheVariants.{OutOfMemory, NotFetched}
use Rattle.disco_values.specs.declared.form.Form.{Form}
use Rattle.disco_wire.specs.Documents.{document_of}
use Rattle.disco_wire.specs.Meaning.{Meaning}
use Rattle.disco_wire.specs.declared.wire.Shape.{Shape}
use Rattle.disco_wire.specs.declared.wire.Shape.TheVariants.{Many, App, One}
use Rattle.disco_values.specs.Query.{is_delta}
use Rattle.disco_values.specs.declared.query.Query.{Query}
use Rattle.disco_values.specs.declared.query.Query.TheVariants as query
use Rattle.disco_values.specs.declared.doc_key.DocKey.{DocKey}
use Rattle.disco_reconcile.specs.Courses.{Exchange, GoesOnAfterDelta, IsFull, IsRest, OfDelta, OfFull, exchange, outcome_of}
use Rattle.disco_reconcile.specs.Steps.{GoesThrough, IsAsked, IsPut, IsStep, StepTo, TakesFull, following, told_document}
use Rattle.disco_reconcile.specs.Told.{FetchAnswer, ToldDocument, agreed, of_shape, told_in_answer, told_of}
use Rattle.disco_reconcile.specs.declared.document.Document.{Document}
use Rattle.disco_reconcile.specs.declared.fetch.Fetched.{Fetched}
use Rattle.disco_reconcile.specs.declared.refreshed.Refreshed.{Refreshed}
use Rattle.disco_reconcile.specs.declared.refreshed.Refreshed.TheVariants.{Full, Delta, DeltaThenFull}

-- ---- what is told is the meaning of a body of many apps

-- a document that is told is what its body means
pub record IsTold (x : Fetched) (m : ToldDocument) : Type 0 where
  pub means : document_of x.body ≡ Ok m.meaning
  pub many : m.meaning.shape ≡ Many

shaped : (s : Shape) (m : Meaning) (cert : Option Cert) (n : ToldDocument) → of_shape s m cert ≡ Ok (Some n) → (m ≡ n.meaning) × (s ≡ Many)
shaped Many m cert n e = let i : record { meaning = m; cert = agreed m.version cert } ≡ n = cc in (ap (λ t. t.meaning) i, refl)
shaped App m cert n e = absurd (cc)
shaped One m cert n e = absurd (cc)

of_document : (x : Fetched) (n : ToldDocument) (r : Result Meaning Fault) → document_of x.body ≡ r → told_of x.cert r ≡ Ok (Some n) → IsTold x n
of_document x n (Err e) is t = absurd (cc)
of_document x n (Ok m) is t =
    let s = shaped m.shape m x.cert n t in
    record { means = is ∙ ap (λ m. Ok m) s.0; many = subst (λ n. n.shape ≡ Many) s.0 s.1 }

of_status : (x : Fetched) (m : ToldDocument) (ok none : Bool) → cond ok (told_of x.cert (document_of x.body)) (cond none (Ok None) (Err NotFetched)) ≡ Ok (Some m) → IsTold x m
of_status x m true none t = of_document x m (document_of x.body) refl t
of_status x m false true t = absurd (cc)
of_status x m false false t = absurd (cc)

pub told_is : (delta : Bool) (x : Fetched) (m : ToldDocument) → told_in_answer delta (Ok x) ≡ Ok (Some m) → IsTold x m
told_is delta x m t = of_status x m _ _ t

told_many : (delta : Bool) (a : Result Fetched Fault) (m : ToldDocument) → told_in_answer delta a ≡ Ok (Some m) → m.meaning.shape ≡ Many
told_many delta (Err e) m t = absurd (cc)
told_many delta (Ok x) m t = (told_is delta x m t).many

-- ---- the exchange of a fetch

module _ {S : Type 0} (gives : S → DocKey → Result Fetched Fault → S → Type 0) (f : Form) (old new : S) where
  pub asked_many : (q : Query) (d : Document) → IsAsked gives q f old (Ok (Some d)) new → d.wire.shape ≡ Many
  asked_many q d a = told_many (is_delta q) a.answer (told_document d) a.told

  module _ {K : Type 0} (full : OfFull K) (done : Refreshed) (held : Option K) where
    pub full_refused : (e : Fault) (result : Result Refreshed Fault) → IsAsked gives query.Apps f old (Err e) new → IsErr result × IsErrAnd result (λ x. x ≡ e) → TakesFull gives full f done old held result new held
    full_refused e (Ok v) a h = let no = h.0 in absurd (cc)
    full_refused e (Err x) a h = record {
      answer = a.answer;
      told = Err e;
      fetched = record { given = a.given; told = a.told };
      comes = ap (λ y. outcome_of (Err y) held) h.1;
    }

    pub full_unfound : (d : Option Document) → IsAsked gives query.Apps f old (Ok d) new → (e : Fault) → e ≡ OutOfMemory → (result : Result Refreshed Fault) → IsErr result × IsErrAnd result (λ x. x ≡ e) → TakesFull gives full f done old held result new held
    full_unfound d a e memory (Ok v) h = let no = h.0 in absurd (cc)
    full_unfound d a e memory (Err x) h = record {
      answer = a.answer;
      told = Err OutOfMemory;
      fetched = record { given = a.given; told = λ n. absurd (n refl) };
      comes = ap (λ y. outcome_of (Err y) held) (h.1 ∙ memory);
    }

    pub full_taken : (d : Document) → IsAsked gives query.Apps f old (Ok (Some d)) new → (result : Result Refreshed Fault) (kept : Option K) → outcome_of result kept ≡ full done held (told_document d) → TakesFull gives full f done old held result new kept
    full_taken d a result kept is = record {
      answer = a.answer;
      told = Ok (Some (told_document d));
      fetched = record { given = a.given; told = a.told };
      comes = is;
    }

    pub full_put : (d : Document) → IsAsked gives query.Apps f old (Ok (Some d)) new → (result : Result Refreshed Fault) (kept : Option K) → IsPut full done held (told_document d) result kept → TakesFull gives full f done old held result new kept
    full_put d a result kept (inl is) = full_taken d a result kept is
    full_put d a result kept (inr is) = record {
      answer = a.answer;
      told = Err OutOfMemory;
      fetched = record { given = a.given; told = λ n. absurd (n refl) };
      comes = is;
    }

  module _ {K : Type 0} (delta : OfDelta K) (held : K) where
    pub step_refused : (e : Fault) (result : Result (Option Refreshed) Fault) → IsAsked gives query.Delta f old (Err e) new → IsErr result × IsErrAnd result (λ x. x ≡ e) → IsStep gives delta f old held result new held
    step_refused e (Ok v) a h = let no = h.0 in absurd (cc)
    step_refused e (Err x) a h = record {
      answer = a.answer;
      told = Err e;
      fetched = record { given = a.given; told = a.told };
      comes = (ap (λ y. Err y) h.1, refl);
    }

    pub step_unfound : (d : Option Document) → IsAsked gives query.Delta f old (Ok d) new → (e : Fault) → e ≡ OutOfMemory → (result : Result (Option Refreshed) Fault) → IsErr result × IsErrAnd result (λ x. x ≡ e) → (kept : K) → kept ≡ held → IsStep gives delta f old held result new kept
    step_unfound d a e memory (Ok v) h kept same = let no = h.0 in absurd (cc)
    step_unfound d a e memory (Err x) h kept same = record {
      answer = a.answer;
      told = Err OutOfMemory;
      fetched = record { given = a.given; told = λ n. absurd (n refl) };
      comes = (ap (λ y. Err y) (h.1 ∙ memory), same);
    }

    pub step_none : IsAsked gives query.Delta f old (Ok None) new → IsStep gives delta f old held (Ok (Some Full)) new held
    step_none a = record {
      answer = a.answer;
      told = Ok None;
      fetched = record { given = a.given; told = a.told };
      comes = (refl, refl);
    }

    pub step_taken : (d : Document) → IsAsked gives query.Delta f old (Ok (Some d)) new → (result : Result (Option Refreshed) Fault) (kept : K)
        → (result ≡ Ok (following ((delta held (told_document d)).0))) × (kept ≡ (delta held (told_document d)).1) → IsStep gives delta f old held result new kept
    step_taken d a result kept is = record {
      answer = a.answer;
      told = Ok (Some (told_document d));
      fetched = record { given = a.given; told = a.told };
      comes = is;
    }

-- ---- a refresh of two steps

abbrev Next : Type 0
Next = Result (Option Refreshed) Fault

module _ {S K : Type 0} (gives : S → DocKey → Result Fetched Fault → S → Type 0) (delta : OfDelta K) (full : OfFull K) (f : Form) where
  -- without a copy
  pub goes_full : (old new : S) (held kept : Option K) (result : Result Refreshed Fault) → held ≡ None → TakesFull gives full f Full old held result new kept → GoesThrough gives delta full f old held result new kept
  goes_full old new (Some k) kept result none t = absurd (cc)
  goes_full old new None kept result none t = record {
    log = exchange query.Apps t.answer t.told ∷ [];
    fetched = (new, t.fetched, refl);
    course = record { answer = t.answer; told = t.told; log_is = refl; comes = t.comes };
  }

  -- the delta's step, and what it comes to where it is the last
  stopped : (k l : K) (t : FetchAnswer) (e : Fault) → StepTo delta k t (Err e) l → GoesOnAfterDelta delta full k t [] (outcome_of (Err e) (Some l))
  stopped k l (Err x) e s = let d : e ≡ x = (let i = s.0 in cc) in (refl, ap (λ y. outcome_of (Err y) (Some l)) d ∙ ap (λ y. outcome_of (Err x) (Some y)) s.1)
  stopped k l (Ok None) e s = let i = s.0 in absurd (cc)
  stopped k l (Ok (Some m)) e s = let i = s.0 in absurd (cc)

  pub goes_refused : (old new : S) (k l : K) (e : Fault) (result : Result Refreshed Fault) → IsStep gives delta f old k (Err e) new l → IsErr result × IsErrAnd result (λ x. x ≡ e) → GoesThrough gives delta full f old (Some k) result new (Some l)
  goes_refused old new k l e (Ok v) s h = let no = h.0 in absurd (cc)
  goes_refused old new k l e (Err x) s h = record {
    log = exchange query.Delta s.answer s.told ∷ [];
    fetched = (new, s.fetched, refl);
    course = record { answer = s.answer; told = s.told; rest = []; log_is = refl; comes = subst (λ y. GoesOnAfterDelta delta full k s.told [] (outcome_of (Err y) (Some l))) (sym h.1) (stopped k l s.told e s.comes) };
  }

  ended_by : (l : K) (p : Bool × K) (r : Next) → r ≡ Ok None → (r ≡ Ok (following p.0)) × (l ≡ p.1) → IsRest full p [] (outcome_of (Ok Delta) (Some l))
  ended_by l (true, m) r is s = (refl, ap (λ y. outcome_of (Ok Delta) (Some y)) s.1)
  ended_by l (false, m) r is s = let e = s.0 in absurd (cc)

  ended : (k l : K) (t : FetchAnswer) → StepTo delta k t (Ok None) l → GoesOnAfterDelta delta full k t [] (outcome_of (Ok Delta) (Some l))
  ended k l (Err x) s = let e = s.0 in absurd (cc)
  ended k l (Ok None) s = let e = s.0 in absurd (cc)
  ended k l (Ok (Some m)) s = ended_by l (delta k m) (Ok None) refl s

  pub goes_delta : (old new : S) (k l : K) → IsStep gives delta f old k (Ok None) new l → GoesThrough gives delta full f old (Some k) (Ok Delta) new (Some l)
  goes_delta old new k l s = record {
    log = exchange query.Delta s.answer s.told ∷ [];
    fetched = (new, s.fetched, refl);
    course = record { answer = s.answer; told = s.told; rest = []; log_is = refl; comes = ended k l s.told s.comes };
  }

  went_by : (l : K) (kept : Option K) (result : Result Refreshed Fault) (done : Refreshed) (x : Exchange) (p : Bool × K) (r : Next) → r ≡ Ok (Some done) → (r ≡ Ok (following p.0)) × (l ≡ p.1) → IsFull full done (Some l) (x ∷ []) (outcome_of result kept) → IsRest full p (x ∷ []) (outcome_of result kept)
  went_by l kept result done x (true, m) r is s i = let e = s.0 in absurd (cc)
  went_by l kept result done x (false, m) r is s i = let d : done ≡ DeltaThenFull = (let e = s.0 in cc) in
      subst (λ (y : Refreshed). IsFull full y (Some m) (x ∷ []) (outcome_of result kept)) d (subst (λ (y : K). IsFull full done (Some y) (x ∷ []) (outcome_of result kept)) s.1 i)

  went_on : (k l : K) (kept : Option K) (result : Result Refreshed Fault) (done : Refreshed) (x : Exchange) (t : FetchAnswer) → StepTo delta k t (Ok (Some done)) l → IsFull full done (Some l) (x ∷ []) (outcome_of result kept) → GoesOnAfterDelta delta full k t (x ∷ []) (outcome_of result kept)
  went_on k l kept result done x (Err e) s i = let e = s.0 in absurd (cc)
  went_on k l kept result done x (Ok None) s i = let d : done ≡ Full = (let e = s.0 in cc) in
      subst (λ (y : Refreshed). IsFull full y (Some k) (x ∷ []) (outcome_of result kept)) d (subst (λ (y : K). IsFull full done (Some y) (x ∷ []) (outcome_of result kept)) s.1 i)
  went_on k l kept result done x (Ok (Some m)) s i = went_by l kept result done x (delta k m) (Ok (Some done)) refl s i

  pub goes_on : (old mid new : S) (k l : K) (kept : Option K) (result : Result Refreshed Fault) (done : Refreshed) → IsStep gives delta f old k (Ok (Some done)) mid l → TakesFull gives full f done mid (Some l) result new kept → GoesThrough gives delta full f old (Some k) result new kept
  goes_on old mid new k l kept result done s t = record {
    log = exchange query.Delta s.answer s.told ∷ exchange query.Apps t.answer t.told ∷ [];
    fetched = (mid, s.fetched, (new, t.fetched, refl));
    course = record {
      answer = s.answer;
      told = s.told;
      rest = exchange query.Apps t.answer t.told ∷ [];
      log_is = refl;
      comes = went_on k l kept result done (exchange query.Apps t.answer t.told) s.told s.comes (record { answer = t.answer; told = t.told; log_is = refl; comes = t.comes });
    };
  }
