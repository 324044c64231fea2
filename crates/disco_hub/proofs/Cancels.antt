-- One cancel after another.
use Rattle.std.proofs.Common.{◌≡◌, ℕ, zero, suc, ◌+◌, ◌<◌, List, length, Option, Some, Result, Ok, Err, IsOk, slice_get, refl, sym, ap, subst, ◌∙◌, arith, add-one}
use Rattle.std.proofs.lemmas.Option.{same_Some}
use Rattle.disco_values.specs.declared.fault.Fault.{Fault}
use Rattle.disco_values.specs.declared.fault.Fault.TheVariants.{OutOfMemory}
use Rattle.disco_values.specs.declared.key.Key.{Key}
use Rattle.disco_history.specs.Change.{Entry}
use Rattle.disco_registry.specs.Accept.{accepts}
use Rattle.disco_registry.specs.Op.{cancel}
use Rattle.disco_registry.proofs.Histories.{accepts_after}
use Rattle.disco_history.specs.Registry.{registry_of}
use Rattle.disco_cache.specs.Docs.{Docs}
use Rattle.std.specs.FinMap.{get}
use Rattle.disco_hub.specs.Kept.{Forgets}
use Rattle.disco_hub.specs.Expiry.{Expires, ForgetsEach, ForgetsNext, after_next, cancel_of, cancelled}
use Rattle.disco_core.specs.Past.{Past, after_ask, history, with_done}
use Rattle.disco_core.specs.State.{Rules}
use Rattle.disco_hub.specs.State.{HubState, HubStandsFor, rules_of}
use Rattle.disco_hub.specs.Cancelling.{Cancels, CancelsNone, HasCancelled}
use Rattle.disco_hub.specs.Transitions.{Declines, Writes}

pub none_yet : (rules : Rules) (p : Past) (now : ℕ) (ks : List Key) → p ≡ cancelled rules p now ks 0
unfolding cancelled
none_yet rules p now ks = refl

-- nothing is dropped yet
none_forgot : (rules : Rules) (p : Past) (now : ℕ) (ks : List Key) (docs : Docs) → ForgetsEach rules p now ks 0 docs docs
unfolding ForgetsEach
none_forgot rules p now ks docs = refl

-- one more is cancelled
forgot_more : (rules : Rules) (p : Past) (now : ℕ) (ks : List Key) (i : ℕ) (old mid new : Docs) → ForgetsEach rules p now ks i old mid → ForgetsNext rules (cancelled rules p now ks i) now (slice_get ks i) mid new → ForgetsEach rules p now ks (i + 1) old new
unfolding ForgetsEach
forgot_more rules p now ks i old mid new did next = subst (λ n. ForgetsEach rules p now ks n old new) (sym (add-one i)) (mid, did, next)

pub did_nothing : (s : HubState) (now : ℕ) (ks : List Key) → HasCancelled s s now ks 0
did_nothing s now ks = record {
  stands = λ p stands. subst (HubStandsFor s) (none_yet (rules_of s) p now ks) stands;
  accepted = λ p stands i k lt is. absurd (omega (arith, lt));
  docs = λ p stands. none_forgot (rules_of s) p now ks s.docs;
  rules = refl;
}

one_more : (rules : Rules) (p : Past) (now : ℕ) (ks : List Key) (i : ℕ) → cancelled rules p now ks (i + 1) ≡ after_next rules (cancelled rules p now ks i) now (slice_get ks i)
unfolding cancelled
one_more rules p now ks i = ap (cancelled rules p now ks) (add-one i)

was_ok : {A E : Type 0} (r : Result A E) (a : A) → r ≡ Ok a → IsOk r
was_ok r a is = subst (λ (x : Result _ _). IsOk x) (sym is) refl

-- an index of a longer front
pub data Below (i n : ℕ) : Type 0 where
  before : i < n → Below i n
  last : i ≡ n → Below i n

below_of : (i n : ℕ) → i < n + 1 → Below i n
below_of zero zero lt = last refl
below_of zero (suc n) lt = before (omega arith)
below_of (suc i) zero lt = absurd (omega (arith, lt))
below_of (suc i) (suc n) lt = by (below_of i n (omega (arith, lt)))
  where
    by : Below i n → Below (suc i) (suc n)
    by (before l) = before (omega (arith, l))
    by (last e) = last (ap suc e)

module _ (old mid new : HubState) (now : ℕ) (ks : List Key) (i : ℕ) (k : Key) (there : slice_get ks i ≡ Some k) (did : HasCancelled old mid now ks i) where
  abbrev so_far : Past → Past
  so_far p = cancelled (rules_of old) p now ks i

  pub says : (p : Past) (r : Result (Option Entry) Fault) → cancel_of (rules_of mid) (so_far p) now k ≡ r → cancel_of (rules_of old) (so_far p) now k ≡ r
  says p r is = ap (λ l. cancel_of l (so_far p) now k) (sym did.rules) ∙ is

  pub left : (p : Past) (c : Option Entry) → cancel_of (rules_of old) (so_far p) now k ≡ Ok c → after_ask (rules_of mid).queue (so_far p) now (cancel k) (Ok c) ≡ cancelled (rules_of old) p now ks (i + 1)
  left p c is =
      ap (λ (l : Rules). after_ask l.queue (so_far p) now (cancel k) (Ok c)) did.rules
      ∙ ap (after_ask (rules_of old).queue (so_far p) now (cancel k)) (sym is)
      ∙ ap (after_next (rules_of old) (so_far p) now) (sym there)
      ∙ sym (one_more (rules_of old) p now ks i)

  accepted_too : Cancels mid new now k → (p : Past) → HubStandsFor old p → (j : ℕ) (q : Key) → Below j i → slice_get ks j ≡ Some q → IsOk (cancel_of (rules_of old) (cancelled (rules_of old) p now ks j) now q)
  accepted_too cancels p stands j q (before lt) is = did.accepted p stands j q lt is
  accepted_too cancels p stands j q (last e) is =
      let does = cancels (so_far p) (did.stands p stands) in
      let same : k ≡ q = same_Some k q (sym there ∙ ap (slice_get ks) (sym e) ∙ is) in
      subst (λ (x : Key). IsOk (cancel_of (rules_of old) (cancelled (rules_of old) p now ks j) now x)) same
      (subst (λ n. IsOk (cancel_of (rules_of old) (cancelled (rules_of old) p now ks n) now k)) (sym e) (was_ok _ does.0 (says p (Ok does.0) does.1)))

  pub did_more : Cancels mid new now k → rules_of new ≡ rules_of mid → HasCancelled old new now ks (i + 1)
  did_more cancels same = record {
    stands = λ p stands. let does = cancels (so_far p) (did.stands p stands) in subst (HubStandsFor new) (left p does.0 (says p (Ok does.0) does.1)) does.2;
    accepted = λ p stands j q lt is. accepted_too cancels p stands j q (below_of j i lt) is;
    docs = λ p stands.
        let does = cancels (so_far p) (did.stands p stands) in
        forgot_more (rules_of old) p now ks i old.docs mid.docs new.docs (did.docs p stands) (record { key = k; change = does.0; is_next = there; accepted = says p (Ok does.0) does.1; docs = does.3 });
    rules = same ∙ did.rules;
  }

  -- the next cancel is refused
  pub stopped_at : (e : Fault) → i < length ks → CancelsNone mid new now k e → Expires old new now (λ _. ks) i (Some e)
  stopped_at e lt declines = λ p stands.
      let none = declines (so_far p) (did.stands p stands) in (
        record {
          accepted = did.accepted p stands;
          within = omega (arith, lt);
          all = (λ is. absurd (cc), λ is. absurd (omega (arith, lt, is)));
          next = λ other. (k, there, says p (Err e) (none.1 other));
        },
        none.0,
        subst (ForgetsEach (rules_of old) p now ks i old.docs) (sym none.2) (did.docs p stands),
      )

-- no list was found
pub none_gone : (s : HubState) (now : ℕ) (ks : Past → List Key) (e : Fault) → e ≡ OutOfMemory → ((p : Past) → HubStandsFor s p → 0 < length (ks p)) → Expires s s now ks 0 (Some e)
none_gone s now ks e memory some = λ p stands. (
  record {
    accepted = λ i k lt is. absurd (omega (arith, lt));
    within = omega arith;
    all = (λ is. absurd (cc), λ is. absurd (let lt = some p stands in omega (arith, lt, is)));
    next = λ other. absurd (other memory);
  },
  (did_nothing s now (ks p)).stands p stands,
  (did_nothing s now (ks p)).docs p stands,
)

-- ---- one cancel

pub at_history : (s : HubState) (p : Past) (k : Key) (now : ℕ) → HubStandsFor s p → accepts s.core.registry (cancel k) now ≡ cancel_of (rules_of s) p now k
at_history s p k now stands = accepts_after s.core.registry (history p) stands.core.registry (cancel k) now

pub one_gone : (old new : HubState) (now : ℕ) (k key : Key) (c : Option Entry) → key ≡ k → Writes old new (cancel key) now c → Cancels old new now k
one_gone old new now k key c same done = λ p stands.
    subst (λ (x : Key). (c : Option Entry) × (cancel_of (rules_of old) p now x ≡ Ok c) × HubStandsFor new (with_done (rules_of old).queue p now (cancel x) c) × Forgets (get (registry_of (history p))) c old.docs new.docs) same
    (c, sym (at_history old p key now stands) ∙ done.accepted, done.history p stands, done.docs p stands)

pub one_refused : (old new : HubState) (now : ℕ) (k key : Key) (e : Fault) → key ≡ k → Declines old new (cancel key) now e → CancelsNone old new now k e
one_refused old new now k key e same refused = λ p stands.
    (refused.history p stands, λ other. ap (cancel_of (rules_of old) p now) (sym same) ∙ sym (at_history old p key now stands) ∙ refused.cause other, refused.docs)
