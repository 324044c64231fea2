-- What becomes of kept documents: those that a change doesn't name stay true.
use Rattle.std.proofs.Common.{◌≡◌, ℕ, ◌≤◌, ◌==◌, ◌&&◌, ◌||◌, not, Bool, true, false, cond, List, [], ◌∷◌, ◌++◌, ◌⊎◌, inl, inr, Option, Some, None, option_map, is_some, nat_lt, Result, Ok, Err, IfOk, OnErr, refl, sym, ap, subst, ◌∙◌, arith}
use borrow.Author.Tests.{ltb-true}
use Rattle.std.proofs.lemmas.List.{length-append, map-append, take-append-le}
use Rattle.std.proofs.lemmas.Option.{same_Some}
use Rattle.std.specs.FinMap.{FinMap, contains_key, empty, get, get-empty, get-insert, insert, len, values}
use Rattle.std.specs.Option.{option_map_or}
use Rattle.std.specs.Ordering.{is_eq}
use Rattle.std.specs.declared.cmp.Ordering.{Ordering}
use Rattle.std.specs.declared.cmp.Ordering.TheVariants.{Less, Equal, Greater}
use Rattle.disco_instance.specs.Row.{Row}
use Rattle.disco_values.specs.declared.fault.Fault.{Fault}
use Rattle.disco_values.specs.declared.key.Key.{Key}
use Rattle.disco_values.specs.declared.fault.Fault.TheVariants.{DeltaDisabled, NotFound}
use Rattle.disco_values.specs.declared.form.Form.{Form}
use Rattle.disco_history.specs.Change.{Entry, key_of}
use Rattle.disco_history.specs.Hash.{hash}
use Rattle.disco_history.specs.Held.{record_at}
use Rattle.disco_history.specs.Mentions.{delta}
use Rattle.disco_history.specs.Query.{asks_for, is_absent, is_named, may_be_empty, restrict}
use Rattle.disco_history.specs.Registry.{put_of, registry_of, mentions_of}
use Rattle.disco_history.proofs.Sets.{get-said_reg}
use Rattle.disco_history.proofs.Untouched.{untouched_law}
use Rattle.disco_queue.specs.Timed.{Timed}
use Rattle.disco_registry.specs.Op.{OpView}
use Rattle.disco_registry.specs.State as registry
use Rattle.disco_wire.specs.Documents.{IsTrueFor, MeansFor, asked_by, hash_of, if_many, kind, meaning_for, mentioned, told}
use Rattle.disco_values.specs.Query.{is_delta}
use Rattle.disco_wire.specs.Rows.{mentions_in}
use Rattle.disco_values.specs.declared.query.Query.{Query}
use Rattle.disco_values.specs.declared.query.Query.TheVariants as query
use Rattle.disco_wire.proofs.Texts.{same_text}
use Rattle.disco_cache.specs.Docs.{Docs}
use Rattle.disco_values.specs.Keys.{doc_cmp, same_doc}
use Rattle.disco_cache.specs.Payloads.{IsTruePayload}
use Rattle.disco_values.specs.declared.doc_key.DocKey.{DocKey}
use Rattle.disco_cache.specs.declared.payload.Payload.{Payload}
use Rattle.disco_values.proofs.Orders.{docs_total, exact_docs}
use Rattle.disco_core.specs.Past.{Past, history, with_done}
use Rattle.disco_core.specs.Refusals.{refusal_of}
use Rattle.disco_core.specs.State as core
use Rattle.disco_hub.specs.Kept.{Forgets, IsAsKept, IsKeptOrNew, Keeps, KeepsAtMost}
use Rattle.disco_hub.specs.State.{AreServable, MayServe, is_cached}

-- ---- a change that doesn't name a document

right : (a b : Bool) → (a || b) ≡ false → b ≡ false
right false b e = e
right true b e = absurd (cc)

left : (a b : Bool) → (a || b) ≡ false → a ≡ false
left false b e = refl
left true b e = absurd (cc)

put_unasked : (f : Row → Bool) (c : Entry) → f c.0 ≡ false → option_map_or f (option_map (λ e. e.0) (put_of c)) false ≡ false
put_unasked f (r, Rattle.disco_values.specs.declared.action.Action.TheVariants.Added) e = e
put_unasked f (r, Rattle.disco_values.specs.declared.action.Action.TheVariants.Modified) e = e
put_unasked f (r, Rattle.disco_values.specs.declared.action.Action.TheVariants.Deleted) e = refl

both : (a b : Bool) → a ≡ false → b ≡ false → (a || b) ≡ false
both a b e f = ap (λ x. x || b) e ∙ f

told_held : (q : Query) (h : List Entry) (base : ℕ) → is_delta q ≡ false → told q h base ≡ mentioned (asked_by q) h
told_held q h base held = ap (λ b. cond b (values (delta h base)) (mentioned (asked_by q) h)) held

module _ (q : Query) (text : List ℕ) (base version : ℕ) (f : Form) (h : List Entry) (c : Entry)
    (unnamed : is_named (get (registry_of h) (key_of c)) (Some c.0) (asked_by q) ≡ false) (held : is_delta q ≡ false) (kept : (kind q).kept ≡ true) (t : IsTrueFor q text base version f h) where
  abbrev now : List Entry
  now = h ++ c ∷ []

  law : (restrict (registry_of now) (asked_by q) ≡ restrict (registry_of h) (asked_by q)) × (mentions_of now (restrict (registry_of now) (asked_by q)) ≡ mentions_of h (restrict (registry_of h) (asked_by q)))
  law = untouched_law h c (asked_by q) (both _ _ (left _ _ unnamed) (put_unasked (asks_for (asked_by q)) c (right _ _ unnamed)))

  told_same : told q now base ≡ told q h base
  told_same = told_held q now base held ∙ ap values law.1 ∙ sym (told_held q h base held)

  means : meaning_for q f now base version ≡ meaning_for q f h base version
  means = λ i. record {
    shape = (kind q).shape;
    mentions = mentions_in f (told_same i);
    hash = if_many (kind q).shape (hash (values (law.0 i)));
    version = if_many (kind q).shape version;
  }

  code : hash_of q now ≡ hash_of q h
  code = ap (λ s. hash (values s)) law.0

  still_means : MeansFor q text base version f now
  still_means = record {
    meaning = t.means.meaning ∙ ap (λ m. Ok m) (sym means);
    there = ap (λ s. (len s == 0) && not (may_be_empty (asked_by q))) law.0 ∙ t.means.there;
    start = t.means.start;
    whole = t.means.whole;
    past = omega (arith, t.means.past, length-append h (c ∷ []));
    now = λ gone. absurd (cc);
    same = ap (λ x. meaning_for q f x base version) (take-append-le version h (c ∷ []) t.means.past) ∙ t.means.same ∙ sym means;
  }

  still : IsTrueFor q text base version f now
  still = record {
    written = t.written ∙ sym (same_text q f now h base version told_same code);
    means = still_means;
  }

always : (a : Bool) → (a || true) ≡ false → ⊥
always true e = absurd (cc)
always false e = absurd (cc)

stays_true : (on : Bool) (q : Query) (text : List ℕ) (base version : ℕ) (f : Form) (h : List Entry) (c : Entry) → is_named (get (registry_of h) (key_of c)) (Some c.0) (asked_by q) ≡ false → is_cached on q ≡ true
    → IsTrueFor q text base version f h → IsTrueFor q text base version f (h ++ c ∷ [])
stays_true on query.Apps text base version f h c unnamed kept t = absurd (always _ unnamed)
stays_true on query.Delta text base version f h c unnamed kept t = absurd (always _ unnamed)
stays_true on (query.App name) text base version f h c unnamed kept t = still (query.App name) text base version f h c unnamed refl refl t
stays_true on (query.Vip vip) text base version f h c unnamed kept t = still (query.Vip vip) text base version f h c unnamed refl refl t
stays_true on (query.Svip vip) text base version f h c unnamed kept t = still (query.Svip vip) text base version f h c unnamed refl refl t
stays_true on (query.Instance key) text base version f h c unnamed kept t = absurd (cc)

-- ---- what is kept

none_there : (k : DocKey) (d : Payload) → get (empty {X = Payload} {R = doc_cmp}) k ≡ Some d → ⊥
none_there k d is = absurd (the (sym (get-empty doc_cmp k) ∙ is))
  where
    the : None ≡ Some d → ⊥
    the e = absurd (cc)

pub none_kept : (on : Bool) (p : Past) → AreServable on empty p
none_kept on p = record { keys = λ k d is. absurd (none_there k d is); served = λ k d is. absurd (none_there k d is) }

-- nothing but the base moves, and that forward
pub moved_on : (on : Bool) (docs : FinMap doc_cmp Payload) (p q : Past) → q.run ≡ p.run → history q ≡ history p → p.base ≤ q.base → AreServable on docs p → AreServable on docs q
moved_on on docs p q run same le kept = record {
  keys = kept.keys;
  served = λ k d is. let may = kept.served k d is in record { true_now = subst (λ (x : ℕ × List Entry). IsTruePayload x.0 d x.1) (λ i. (sym run i, sym same i)) may.true_now; start = λ of_delta. omega (arith, may.start of_delta, le) };
}

-- what is dropped isn't there, and the rest is as it was
there_before : (b : Bool) (o : Option Payload) (d : Payload) → cond b None o ≡ Some d → (b ≡ false) × (o ≡ Some d)
there_before true o d is = absurd (cc)
there_before false o d is = (refl, is)

-- what the registry holds of a key is what its history says
held_is : (s : registry.RegistryState) (h : List Entry) → registry.StandsFor s h → (k : Key) → record_at s.held k ≡ get (registry_of h) k
held_is s h stands k = ap (λ m. record_at m k) stands.held ∙ get-said_reg h k

pub forgets_in : (s : registry.RegistryState) (h : List Entry) → registry.StandsFor s h → (o : Option Entry) (old new : Docs) → Forgets (record_at s.held) o old new → Forgets (get (registry_of h)) o old new
forgets_in s h stands None old new is = is
forgets_in s h stands (Some c) old new is = record {
  docs = λ k. is.docs k ∙ ap (λ (r : Option Row). cond (is_named r (Some c.0) (asked_by k.query)) None (get old.docs k)) (held_is s h stands (key_of c));
  max = is.max;
}

module _ (on : Bool) (p q : Past) (c : Entry) (old new : Docs) (forgets : Forgets (get (registry_of (history p))) (Some c) old new) (run : q.run ≡ p.run) (same : history q ≡ history p ++ c ∷ []) (le : p.base ≤ q.base) (kept : AreServable on old.docs p) where
  module _ (k : DocKey) (d : Payload) (is : get new.docs k ≡ Some d) where
    before : (is_named (get (registry_of (history p)) (key_of c)) (Some c.0) (asked_by k.query) ≡ false) × (get old.docs k ≡ Some d)
    before = there_before _ _ d (sym (forgets.docs k) ∙ is)

    unnamed : is_named (get (registry_of (history p)) (key_of c)) (Some c.0) (asked_by d.key.query) ≡ false
    unnamed = ap (λ (x : DocKey). is_named (get (registry_of (history p)) (key_of c)) (Some c.0) (asked_by x.query)) (kept.keys k d before.1).0 ∙ before.0

    served_on : MayServe d q
    served_on =
        let may = kept.served k d before.1 in
        let key = kept.keys k d before.1 in record {
          true_now = (
            may.true_now.0 ∙ sym run,
            subst (λ h. IsTrueFor d.key.query d.text d.base d.version d.key.form h) (sym same)
                (stays_true on d.key.query d.text d.base d.version d.key.form (history p) c unnamed (ap (λ (x : DocKey). is_cached on x.query) key.0 ∙ key.1) may.true_now.1),
          );
          start = λ of_delta. omega (arith, may.start of_delta, le);
        }

  changed : AreServable on new.docs q
  changed = record { keys = λ k d is. kept.keys k d (before k d is).1; served = served_on }

-- what is kept after an operation
pub docs_after : (on : Bool) (p : Past) (most now : ℕ) (ask : OpView) (o : Option Entry) (old new : Docs) → Forgets (get (registry_of (history p))) o old new → AreServable on old.docs p → AreServable on new.docs (with_done most p now ask o)
docs_after on p most now ask None old new is kept = moved_on on new.docs p (with_done most p now ask None) refl refl (omega arith) (subst (λ (v : Docs). AreServable on v.docs p) (sym is) kept)
docs_after on p most now ask (Some c) old new forgets kept =
    changed on p (with_done most p now ask (Some c)) c old new forgets refl (map-append (λ (t : Timed). t.0) p.timed ((c, now) ∷ [])) (omega arith) kept

-- ---- what is kept of a load

equal : (r : Ordering) → is_eq r ≡ true → r ≡ Equal
equal Less e = absurd (cc)
equal Equal e = refl
equal Greater e = absurd (cc)

-- what is kept where one more is
one_of : (on : Bool) (d e : Payload) (k : DocKey) (old : FinMap doc_cmp Payload) (b : Bool) → same_doc k d.key ≡ b → is_cached on d.key.query ≡ true → cond b (Some d) (get old k) ≡ Some e
    → (get old k ≡ Some e) ⊎ ((e ≡ d) × (d.key ≡ k) × (is_cached on k.query ≡ true))
one_of on d e k old true same kept is =
    let key : k ≡ d.key = exact_docs k d.key (equal _ same) in
    inr (sym (same_Some d e is), sym key, ap (λ (x : DocKey). is_cached on x.query) key ∙ kept)
one_of on d e k old false same kept is = inl is

module _ (on : Bool) (d : Payload) (old new : Docs) (p : Past) (may : MayServe d p) (kept : AreServable on old.docs p) where
  one_more : Keeps on d old new → AreServable on new.docs p
  one_more one =
      let found = λ (k : DocKey) (e : Payload) (is : get new.docs k ≡ Some e). one_of on d e k old.docs (same_doc k d.key) refl one.cached (sym (ap (λ (v : Docs). get v.docs k) one.kept ∙ get-insert docs_total old.docs d.key d k) ∙ is) in record {
        keys = λ k e is. elim (found k e is) [ inl before ↦ kept.keys k e before | inr it ↦ (ap (λ (x : Payload). x.key) it.0 ∙ it.1, it.2) ];
        served = λ k e is. elim (found k e is) [ inl before ↦ kept.served k e before | inr it ↦ subst (λ (x : Payload). MayServe x p) (sym it.0) may ];
      }

  pub keeps : KeepsAtMost on d old new → AreServable on new.docs p
  keeps (inl same) = subst (λ (v : Docs). AreServable on v.docs p) (sym same) kept
  keeps (inr one) = one_more one

pub kept_at_most : (on : Bool) (d : Payload) (old new : Docs) (r : Result Bool Fault) → is_cached on d.key.query ≡ true → get old.docs d.key ≡ None → IfOk r (λ kept. kept ≡ (contains_key old.docs d.key || nat_lt (len old.docs) old.max))
    → IfOk r (λ kept. new.docs ≡ cond kept (insert old.docs d.key d) old.docs) → new.max ≡ old.max → OnErr r (new ≡ old) → KeepsAtMost on d old new
kept_at_most on d old new (Ok true) cached absent room docs max none = inr (record {
  cached = cached;
  absent = absent;
  room = ltb-true (len old.docs) old.max (sym (room ∙ ap (λ (o : Option Payload). is_some o || nat_lt (len old.docs) old.max) absent));
  kept = λ i. record { docs = docs i; max = max i };
})
kept_at_most on d old new (Ok false) cached absent room docs max none = inl (λ i. record { docs = docs i; max = max i })
kept_at_most on d old new (Err f) cached absent room docs max none = inl none

-- a delta is cached where it is served
pub cached_on : (on : Bool) (q : Query) → is_cached true q ≡ true → (is_delta q ≡ true → on ≡ true) → is_cached on q ≡ true
cached_on on query.Apps is deltas = refl
cached_on on query.Delta is deltas = deltas refl
cached_on on (query.App name) is deltas = refl
cached_on on (query.Vip vip) is deltas = refl
cached_on on (query.Svip vip) is deltas = refl
cached_on on (query.Instance key) is deltas = absurd (cc)

-- a document is as it is kept, or none is kept and it is of now
module _ (version base : ℕ) (s : Docs) (k : DocKey) (d : Payload) where
  pub is_as_kept : (e : Payload) → get s.docs k ≡ Some e → d ≡ e → IsAsKept version base s k d
  is_as_kept e is same = subst (λ o. IsKeptOrNew version base o d) (sym is) same

  pub is_new : get s.docs k ≡ None → d.version ≡ version → (is_delta d.key.query ≡ true → d.base ≡ base) → IsAsKept version base s k d
  is_new none of from = subst (λ o. IsKeptOrNew version base o d) (sym none) (of, from)

-- a kept document isn't refused
pub allowed : (run : ℕ) (on : Bool) (q : Query) (h : List Entry) (d : Payload) → d.key.query ≡ q → IsTruePayload run d h → (is_delta q ≡ true → on ≡ true) → refusal_of on q h ≡ None
allowed run on q h d key true_now deltas = one (is_delta q) refl
  where
    there : is_absent (registry_of h) (asked_by q) ≡ false
    there = ap (λ x. is_absent (registry_of h) (asked_by x)) (sym key) ∙ true_now.1.means.there

    one : (b : Bool) → is_delta q ≡ b → cond b (cond on None (Some DeltaDisabled)) (cond (is_absent (registry_of h) (asked_by q)) (Some NotFound) None) ≡ None
    one true e = ap (λ x. cond x None (Some DeltaDisabled)) (deltas e)
    one false e = ap (λ x. cond x (Some NotFound) None) there

-- a document that is written now
pub written_now : (s : core.CoreState) (p : Past) (d : Payload) → core.CoreStandsFor s p → IsTruePayload p.run d (history p) → (is_delta d.key.query ≡ true → d.base ≡ s.queue.base) → MayServe d p
written_now s p d stands true_now base = record { true_now = true_now; start = λ of_delta. omega (arith, base of_delta, stands.queue.base) }
