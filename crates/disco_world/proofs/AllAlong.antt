-- After each event of a run, what clients can take is true of a version, and each copy means the version at which it is known.
use Rattle.std.specs.FinMap.{get}
use Rattle.std.specs.Option.{option_map_or}
use Rattle.std.proofs.Common.{◌≡◌, ℕ, zero, suc, ◌≤◌, arith, Bool, true, false, cond, eqb, List, [], ◌∷◌, ◌++◌, length, Option, Some, None, Ok, Err, slice_get, refl, sym, ap, subst, ◌∙◌, add-one}
use Rattle.std.specs.declared.alloc.Global.{Global}
use Rattle.std.specs.declared.sync.Arc.{Arc}
use Rattle.std.proofs.lemmas.Bool.{eqb-true}
use Rattle.std.proofs.lemmas.Option.{same_Some}
use Rattle.disco_values.specs.Query.{is_delta}
use Rattle.disco_values.specs.declared.doc_key.DocKey.{DocKey}
use Rattle.disco_cache.specs.declared.payload.Payload.{Payload}
use Rattle.disco_hub.specs.Press.{edition_of}
use Rattle.disco_core.specs.Past.{history}
use Rattle.disco_core.specs.State.{Rules}
use Rattle.disco_client.specs.Tracks.{Histories}
use Rattle.disco_client.specs.declared.certified.CertifiedCopy.{CertifiedCopy}
use Rattle.disco_world.specs.Answers.{AreExact, AreKnown, NeverFall}
use Rattle.disco_world.specs.Clients.{client_after, given}
use Rattle.disco_world.specs.Events.{Effect, World, writes, loads, looks, takes, certifies, bad, effect, doc_in, doc_of_event, for_clients}
use Rattle.disco_world.specs.Outcomes.{after, after_at, history_of, world}
use Rattle.disco_world.specs.Steps.{AreAnswered, AreReadable, IsAnswer, certified_after, clients_after}
use Rattle.disco_world.specs.declared.clients.Client.{Client}
use Rattle.disco_world.specs.declared.event.Event.{Event}
use Rattle.disco_world.specs.declared.event.Event.TheVariants.{Step, Take, Certify}
use Rattle.disco_world.specs.declared.event.Step.TheVariants.{Minute}
use Rattle.disco_world.specs.declared.event.Reply.{Reply}
use Rattle.disco_world.specs.declared.event.Reply.TheVariants.{Doc, Taken, Certified}
use Rattle.disco_world.proofs.CertifiedTakes.{IsExact, Rises, given_exact, given_rises, rises_alone}
use Rattle.disco_world.proofs.Editions.{Sees, ShowsFresh, sees_at}
use Rattle.disco_world.proofs.Histories.{Place, below, at, beyond, get_front, get_last, get_past, place_of}
use Rattle.disco_world.proofs.LongerHistories.{AreNumbered, between, grows, now_is, numbered_at}
use Rattle.disco_world.proofs.EffectParts.{parts}
use Rattle.disco_world.proofs.Known.{IsOf, MeansVersion, at_on, delta_means, full_means, means_on, of_now, of_on, readable}

-- ---- what is true after each event

pub record Holds (w : World) : Type 0 where
  pub docs : (k : ℕ) (d : Payload) → doc_of_event w.replies k ≡ Some d → IsOf (history_of w) d
  pub copies : (q : ℕ) (c : Client) → w.clients q ≡ Some c → MeansVersion (history_of w) c
  pub exact : (q : ℕ) (k : CertifiedCopy) → w.certified q ≡ Some k → IsExact (history_of w) k

-- what readers see that a client can take is true of a version
abbrev Seen : World → Type 0
Seen w = (k : DocKey) (d : Payload) → get (edition_of w.press.published) k ≡ Some d → for_clients d.key.query ≡ true → IsOf (history_of w) d

pub all_readable : (w : World) → Holds w → AreReadable w.replies
all_readable w holds = λ k d is. readable (history_of w) d (holds.docs k d is)

-- the document of an effect that gives a client one is true of a version
abbrev IsGood : Histories → Effect → Type 0
IsGood hs (takes client d) = IsOf hs d
IsGood hs (certifies client d) = IsOf hs d
IsGood hs _ = Unit {0}

take_good : (hs : Histories) (client : ℕ) (o : Option Payload) → ((d : Payload) → o ≡ Some d → IsOf hs d) → IsGood hs (option_map_or (takes client) o bad)
take_good hs client None is = tt
take_good hs client (Some d) is = is d refl

certify_good : (hs : Histories) (client : ℕ) (o : Option Payload) → ((d : Payload) → o ≡ Some d → IsOf hs d) → IsGood hs (option_map_or (certifies client) o bad)
certify_good hs client None is = tt
certify_good hs client (Some d) is = is d refl

good : (rules : Rules) (w : World) (e : Event) → Holds w → IsGood (history_of w) (effect rules w e)
good rules w (Take client event) holds = take_good (history_of w) client (doc_of_event w.replies event) (holds.docs event)
good rules w (Certify client event) holds = certify_good (history_of w) client (doc_of_event w.replies event) (holds.docs event)
good rules w (Step Minute) holds = tt
good rules w e holds = tt

-- ---- documents

kind_of : (d : Arc Payload Global) (e : Payload) (b : Bool) → for_clients d.value.key.query ≡ b → cond b (Some d.value) None ≡ Some e → (for_clients d.value.key.query ≡ true) × (d.value ≡ e)
kind_of d e true kind is = (kind, same_Some _ _ is)
kind_of d e false kind is = absurd (cc)

served_is : (rules : Rules) (w : World) → Seen w → (what : Effect) (r : Reply) (d : Payload) → IsAnswer rules w what r → doc_in (Some r) ≡ Some d → IsOf (history_of w) d
served_is rules w seen (loads k) (Doc p) d answer is =
    let kind = kind_of p d (for_clients p.value.key.query) refl is in
    subst (IsOf (history_of w)) kind.1 (of_now (history_of w) w.past.run (history w.past) p.value (now_is w) answer.may.1.true_now kind.0)
served_is rules w seen (looks (Some k)) (Doc p) d answer is =
    let kind = kind_of p d (for_clients p.value.key.query) refl is in
    subst (IsOf (history_of w)) kind.1 (seen k p.value answer.may.0 kind.0)
served_is rules w seen (looks None) (Doc p) d answer is = absurd (let none = answer.may.0 in cc)
served_is rules w seen (writes now (Ok ask)) (Doc p) d answer is = absurd answer.may.0
served_is rules w seen (writes now (Err cause)) (Doc p) d answer is = absurd answer.may.0
served_is rules w seen what (Doc p) d answer is = absurd answer.may.0
served_is rules w seen what r d answer is = absurd (cc)

docs_after : (rules : Rules) (w : World) → Seen w → (what : Effect) (r : Reply) → Holds w → IsAnswer rules w what r → (k : ℕ) (d : Payload) → doc_of_event (w.replies ++ r ∷ []) k ≡ Some d → IsOf (history_of w) d
docs_after rules w seen what r holds answer zero d is = absurd (cc)
docs_after rules w seen what r holds answer (suc i) d is = by (place_of i (length w.replies))
  where
    by : Place i (length w.replies) → IsOf (history_of w) d
    by (below lt) = holds.docs (suc i) d (ap doc_in (sym (get_front w.replies r i lt)) ∙ is)
    by (at e) = served_is rules w seen what r d answer (ap doc_in (sym (get_last w.replies r) ∙ ap (slice_get (w.replies ++ r ∷ [])) (sym e)) ∙ is)
    by (beyond lt) = absurd (let bad = ap doc_in (sym (get_past w.replies r i lt)) ∙ is in cc)

-- ---- copies

took : (hs : Histories) (d : Payload) (held : Option Client) (c : Client) → IsOf hs d → ((o : Client) → held ≡ Some o → MeansVersion hs o) → client_after d held ≡ Some c → MeansVersion hs c
took hs d held c is means gets = by (is_delta d.key.query) refl
  where
    by : (b : Bool) → is_delta d.key.query ≡ b → MeansVersion hs c
    by true delta = delta_means hs d held c is delta means gets
    by false full = full_means hs d held c is full gets

one_of : (hs : Histories) (clients : ℕ → Option Client) (client q : ℕ) (d : Payload) (c : Client) (b : Bool) → IsOf hs d → ((q : ℕ) (o : Client) → clients q ≡ Some o → MeansVersion hs o)
    → cond b (client_after d (clients client)) (clients q) ≡ Some c → MeansVersion hs c
one_of hs clients client q d c true is means e = took hs d (clients client) c is (means client) e
one_of hs clients client q d c false is means e = means q c e

copies_after : (hs : Histories) (clients : ℕ → Option Client) (what : Effect) (r : Reply) (q : ℕ) (c : Client) → IsGood hs what → ((q : ℕ) (o : Client) → clients q ≡ Some o → MeansVersion hs o) → clients_after clients what r q ≡ Some c → MeansVersion hs c
copies_after hs clients (takes client d) (Taken equal version) q c is means e = one_of hs clients client q d c (eqb q client) is means e
copies_after hs clients what r q c is means e = means q c e

-- ---- copies of certified clients

one_exact : (hs : Histories) (clients : ℕ → Option CertifiedCopy) (client q : ℕ) (d : Payload) (k : CertifiedCopy) (b : Bool) → IsOf hs d → ((q : ℕ) (o : CertifiedCopy) → clients q ≡ Some o → IsExact hs o)
    → cond b (given d (clients client)) (clients q) ≡ Some k → IsExact hs k
one_exact hs clients client q d k true is exact e = given_exact hs d (clients client) k is (exact client) e
one_exact hs clients client q d k false is exact e = exact q k e

exact_after : (hs : Histories) (clients : ℕ → Option CertifiedCopy) (what : Effect) (r : Reply) (q : ℕ) (k : CertifiedCopy) → IsGood hs what → ((q : ℕ) (o : CertifiedCopy) → clients q ≡ Some o → IsExact hs o) → certified_after clients what r q ≡ Some k → IsExact hs k
exact_after hs clients (certifies client d) (Certified taken run version) q k is exact e = one_exact hs clients client q d k (eqb q client) is exact e
exact_after hs clients what r q k is exact e = exact q k e

-- ---- one event on, and all

holds_after : (rules : Rules) (w : World) → AreNumbered w → Seen w → (e : Event) (r : Reply) → Holds w → IsAnswer rules w (effect rules w e) r → Holds (after rules w (effect rules w e) r)
holds_after rules w numbered seen e r holds answer =
    let what = effect rules w e in
    let hs = history_of w in
    let gs = history_of (after rules w what r) in
    let grow = grows rules w numbered what r answer in
    record {
      docs = λ k d is. of_on hs gs d grow (docs_after rules w seen what r holds answer k d is);
      copies = λ q c is. means_on hs gs c grow (copies_after hs w.clients what r q c (good rules w e holds) holds.copies (sym (ap (λ f. f q) (parts rules w what r).clients) ∙ is));
      exact = λ q k is. at_on (hs k.known.run) (gs k.known.run) k.known k.copy (grow k.known.run) (exact_after hs w.certified what r q k (good rules w e holds) holds.exact (sym (ap (λ f. f q) (parts rules w what r).certified) ∙ is));
    }

no_docs : (k : ℕ) (d : Payload) → doc_of_event [] k ≡ Some d → ⊥
no_docs zero d is = cc
no_docs (suc i) d is = cc

seen_at : (rules : Rules) (first_run : ℕ) (es : List Event) (rs : List Reply) → AreAnswered rules first_run es rs → (i : ℕ) → Sees rules first_run es rs i → Seen (world rules first_run es rs i)
seen_at rules first_run es rs answers i sees = λ k d is kind.
    let was = sees.sees.shown k d is in
    let v = world rules first_run es rs was.after in
    of_on (history_of v) (history_of (world rules first_run es rs i)) d (between rules first_run es rs answers was.after i was.within) (of_now (history_of v) v.past.run (history v.past) d (now_is v) was.served.true_now kind)

one_on : (rules : Rules) (first_run : ℕ) (es : List Event) (rs : List Reply) → AreAnswered rules first_run es rs → (i : ℕ) → Seen (world rules first_run es rs i) → Holds (world rules first_run es rs i) → (e : Option Event) → slice_get es i ≡ e → (r : Option Reply) → slice_get rs i ≡ r → Holds (after_at rules (world rules first_run es rs i) e r)
one_on rules first_run es rs answers i seen holds (Some e) event (Some r) reply = holds_after rules (world rules first_run es rs i) (numbered_at rules first_run es rs answers i) seen e r holds (answers i e r event reply)
one_on rules first_run es rs answers i seen holds None event r reply = holds
one_on rules first_run es rs answers i seen holds (Some e) event None reply = holds

pub holds_at : (rules : Rules) (first_run : ℕ) (es : List Event) (rs : List Reply) → AreAnswered rules first_run es rs → (i : ℕ) → ((j : ℕ) → j ≤ i → ShowsFresh rules first_run es rs j) → Holds (world rules first_run es rs i)
unfolding world
holds_at rules first_run es rs answers zero fresh = record { docs = λ k d is. absurd (no_docs k d is); copies = λ q c is. absurd (cc); exact = λ q k is. absurd (cc) }
holds_at rules first_run es rs answers (suc i) fresh =
    let before : (j : ℕ) → j ≤ i → ShowsFresh rules first_run es rs j = λ j le. fresh j (omega (arith, le)) in
    one_on rules first_run es rs answers i (seen_at rules first_run es rs answers i (sees_at rules first_run es rs answers i before)) (holds_at rules first_run es rs answers i before) (slice_get es i) refl (slice_get rs i) refl

pub known : (rules : Rules) (first_run : ℕ) (es : List Event) (rs : List Reply) → AreAnswered rules first_run es rs → ((i : ℕ) → ShowsFresh rules first_run es rs i) → AreKnown rules first_run es rs
known rules first_run es rs answers fresh = λ i client c at is known. (holds_at rules first_run es rs answers i (λ j le. fresh j)).copies client c is at known

pub exact : (rules : Rules) (first_run : ℕ) (es : List Event) (rs : List Reply) → AreAnswered rules first_run es rs → ((i : ℕ) → ShowsFresh rules first_run es rs i) → AreExact rules first_run es rs
exact rules first_run es rs answers fresh = λ i client k is. (holds_at rules first_run es rs answers i (λ j le. fresh j)).exact client k is

-- ---- no certified copy falls

one_rises : (clients : ℕ → Option CertifiedCopy) (client q : ℕ) (d : Payload) (k : CertifiedCopy) (b : Bool) → eqb q client ≡ b → clients q ≡ Some k → Rises k (cond b (given d (clients client)) (clients q))
one_rises clients client q d k true same is = subst (λ o. Rises k (given d o)) (sym (ap clients (sym (eqb-true q client same)) ∙ is)) (given_rises d k)
one_rises clients client q d k false other is = rises_alone k (clients q) is

rises_after : (clients : ℕ → Option CertifiedCopy) (what : Effect) (r : Reply) (q : ℕ) (k : CertifiedCopy) → clients q ≡ Some k → Rises k (certified_after clients what r q)
rises_after clients (certifies client d) (Certified taken run version) q k is = one_rises clients client q d k (eqb q client) refl is
rises_after clients what r q k is = rises_alone k (clients q) is

rises_at : (rules : Rules) (w : World) (e : Option Event) (r : Option Reply) (q : ℕ) (k : CertifiedCopy) → w.certified q ≡ Some k → Rises k ((after_at rules w e r).certified q)
rises_at rules w (Some e) (Some r) q k is = subst (λ f. Rises k (f q)) (sym (parts rules w (effect rules w e) r).certified) (rises_after w.certified (effect rules w e) r q k is)
rises_at rules w None r q k is = rises_alone k (w.certified q) is
rises_at rules w (Some e) None q k is = rises_alone k (w.certified q) is

rises_on : (rules : Rules) (first_run : ℕ) (es : List Event) (rs : List Reply) (i q : ℕ) (k : CertifiedCopy) → (world rules first_run es rs i).certified q ≡ Some k → Rises k ((world rules first_run es rs (suc i)).certified q)
unfolding world
rises_on rules first_run es rs i q k is = rises_at rules (world rules first_run es rs i) (slice_get es i) (slice_get rs i) q k is

pub rising : (rules : Rules) (first_run : ℕ) (es : List Event) (rs : List Reply) → NeverFall rules first_run es rs
rising rules first_run es rs = λ i q k is. subst (λ n. Rises k ((world rules first_run es rs n).certified q)) (sym (add-one i)) (rises_on rules first_run es rs i q k is)
