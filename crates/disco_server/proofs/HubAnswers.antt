-- What a hub does is answered.
use Rattle.std.proofs.Common.{◌≡◌, ◌≢◌, ◌⊎◌, inl, inr, ℕ, true, List, [], ◌∷◌, ◌++◌, Option, Some, None, option_map, Result, Ok, Err, IfOk, IfErr, OnErr, MatchResult, refl, sym, ap, subst, ◌∙◌, arith, append-nil}
use Rattle.std.proofs.lemmas.List.{map-append}
use Rattle.std.specs.Option.{ok_or, option_map_or}
use Rattle.std.specs.declared.alloc.Global.{Global}
use Rattle.std.specs.declared.sync.Arc.{Arc}
use Rattle.disco_values.specs.Fault.{fault_number}
use Rattle.disco_values.specs.declared.fault.Fault.{Fault}
use Rattle.disco_values.specs.declared.fault.Fault.TheVariants.{OutOfMemory, NotFound}
use Rattle.disco_values.specs.declared.form.Form.{Form}
use Rattle.disco_values.specs.declared.key.Key.{Key}
use Rattle.disco_instance.specs.Instance.{if_ok}
use Rattle.disco_instance.specs.Row.{Row}
use Rattle.disco_history.specs.Change.{Entry}
use Rattle.disco_history.specs.Query.{by_id}
use Rattle.disco_history.specs.Registry.{registry_of}
use Rattle.disco_values.specs.declared.doc_key.DocKey.{DocKey}
use Rattle.disco_cache.specs.declared.payload.Payload.{Payload}
use Rattle.disco_queue.specs.Timed.{Timed}
use Rattle.disco_core.specs.Past.{Past, history, with_done}
use Rattle.disco_core.specs.Refusals.{doc_of_id, doc_of_key, loaded, loaded_by_id, refusal_by, refusal_of_id}
use Rattle.disco_hub.specs.State.{MayServe, HubStandsFor, HubState, rules_of}
use Rattle.disco_hub.specs.Transitions.{Declines, IsDocOf, IsDocOfId, Withholds, WithholdsId, Writes}
use Rattle.disco_message.specs.ReplyText.{ReplyView}
use Rattle.disco_registry.specs.Commit.{done_by}
use Rattle.disco_registry.specs.Op.{OpView}
use Rattle.disco_registry.specs.declared.op.Applied.{Applied}
use Rattle.disco_registry.proofs.Histories.{accepts_after}
use Rattle.disco_message.specs.declared.status_line.Allow.{Allow}
use Rattle.disco_calls.specs.Calls.{CallView, loads, shows, shows_id, writes, lacks}
use Rattle.disco_server.specs.Replies.{IsAnswered, IsReply, Replies, ShowsDocument, IsDone, plain, refusal_answer, success_of, with_document}

memory_or : (e : Fault) → (e ≡ OutOfMemory) ⊎ (e ≢ OutOfMemory)
memory_or OutOfMemory = inl refl
memory_or e = inr (λ is. let bad : fault_number e ≡ 1 = ap fault_number is in omega (arith, bad))

-- a reply, with the changes that come behind what has happened
abbrev pub Follows : HubState → HubState → Result CallView Fault → ℕ → ReplyView → List Entry → Type 0
Follows old new asked now y cs = (p : Past) → HubStandsFor old p → (q : Past) × IsReply (rules_of old) p asked now y q × (history q ≡ history p ++ cs) × HubStandsFor new q

pub answered_so : (old new : HubState) (asked : Result CallView Fault) (now : ℕ) (y : ReplyView) (cs : List Entry) → Follows old new asked now y cs → IsAnswered old new asked now y
answered_so old new asked now y cs follows = λ p stands. let r = follows p stands in (r.0, r.1, r.3)

-- the changes of an operation
abbrev pub changes_of : Option Entry → List Entry
changes_of None = []
changes_of (Some c) = c ∷ []

abbrev pub changes_by : Result Applied Fault → List Entry
changes_by (Ok a) = changes_of (done_by a)
changes_by (Err e) = []

history_done : (most : ℕ) (p : Past) (now : ℕ) (ask : OpView) (o : Option Entry) → history (with_done most p now ask o) ≡ history p ++ changes_of o
history_done most p now ask None = sym (append-nil (history p))
history_done most p now ask (Some c) = map-append (λ (t : Timed). t.0) p.timed ((c, now) ∷ [])

module _ (old new : HubState) (now : ℕ) (y : ReplyView) where
  -- a document that was asked for: `asked` is it, or why it isn't served, by what has happened
  module _ (want : CallView) (asked : Past → Result DocKey Fault) (row : (p q : Past) → ShowsDocument p (asked p) y × (q ≡ p) → Replies (rules_of old) p (Ok want) now y q) (on : (p : Past) → HubStandsFor old p → HubStandsFor new p) where
    told : (p : Past) → HubStandsFor old p → ShowsDocument p (asked p) y → (q : Past) × IsReply (rules_of old) p (Ok want) now y q × HubStandsFor new q
    told p stands is = (p, inl (row p p (is, refl)), on p stands)

    pub served : (r : Result (Arc Payload Global) Fault) → IfOk r (λ d. (p : Past) → HubStandsFor old p → asked p ≡ Ok d.value.key) → IfOk r (λ d. (p : Past) → HubStandsFor old p → MayServe d.value p)
        → IfErr r (λ e. e ≢ OutOfMemory → (p : Past) → HubStandsFor old p → asked p ≡ Err e) → MatchResult r (λ d. y ≡ with_document d.value) (λ e. y ≡ refusal_answer e) → IsAnswered old new (Ok want) now y
    served (Ok d) allowed may why is = λ p stands. told p stands (subst (λ r. ShowsDocument p r y) (sym (allowed p stands)) (d.value, refl, may p stands, is))
    served (Err e) allowed may why is = λ p stands. elim (memory_or e) [
      | inl memory ↦ (p, inr (is ∙ ap refusal_answer memory, refl), on p stands)
      | inr other ↦ told p stands (subst (λ r. ShowsDocument p r y) (sym (why other p stands)) is)
    ]

  -- an operation
  pub written : (ask : OpView) (r : Result Applied Fault) → IfOk r (λ a. Writes old new ask now (done_by a)) → IfErr r (Declines old new ask now)
      → MatchResult r (λ a. y ≡ plain (success_of ask)) (λ e. y ≡ refusal_answer e) → Follows old new (Ok (writes ask)) now y (changes_by r)
  written ask (Ok a) done why is = λ p stands.
      let accepted = sym (accepts_after old.core.registry (history p) stands.core.registry ask now) ∙ done.accepted in
      let most = (rules_of old).queue in
      let q = with_done most p now ask (done_by a) in
      (q, inl (subst (λ r. IsDone (rules_of old) p ask now r y q) (sym accepted) (is, refl)), history_done most p now ask (done_by a), done.history p stands)
  written ask (Err e) done why is = λ p stands.
      let none = sym (append-nil (history p)) in
      elim (memory_or e) [
        | inl memory ↦ (p, inr (is ∙ ap refusal_answer memory, refl), none, why.history p stands)
        | inr other ↦
            let refuses = sym (accepts_after old.core.registry (history p) stands.core.registry ask now) ∙ why.cause other in
            (p, inl (subst (λ r. IsDone (rules_of old) p ask now r y p) (sym refuses) (is, refl)), none, why.history p stands)
      ]

-- what is refused has left all
pub stood : (old new : HubState) (ask : OpView) (now : ℕ) (r : Result Applied Fault) → IfErr r (Declines old new ask now) → OnErr r ((p : Past) → HubStandsFor old p → HubStandsFor new p)
stood old new ask now (Ok a) why = tt
stood old new ask now (Err e) why = why.history

-- a path that lacks the method
pub lacked : (s : HubState) (allow : Allow) (now : ℕ) (y : ReplyView) → y ≡ record { status = 405; allow = Some allow; document = None; cert = None } → IsAnswered s s (Ok (lacks allow)) now y
lacked s allow now y is = λ p stands. (p, inl (is, refl), stands)

-- a request that is refused for itself
pub refused_so : (s : HubState) (asked : Result CallView Fault) (e : Fault) (now : ℕ) (y : ReplyView) → (e ≢ OutOfMemory → asked ≡ Err e) → y ≡ refusal_answer e → Follows s s asked now y []
refused_so s asked e now y why is = λ p stands.
    let none = sym (append-nil (history p)) in
    elim (memory_or e) [
      | inl memory ↦ (p, inr (is ∙ ap refusal_answer memory, refl), none, stands)
      | inr other ↦ (p, inl (subst (λ r. Replies (rules_of s) p r now y p) (sym (why other)) (is, refl)), none, stands)
    ]

-- the document of a key, unless there is a cause against it
abbrev unless_refused : Option DocKey → Option Fault → Result DocKey Fault
unless_refused key cause = option_map_or (λ e. Err e) cause (ok_or key NotFound)

-- that of an id
by_id_is : (id : List ℕ) (form : Form) (h : List Entry) → loaded_by_id id form h ≡ unless_refused (doc_of_id id form h) (refusal_of_id id h)
by_id_is id form h = one (by_id (registry_of h) id)
  where
    one : (o : Option Row) → if_ok (ok_or o NotFound) (λ r. loaded true (doc_of_key r.key form) h) ≡ unless_refused (option_map (λ r. doc_of_key r.key form) o) (refusal_by o h)
    one None = refl
    one (Some r) = refl

-- a load of a key
pub load_so : (old new : HubState) (key : DocKey) (now : ℕ) (y : ReplyView) (r : Result (Arc Payload Global) Fault) → IfOk r (λ d. IsDocOf old (rules_of old).delta key d.value) → IfErr r (Withholds old (rules_of old).delta key)
    → MatchResult r (λ d. y ≡ with_document d.value) (λ e. y ≡ refusal_answer e) → ((p : Past) → HubStandsFor old p → HubStandsFor new p) → IsAnswered old new (Ok (loads key)) now y
load_so old new key now y (Ok d) may why shown on =
    served old new now y (loads key) (λ p. loaded (rules_of old).delta key (history p)) (λ p q so. so) on (Ok d) (λ p stands. ap (unless_refused (Some key)) (may.allowed p stands) ∙ ap (λ k. Ok k) (sym may.key)) may.served tt shown
load_so old new key now y (Err e) may why shown on =
    served old new now y (loads key) (λ p. loaded (rules_of old).delta key (history p)) (λ p q so. so) on (Err e) tt tt (λ other p stands. ap (unless_refused (Some key)) (why other p stands)) shown

-- the document of an instance
pub instance_so : (s : HubState) (key : Key) (form : Form) (now : ℕ) (y : ReplyView) (r : Result (Arc Payload Global) Fault) → IfOk r (λ d. IsDocOf s true (doc_of_key key form) d.value) → IfErr r (Withholds s true (doc_of_key key form))
    → MatchResult r (λ d. y ≡ with_document d.value) (λ e. y ≡ refusal_answer e) → IsAnswered s s (Ok (shows key form)) now y
instance_so s key form now y (Ok d) may why shown =
    served s s now y (shows key form) (λ p. loaded true (doc_of_key key form) (history p)) (λ p q so. so) (λ p stands. stands) (Ok d) (λ p stands. ap (unless_refused (Some (doc_of_key key form))) (may.allowed p stands) ∙ ap (λ k. Ok k) (sym may.key)) may.served tt shown
instance_so s key form now y (Err e) may why shown =
    served s s now y (shows key form) (λ p. loaded true (doc_of_key key form) (history p)) (λ p q so. so) (λ p stands. stands) (Err e) tt tt (λ other p stands. ap (unless_refused (Some (doc_of_key key form))) (why other p stands)) shown

-- the document of the instance of an id
pub by_id_so : (s : HubState) (id : List ℕ) (form : Form) (now : ℕ) (y : ReplyView) (r : Result (Arc Payload Global) Fault) → IfOk r (λ d. IsDocOfId s id form d.value) → IfErr r (WithholdsId s id)
    → MatchResult r (λ d. y ≡ with_document d.value) (λ e. y ≡ refusal_answer e) → IsAnswered s s (Ok (shows_id id form)) now y
by_id_so s id form now y (Ok d) may why shown =
    served s s now y (shows_id id form) (λ p. loaded_by_id id form (history p)) (λ p q so. so) (λ p stands. stands) (Ok d) (λ p stands. by_id_is id form (history p) ∙ ap (unless_refused (doc_of_id id form (history p))) (may.allowed p stands) ∙ ap (λ k. unless_refused k None) (may.key p stands)) may.served tt shown
by_id_so s id form now y (Err e) may why shown =
    served s s now y (shows_id id form) (λ p. loaded_by_id id form (history p)) (λ p q so. so) (λ p stands. stands) (Err e) tt tt (λ other p stands. by_id_is id form (history p) ∙ ap (unless_refused (doc_of_id id form (history p))) (why other p stands) ∙ refused_of (doc_of_id id form (history p)) e) shown
  where
    refused_of : (k : Option DocKey) (e : Fault) → unless_refused k (Some e) ≡ Err e
    refused_of None e = refl
    refused_of (Some k) e = refl
