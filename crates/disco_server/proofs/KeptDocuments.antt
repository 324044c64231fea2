-- What calls do to kept documents.
use Rattle.std.proofs.Common.{◌≡◌, ℕ, Bool, true, false, cond, inl, inr, Option, Some, None, Result, Ok, Err, IfOk, IfErr, OnErr, refl, sym, ap, subst, ◌∙◌}
use Rattle.std.specs.FinMap.{get}
use Rattle.std.specs.declared.alloc.Global.{Global}
use Rattle.std.specs.declared.sync.Arc.{Arc}
use Rattle.disco_values.specs.declared.doc_key.DocKey.{DocKey}
use Rattle.disco_values.specs.declared.fault.Fault.{Fault}
use Rattle.disco_values.specs.declared.key.Key.{Key}
use Rattle.disco_instance.specs.Instance.{Gives}
use Rattle.disco_instance.specs.Row.{Row}
use Rattle.disco_history.specs.Change.{Entry}
use Rattle.disco_history.specs.Registry.{registry_of}
use Rattle.disco_registry.specs.Commit.{done_by}
use Rattle.disco_registry.specs.Op.{OpView}
use Rattle.disco_registry.specs.declared.op.Applied.{Applied}
use Rattle.disco_cache.specs.Docs.{Docs, Drops}
use Rattle.disco_cache.specs.declared.payload.Payload.{Payload}
use Rattle.disco_core.specs.Past.{Past, history}
use Rattle.disco_hub.specs.Kept.{Forgets}
use Rattle.disco_hub.specs.State.{HubState, HubStandsFor, rules_of}
use Rattle.disco_hub.specs.Transitions.{Declines, IsDocOf, Loads, Writes}
use Rattle.disco_calls.specs.Calls.{CallView, loads, shows, shows_id, writes, lacks, call_view}
use Rattle.disco_calls.specs.declared.call.Call.{Call}
use Rattle.disco_server.specs.Replies.{KeepsAsked}

-- nothing moves
pub still_kept : (s : HubState) (asked : Result CallView Fault) → KeepsAsked s s asked
still_kept s (Err fault) = refl
still_kept s (Ok (lacks allow)) = refl
still_kept s (Ok (loads key)) = inl refl
still_kept s (Ok (shows key form)) = refl
still_kept s (Ok (shows_id id form)) = refl
still_kept s (Ok (writes ask)) = λ p stands k d is. is

-- a load
pub loaded_keeps : (old new : HubState) (key : DocKey) (r : Result (Arc Payload Global) Fault) → IfOk r (λ d. IsDocOf old (rules_of old).delta key d.value) → IfOk r (λ d. Loads old new key d.value) → OnErr r (new ≡ old) → KeepsAsked old new (Ok (loads key))
loaded_keeps old new key (Ok d) may did same = elim did.keeps [ inl stays ↦ inl stays | inr one ↦ inr (d.value, may.key, one) ]
loaded_keeps old new key (Err e) may did same = inl (ap (λ (s : HubState). s.docs) same)

-- an operation
dropped : (of : DocKey → Bool) (old new : Docs) → Drops of old new → (k : DocKey) (d : Payload) → get new.docs k ≡ Some d → get old.docs k ≡ Some d
dropped of old new drops k d is = one (of k) (sym (drops.docs k) ∙ is)
  where
    one : (b : Bool) → cond b None (get old.docs k) ≡ Some d → get old.docs k ≡ Some d
    one true none = absurd (cc)
    one false there = there

forgotten : (held : Key → Option Row) (change : Option Entry) (old new : Docs) → Forgets held change old new → (k : DocKey) (d : Payload) → get new.docs k ≡ Some d → get old.docs k ≡ Some d
forgotten held None old new same k d is = ap (λ (s : Docs). get s.docs k) (sym same) ∙ is
forgotten held (Some c) old new drops k d is = dropped _ old new drops k d is

pub written_keeps : (old new : HubState) (ask : OpView) (now : ℕ) (r : Result Applied Fault) → IfOk r (λ a. Writes old new ask now (done_by a)) → IfErr r (Declines old new ask now) → KeepsAsked old new (Ok (writes ask))
written_keeps old new ask now (Ok a) done why = λ p stands. forgotten (get (registry_of (history p))) (done_by a) old.docs new.docs (done.docs p stands)
written_keeps old new ask now (Err e) done why = λ p stands k d is. ap (λ (s : Docs). get s.docs k) (sym why.docs) ∙ is

-- an operation is tried again
pub kept_twice : (old mid new : HubState) (ask : OpView) → ((p : Past) → HubStandsFor old p → HubStandsFor mid p) → KeepsAsked old mid (Ok (writes ask)) → KeepsAsked mid new (Ok (writes ask)) → KeepsAsked old new (Ok (writes ask))
kept_twice old mid new ask stood first second = λ p stands k d is. first p stands k d (second p (stood p stands) k d is)

-- what was called for
pub kept_by_call : (old new : HubState) (called : Result Call Fault) (call : Call) → called ≡ Ok call → KeepsAsked old new (Ok (call_view call)) → (asked : Result CallView Fault) → Gives call_view called asked → KeepsAsked old new asked
kept_by_call old new called call is kept asked gives = subst (KeepsAsked old new) (sym (subst (λ r. Gives call_view r asked) is gives)) kept
