-- What stays the same over one step and over many.
use Rattle.std.proofs.Common.{◌≡◌, Bool, Option, Some, None, Result, Ok, Err, IfErr, IfOk, OnErr, inl, inr, refl, ap, sym, subst, ◌∙◌}
use Rattle.std.specs.declared.alloc.Global.{Global}
use Rattle.std.specs.declared.sync.Arc.{Arc}
use Rattle.disco_values.specs.declared.fault.Fault.{Fault}
use Rattle.std.specs.Result.{IsErr, IsErrAnd}
use Rattle.disco_instance.specs.Row.{Row}
use Rattle.disco_values.specs.declared.key.Key.{Key}
use Rattle.disco_history.specs.Change.{Entry}
use Rattle.disco_cache.specs.Docs.{Docs}
use Rattle.disco_values.specs.declared.doc_key.DocKey.{DocKey}
use Rattle.disco_cache.specs.declared.payload.Payload.{Payload}
use Rattle.disco_core.specs.Past.{Past}
use Rattle.disco_hub.specs.Kept.{Forgets, KeepsAtMost}
use Rattle.disco_hub.specs.State.{HubState, HubStandsFor, rules_of}
use Rattle.disco_hub.specs.Transitions.{KeepsRest, Loads}

-- nothing moves
pub rest_of : (s : HubState) → KeepsRest s s
rest_of s = record { rules = refl; rounds = refl; room = refl }

pub rest_on : (a b c : HubState) → KeepsRest a b → KeepsRest b c → KeepsRest a c
rest_on a b c one two = record { rules = two.rules ∙ one.rules; rounds = two.rounds ∙ one.rounds; room = two.room ∙ one.room }

-- no document that is dropped makes room for more
pub room_kept : (held : Key → Option Row) (o : Option Entry) (old new : Docs) → Forgets held o old new → new.max ≡ old.max
room_kept held None old new is = ap (λ (d : Docs). d.max) is
room_kept held (Some c) old new is = is.max

-- a result that is this error
pub of_error : {A E : Type 0} (P : E → Type 0) (r : Result A E) (e : E) → IsErr r × IsErrAnd r (λ x. x ≡ e) → P e → IfErr r P
of_error P (Ok v) e is p = tt
of_error P (Err x) e is p = subst P (sym is.1) p

-- ---- a load

kept_room : (on : Bool) (d : Payload) (old new : Docs) → KeepsAtMost on d old new → new.max ≡ old.max
kept_room on d old new (inl same) = ap (λ (v : Docs). v.max) same
kept_room on d old new (inr one) = ap (λ (v : Docs). v.max) one.kept

module _ (old new : HubState) (k : DocKey) where
  pub loaded_stands : (r : Result (Arc Payload Global) Fault) → IfOk r (λ d. Loads old new k d.value) → OnErr r (new ≡ old) → (p : Past) → HubStandsFor old p → HubStandsFor new p
  loaded_stands (Ok d) loads before p stands = loads.history p stands
  loaded_stands (Err e) loads before p stands = subst (λ (s : HubState). HubStandsFor s p) (sym before) stands

  pub loaded_rest : (r : Result (Arc Payload Global) Fault) → IfOk r (λ d. Loads old new k d.value) → OnErr r (new ≡ old) → KeepsRest old new
  loaded_rest (Ok d) loads before = record {
    rules = ap (λ (s : HubState). rules_of s) loads.rest;
    rounds = ap (λ (s : HubState). s.rounds) loads.rest;
    room = kept_room old.core.delta d.value old.docs new.docs loads.keeps;
  }
  loaded_rest (Err e) loads before = subst (KeepsRest old) (sym before) (rest_of old)
