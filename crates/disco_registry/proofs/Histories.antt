-- A history with one more change.
use Rattle.std.proofs.Common.{◌≡◌, ℕ, ◌+◌, Bool, true, false, cond, List, [], ◌∷◌, ◌++◌, length, map, Option, Some, None, option_map, Result, Ok, Err, IfOk, IfErr, refl, sym, ap, ◌∙◌, length-append}
use Rattle.std.specs.FinMap.{FinMap, get, len, values}
use Rattle.std.specs.List.{find}
use Rattle.std.specs.Str.{bytes_eq}
use Rattle.disco_history.specs.Apps.{is_of_id}
use Rattle.disco_history.specs.Held.{record_at}
use Rattle.disco_history.specs.Query.{by_id}
use Rattle.disco_instance.specs.Instance.{Gives}
use Rattle.disco_values.specs.Key.{key_cmp}
use Rattle.disco_values.specs.declared.fault.Fault.{Fault}
use Rattle.disco_values.specs.declared.key.Key.{Key}
use Rattle.disco_registry.specs.Accept.{MayRefuse, accept, accept_after, accepts, limits_of}
use Rattle.disco_registry.specs.Op.{OpView}
use Rattle.disco_registry.specs.declared.op.Applied.{Applied}
use Rattle.disco_history.specs.Change.{Entry}
use Rattle.disco_history.specs.Registry.{registry_of, mentions_of}
use Rattle.disco_history.proofs.Sets.{get-said_reg, len-reg, said_gone, said_put, values-reg}
use Rattle.disco_values.specs.declared.action.Action.{Action}
use Rattle.disco_values.specs.declared.action.Action.TheVariants.{Added, Modified, Deleted}
use Rattle.disco_instance.specs.Row.{Row}
use Rattle.disco_registry.specs.Commit.{Takes, done_by, appended, held_after}
use Rattle.disco_registry.specs.State.{RegistryState, StandsFor, IsSameRegistry}

longer : (h : List Entry) (c : Entry) → length (h ++ c ∷ []) ≡ length h + 1
longer h c = length-append h (c ∷ [])

said_after : (h : List Entry) (r : Row) (a : Action) → mentions_of (h ++ (r, a) ∷ []) (registry_of (h ++ (r, a) ∷ [])) ≡ held_after (mentions_of h (registry_of h)) (Some (r, a))
said_after h r Added = said_put h (r, Added) refl
said_after h r Modified = said_put h (r, Modified) refl
said_after h r Deleted = said_gone h (r, Deleted) refl

pub stands_after : (h : List Entry) (old new : RegistryState) (c : Option Entry) → Takes old c new → StandsFor old h → StandsFor new (appended h c)
stands_after h old new None takes stands = record { held = takes.held ∙ stands.held; version = takes.version ∙ stands.version }
stands_after h old new (Some c) takes stands = record {
  held = takes.held ∙ ap (λ m. held_after m (Some c)) stands.held ∙ sym (said_after h c.0 c.1);
  version = takes.version ∙ ap (λ n. n + 1) stands.version ∙ sym (longer h c);
}

-- the first record of an id among records, and among their mentions
found_first : (id : List ℕ) (es : List Entry) → find (λ (r : Row). bytes_eq r.key.id id) (map (λ e. e.0) es) ≡ option_map (λ e. e.0) (find (is_of_id id) es)
found_first id [] = refl
found_first id (e ∷ es) = one (is_of_id id e) (found_first id es)
  where
    one : (b : Bool) → find (λ (r : Row). bytes_eq r.key.id id) (map (λ e. e.0) es) ≡ option_map (λ e. e.0) (find (is_of_id id) es)
        → cond b (Some e.0) (find (λ (r : Row). bytes_eq r.key.id id) (map (λ e. e.0) es)) ≡ option_map (λ e. e.0) (cond b (Some e) (find (is_of_id id) es))
    one true ih = refl
    one false ih = ih

pub stands_same : (h : List Entry) (old new : RegistryState) → IsSameRegistry old new → StandsFor old h → StandsFor new h
stands_same h old new same stands = record { held = same.held ∙ stands.held; version = same.version ∙ stands.version }

-- ---- what is shown of a registry is that of each history

module _ (s : RegistryState) (h : List Entry) (stands : StandsFor s h) where
  pub get_after : (k : Key) → record_at s.held k ≡ get (registry_of h) k
  get_after k = ap (λ m. record_at m k) stands.held ∙ get-said_reg h k

  pub len_after : len s.held ≡ len (registry_of h)
  len_after = ap len stands.held ∙ sym (len-reg h)

  pub accepts_after : (ask : OpView) (now : ℕ) → accepts s ask now ≡ accept_after (limits_of s) h ask now
  accepts_after ask now = λ i. accept (limits_of s) (λ k. get_after k i) (len_after i) (stands.version i) ask now

  pub by_id_after : (id : List ℕ) → option_map (λ e. e.0) (find (is_of_id id) (values s.held)) ≡ by_id (registry_of h) id
  by_id_after id =
      ap (λ (m : FinMap key_cmp Entry). option_map (λ e. e.0) (find (is_of_id id) (values m))) stands.held
      ∙ sym (found_first id (values (mentions_of h (registry_of h)))) ∙ ap (find (λ (r : Row). bytes_eq r.key.id id)) (sym (values-reg h))

  pub gives_after : (ask : OpView) (now : ℕ) (r : Result Applied Fault) → IfOk r (λ a. accepts s ask now ≡ Ok (done_by a)) → IfErr r (MayRefuse s ask now)
      → Gives done_by r (accept_after (limits_of s) h ask now)
  gives_after ask now (Ok a) done refused = sym (accepts_after ask now) ∙ done
  gives_after ask now (Err e) done refused = λ other. sym (accepts_after ask now) ∙ refused other
