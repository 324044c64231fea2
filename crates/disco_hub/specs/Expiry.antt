-- What has happened after a run that cancels instances whose leases ran out. Moments are in milliseconds.
use Rattle.std.specs.Prelude.{◌≡◌, ◌≢◌, ◌↔◌, ◌<◌, ◌≤◌, ℕ, zero, suc, List, filter, length, Option, Some, None, IfSome, Result, Ok, Err, IsOk, slice_get}
use Rattle.std.specs.Option.{option_map_or}
use Rattle.std.specs.FinMap.{get}
use Rattle.disco_values.specs.declared.fault.Fault.{Fault}
use Rattle.disco_values.specs.declared.fault.Fault.TheVariants.{OutOfMemory}
use Rattle.disco_values.specs.declared.key.Key.{Key}
use Rattle.disco_history.specs.Change.{Entry}
use Rattle.disco_history.specs.Registry.{registry_of}
use Rattle.disco_registry.specs.Accept.{accept_after}
use Rattle.disco_registry.specs.Op.{cancel}
use Rattle.disco_core.specs.Past.{Past, after_ask, has_run_out, history}
use Rattle.disco_core.specs.State.{Rules}
use Rattle.disco_cache.specs.Docs.{Docs}
use Rattle.disco_hub.specs.Kept.{Forgets}
use Rattle.disco_hub.specs.State.{HubState, HubStandsFor, rules_of}

-- those of the keys whose leases have run out by a moment, in their order
abbrev pub overdue_among : Past → ℕ → List Key → List Key
overdue_among p now ks = filter (has_run_out p now) ks

-- what a cancel does at a moment after what has happened: its change, or the first cause against it
abbrev pub cancel_of : Rules → Past → ℕ → Key → Result (Option Entry) Fault
cancel_of rules p now k = accept_after rules.limits (history p) (cancel k) now

-- what has happened after the next cancel, if there is one
abbrev pub after_next : Rules → Past → ℕ → Option Key → Past
after_next rules p now next = option_map_or (λ k. after_ask rules.queue p now (cancel k) (cancel_of rules p now k)) next p

-- what has happened after the first i of these keys were cancelled at a moment, one after the other
unfoldable pub cancelled : Rules → Past → ℕ → List Key → ℕ → Past
cancelled rules p now ks zero = p
cancelled rules p now ks (suc i) = after_next rules (cancelled rules p now ks i) now (slice_get ks i)

-- so many of these keys are cancelled at a moment, in their order, each accepted, and all of them unless it stopped: the next cancel is refused so,
-- or there was no memory for it
pub record IsExpired (rules : Rules) (p : Past) (now : ℕ) (ks : List Key) (gone : ℕ) (stopped : Option Fault) : Type 0 where
  pub accepted : (i : ℕ) (k : Key) → i < gone → slice_get ks i ≡ Some k → IsOk (cancel_of rules (cancelled rules p now ks i) now k)
  pub within : gone ≤ length ks
  pub all : (stopped ≡ None) ↔ (gone ≡ length ks)
  pub next : IfSome stopped (λ e. e ≢ OutOfMemory → (k : Key) × (slice_get ks gone ≡ Some k) × (cancel_of rules (cancelled rules p now ks gone) now k ≡ Err e))

-- the next key is cancelled, and just the kept documents that its change names are dropped
pub record ForgetsNext (rules : Rules) (p : Past) (now : ℕ) (next : Option Key) (old new : Docs) : Type 0 where
  pub key : Key
  pub change : Option Entry
  pub is_next : next ≡ Some key
  pub accepted : cancel_of rules p now key ≡ Ok change
  pub docs : Forgets (get (registry_of (history p))) change old new

-- the first i of these keys are cancelled so, one after the other
unfoldable pub ForgetsEach : Rules → Past → ℕ → List Key → ℕ → Docs → Docs → Type 0
ForgetsEach rules p now ks zero old new = new ≡ old
ForgetsEach rules p now ks (suc i) old new = (mid : Docs) × ForgetsEach rules p now ks i old mid
    × ForgetsNext rules (cancelled rules p now ks i) now (slice_get ks i) mid new

-- a hub cancels these keys as far as it says, then stands for what has happened with that, and keeps what the cancels leave
abbrev pub Expires : HubState → HubState → ℕ → (Past → List Key) → ℕ → Option Fault → Type 0
Expires old new now ks gone stopped = (p : Past) → HubStandsFor old p
    → IsExpired (rules_of old) p now (ks p) gone stopped × HubStandsFor new (cancelled (rules_of old) p now (ks p) gone)
    × ForgetsEach (rules_of old) p now (ks p) gone old.docs new.docs
