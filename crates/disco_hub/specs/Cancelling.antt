-- Cancels of a hub, one by one, and what is noted of them.
use Rattle.std.specs.Prelude.{◌≡◌, ◌≢◌, ◌<◌, ◌+◌, ℕ, List, Option, Some, Ok, Err, IsOk, slice_get}
use Rattle.disco_values.specs.declared.fault.Fault.{Fault}
use Rattle.disco_values.specs.declared.fault.Fault.TheVariants.{OutOfMemory}
use Rattle.disco_values.specs.declared.key.Key.{Key}
use Rattle.std.specs.FinMap.{get}
use Rattle.disco_history.specs.Change.{Entry}
use Rattle.disco_history.specs.Registry.{registry_of}
use Rattle.disco_registry.specs.Op.{cancel}
use Rattle.disco_hub.specs.Expiry.{ForgetsEach, cancel_of, cancelled}
use Rattle.disco_hub.specs.Kept.{Forgets}
use Rattle.disco_core.specs.Past.{Past, history, with_done}
use Rattle.disco_hub.specs.State.{HubState, HubStandsFor, rules_of}

-- one cancel is accepted, the hub then stands for what has happened with it, and just the kept documents that it names are dropped
abbrev pub Cancels : HubState → HubState → ℕ → Key → Type 0
Cancels old new now k = (p : Past) → HubStandsFor old p → (c : Option Entry) × (cancel_of (rules_of old) p now k ≡ Ok c)
    × HubStandsFor new (with_done (rules_of old).queue p now (cancel k) c) × Forgets (get (registry_of (history p))) c old.docs new.docs

-- one cancel is refused, the hub stands for what it stood for, and keeps the same documents
abbrev pub CancelsNone : HubState → HubState → ℕ → Key → Fault → Type 0
CancelsNone old new now k e = (p : Past) → HubStandsFor old p → HubStandsFor new p × (e ≢ OutOfMemory → cancel_of (rules_of old) p now k ≡ Err e)
    × (new.docs ≡ old.docs)

-- a hub has cancelled the first so many of these keys
pub record HasCancelled (old new : HubState) (now : ℕ) (ks : List Key) (gone : ℕ) : Type 0 where
  pub stands : (p : Past) → HubStandsFor old p → HubStandsFor new (cancelled (rules_of old) p now ks gone)
  pub accepted : (p : Past) → HubStandsFor old p → (i : ℕ) (k : Key) → i < gone → slice_get ks i ≡ Some k
      → IsOk (cancel_of (rules_of old) (cancelled (rules_of old) p now ks i) now k)
  pub docs : (p : Past) → HubStandsFor old p → ForgetsEach (rules_of old) p now ks gone old.docs new.docs
  pub rules : rules_of new ≡ rules_of old

-- with one cancel more, what was noted of the first so many cancels is noted of one more
pub record NotesOneMore {S : Type 0} (hub : S → HubState) (noted : S → S → (Past → Past) → Type 0) (now : ℕ) (k : Key) (mid new : S) : Type 0 where
  pub more : (old : S) (ks : List Key) (i : ℕ) → slice_get ks i ≡ Some k → HasCancelled (hub old) (hub mid) now ks i
      → noted old mid (λ p. cancelled (rules_of (hub old)) p now ks i) → noted old new (λ p. cancelled (rules_of (hub old)) p now ks (i + 1))

-- what was noted is noted, and no more
pub record NotesAsBefore {S : Type 0} (noted : S → S → (Past → Past) → Type 0) (mid new : S) : Type 0 where
  pub same : (old : S) (then : Past → Past) → noted old mid then → noted old new then
