-- What a hub is: a core, with documents that are kept, and rounds in which they are copied.
use Rattle.std.specs.Prelude.{◌≡◌, ◌≤◌, ℕ, Bool, true, false, Option, Some, None}
use Rattle.std.specs.FinMap.{FinMap, empty, get}
use Rattle.disco_history.specs.Query.{is_absent}
use Rattle.disco_history.specs.Registry.{registry_of}
use Rattle.disco_wire.specs.Documents.{asked_by}
use Rattle.disco_values.specs.Query.{is_delta}
use Rattle.disco_values.specs.declared.query.Query.{Query}
use Rattle.disco_values.specs.declared.query.Query.TheVariants as query
use Rattle.disco_cache.specs.Docs.{Docs}
use Rattle.disco_values.specs.Keys.{doc_cmp}
use Rattle.disco_cache.specs.Payloads.{IsTruePayload}
use Rattle.disco_values.specs.declared.doc_key.DocKey.{DocKey}
use Rattle.disco_cache.specs.declared.payload.Payload.{Payload}
use Rattle.disco_core.specs.Past.{Past, history, nothing}
use Rattle.disco_core.specs.State as core
use Rattle.disco_hub.specs.Rounds.{Round, Rounds}
use Rattle.disco_hub.specs.declared.copied.Copied.{Copied}
use Rattle.disco_hub.specs.declared.copied.Copied.TheVariants as copied
use Rattle.disco_values.specs.declared.settings.Settings.{Settings}

pub record HubState : Type 0 where
  pub core : core.CoreState
  pub docs : Docs
  pub rounds : Rounds

abbrev pub rules_of : HubState → core.Rules
rules_of s = core.core_rules s.core

-- how many changes were accepted
abbrev pub version_of : HubState → ℕ
version_of s = s.core.registry.version

-- the round that is open, if one is
abbrev pub open_round : HubState → Option Round
open_round s = s.rounds.round

-- a document may be served after what has happened: it is of the run and true, and a delta starts no later than the queue does
pub record MayServe (d : Payload) (p : Past) : Type 0 where
  pub true_now : IsTruePayload p.run d (history p)
  pub start : is_delta d.key.query ≡ true → d.base ≤ p.base

-- documents of single instances are cached nowhere, and deltas only where they are served
abbrev pub is_cached : Bool → Query → Bool
is_cached on (query.Instance key) = false
is_cached on query.Delta = on
is_cached on _ = true

-- each kept document is of its key, may be cached, where deltas are on or off, and may be served
pub record AreServable (on : Bool) (docs : FinMap doc_cmp Payload) (p : Past) : Type 0 where
  pub keys : (k : DocKey) (d : Payload) → get docs k ≡ Some d → (d.key ≡ k) × (is_cached on k.query ≡ true)
  pub served : (k : DocKey) (d : Payload) → get docs k ≡ Some d → MayServe d p

-- it holds what is left of what happened, and each document that it keeps may be served now
pub record HubStandsFor (s : HubState) (p : Past) : Type 0 where
  pub core : core.CoreStandsFor s.core p
  pub docs : AreServable s.core.delta s.docs.docs p

-- nothing has happened to it in its run, no document is kept and none was published, and no round is open
pub record IsEmptyHub (settings : Settings) (s : HubState) : Type 0 where
  pub stands : HubStandsFor s (nothing settings.run)
  pub rules : rules_of s ≡ core.rules settings
  pub docs : s.docs ≡ record { docs = empty; max = settings.entries }
  pub rounds : s.rounds ≡ record { edition = empty; round = None }

-- the same but for places and room, which no answer shows
pub record IsSameHub (old new : HubState) : Type 0 where
  pub core : core.IsSameCore old.core new.core
  pub docs : new.docs ≡ old.docs
  pub rounds : new.rounds ≡ old.rounds

-- what was copied of a key after what has happened: a document that may be served, or that there is none
abbrev pub IsCopied : DocKey → Copied → Past → Type 0
IsCopied k (copied.Doc d) p = (d.value.key ≡ k) × MayServe d.value p
IsCopied k (copied.Drop j) p = (j ≡ k) × (is_absent (registry_of (history p)) (asked_by k.query) ≡ true)
