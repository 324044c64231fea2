-- What a call does to a hub: one record for each kind of step, which every layer above uses.
use Rattle.std.specs.Prelude.{◌≡◌, ◌≢◌, ℕ, Bool, List, [], Option, Some, None, Ok, IfSome, slice_get}
use Rattle.disco_values.specs.declared.fault.Fault.{Fault}
use Rattle.disco_values.specs.declared.fault.Fault.TheVariants.{NoRound, OutOfMemory, RoundOpen}
use Rattle.disco_values.specs.declared.form.Form.{Form}
use Rattle.std.specs.FinMap.{get}
use Rattle.disco_history.specs.Change.{Entry}
use Rattle.disco_history.specs.Registry.{registry_of}
use Rattle.disco_registry.specs.Accept.{MayRefuse, accepts}
use Rattle.disco_registry.specs.Op.{OpView}
use Rattle.disco_lease.specs.declared.minute.Minute.{Minute}
use Rattle.disco_values.specs.declared.doc_key.DocKey.{DocKey}
use Rattle.disco_cache.specs.declared.payload.Payload.{Payload}
use Rattle.disco_hub.specs.Press.{is_doc}
use Rattle.disco_hub.specs.Rounds.{Advances, Begins, Ends, round_keys}
use Rattle.disco_hub.specs.declared.copied.Copied.{Copied}
use Rattle.disco_core.specs.Past.{Past, cleaned, history, minute_closed, with_done}
use Rattle.disco_core.specs.Refusals.{doc_of_id, refusal_of, refusal_of_id}
use Rattle.disco_hub.specs.Kept.{Forgets, IsAsKept, IsCopiedAsKept, KeepsAtMost}
use Rattle.disco_hub.specs.State.{IsCopied, MayServe, HubState, HubStandsFor, open_round, rules_of, version_of}

-- ---- operations

-- no operation, load or cleaning moves the rules, the rounds or how many documents may be kept
pub record KeepsRest (old new : HubState) : Type 0 where
  pub rules : rules_of new ≡ rules_of old
  pub rounds : new.rounds ≡ old.rounds
  pub room : new.docs.max ≡ old.docs.max

-- an operation is accepted at a moment, with this change or none: it has happened then, and just the kept documents that it names are
-- dropped
pub record Writes (old new : HubState) (ask : OpView) (now : ℕ) (change : Option Entry) : Type 0 where
  pub accepted : accepts old.core.registry ask now ≡ Ok change
  pub docs : (p : Past) → HubStandsFor old p → Forgets (get (registry_of (history p))) change old.docs new.docs
  pub history : (p : Past) → HubStandsFor old p → HubStandsFor new (with_done (rules_of old).queue p now ask change)

-- an operation is refused at a moment: nothing has happened, and the same documents are kept
pub record Declines (old new : HubState) (ask : OpView) (now : ℕ) (e : Fault) : Type 0 where
  pub cause : MayRefuse old.core.registry ask now e
  pub history : (p : Past) → HubStandsFor old p → HubStandsFor new p
  pub docs : new.docs ≡ old.docs

-- the recent changes that are older than the retention are forgotten, so that deltas start from this version, and nothing else is
pub record Cleans (old new : HubState) (now from : ℕ) : Type 0 where
  pub base : from ≡ new.core.queue.base
  pub history : (p : Past) → HubStandsFor old p → HubStandsFor new (cleaned (rules_of old).retention p now)
  pub registry : new.core.registry ≡ old.core.registry
  pub docs : new.docs ≡ old.docs
  pub rest : KeepsRest old new

-- a minute is closed, with these numbers
pub record Closes (old new : HubState) (minute : Minute) : Type 0 where
  pub kept : (p : Past) → HubStandsFor old p → minute ≡ (minute_closed p).closed
  pub history : (p : Past) → HubStandsFor old p → HubStandsFor new (minute_closed p)
  pub registry : new.core.registry ≡ old.core.registry
  pub docs : new.docs ≡ old.docs
  pub rest : KeepsRest old new

-- ---- documents

-- the document of a key is served, where deltas are on or off
pub record IsDocOf (s : HubState) (on : Bool) (k : DocKey) (d : Payload) : Type 0 where
  pub key : d.key ≡ k
  pub served : (p : Past) → HubStandsFor s p → MayServe d p
  pub allowed : (p : Past) → HubStandsFor s p → refusal_of on k.query (history p) ≡ None

-- it is refused for its cause, or for want of memory
abbrev pub Withholds : HubState → Bool → DocKey → Fault → Type 0
Withholds s on k e = e ≢ OutOfMemory → (p : Past) → HubStandsFor s p → refusal_of on k.query (history p) ≡ Some e

-- the document of the instance of an id is served
pub record IsDocOfId (s : HubState) (id : List ℕ) (f : Form) (d : Payload) : Type 0 where
  pub key : (p : Past) → HubStandsFor s p → doc_of_id id f (history p) ≡ Some d.key
  pub served : (p : Past) → HubStandsFor s p → MayServe d p
  pub allowed : (p : Past) → HubStandsFor s p → refusal_of_id id (history p) ≡ None

-- it is refused for its cause, or for want of memory
abbrev pub WithholdsId : HubState → List ℕ → Fault → Type 0
WithholdsId s id e = e ≢ OutOfMemory → (p : Past) → HubStandsFor s p → refusal_of_id id (history p) ≡ Some e

-- a load of a key gives this document, as it is kept where it is kept and else of now, keeps it at most, and moves nothing else
pub record Loads (old new : HubState) (k : DocKey) (d : Payload) : Type 0 where
  pub as_kept : IsAsKept (version_of old) old.core.queue.base old.docs k d
  pub keeps : KeepsAtMost old.core.delta d old.docs new.docs
  pub history : (p : Past) → HubStandsFor old p → HubStandsFor new p
  pub rest : new ≡ record old { docs = new.docs }

-- ---- rounds

-- nothing but the rounds moves
abbrev pub MovesRounds : HubState → HubState → Type 0
MovesRounds old new = new ≡ record old { rounds = new.rounds }

-- a round of so many keys begins
pub record BeginsRound (old new : HubState) (n : ℕ) : Type 0 where
  pub begun : Begins (round_keys old.rounds.edition old.docs) n old.rounds new.rounds
  pub rest : MovesRounds old new

-- no round begins, since one is open, or for want of memory
abbrev pub RefusesRound : HubState → Fault → Type 0
RefusesRound s e = e ≢ OutOfMemory → (e ≡ RoundOpen) × (open_round s ≢ None)

-- what is copied is of the first key that is left of the open round, and as it is kept where it is kept and else of now
pub record IsNextCopy (s : HubState) (c : Copied) : Type 0 where
  pub copied : (p : Past) → HubStandsFor s p → IfSome (open_round s) (λ r. IfSome (slice_get r.left 0) (λ k. IsCopied k c p))
  pub as_kept : IfSome (open_round s) (λ r. IfSome (slice_get r.left 0) (λ k. IsCopiedAsKept (version_of s) s.core.queue.base s.docs k c))

-- the first key that is left is copied, and kept where it has a document
pub record CopiesOne (old new : HubState) (c : Copied) : Type 0 where
  pub copied : IsNextCopy old c
  pub marked : Advances (is_doc c) old.rounds new.rounds
  pub rest : MovesRounds old new

-- a round is open, and no key of it is left
pub record HasNoneLeft (s : HubState) : Type 0 where
  pub left : IfSome (open_round s) (λ r. r.left ≡ [])
  pub there : open_round s ≢ None

-- nothing is copied, since no round is open, or for want of memory
abbrev pub RefusesCopy : HubState → Fault → Type 0
RefusesCopy s e = e ≢ OutOfMemory → (e ≡ NoRound) × (open_round s ≡ None)

-- the open round ends, with so many keys that had a document
pub record EndsRound (old new : HubState) (n : ℕ) : Type 0 where
  pub finished : Ends n old.rounds new.rounds
  pub rest : MovesRounds old new
