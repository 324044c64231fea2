-- What calls do to kept documents.
use Rattle.std.specs.Prelude.{◌≡◌, ◌<◌, ◌⊎◌, ℕ, Bool, true, Option, Some, None}
use Rattle.std.specs.FinMap.{get, insert, len}
use Rattle.disco_instance.specs.Row.{Row}
use Rattle.disco_values.specs.declared.key.Key.{Key}
use Rattle.disco_history.specs.Change.{Entry, key_of}
use Rattle.disco_history.specs.Query.{is_named}
use Rattle.disco_wire.specs.Documents.{asked_by}
use Rattle.disco_values.specs.Query.{is_delta}
use Rattle.disco_cache.specs.Docs.{Docs, Drops}
use Rattle.disco_values.specs.declared.doc_key.DocKey.{DocKey}
use Rattle.disco_cache.specs.declared.payload.Payload.{Payload}
use Rattle.disco_hub.specs.declared.copied.Copied.{Copied}
use Rattle.disco_hub.specs.declared.copied.Copied.TheVariants as copied
use Rattle.disco_hub.specs.State.{is_cached}

-- just the documents that a change names are dropped, if there is one: by the record of its key before it, and by its own
abbrev pub Forgets : (Key → Option Row) → Option Entry → Docs → Docs → Type 0
Forgets held None old new = new ≡ old
Forgets held (Some c) old new = Drops (λ k. is_named (held (key_of c)) (Some c.0) (asked_by k.query)) old new

-- a document is kept that wasn't, and there was room for it
pub record Keeps (on : Bool) (d : Payload) (old new : Docs) : Type 0 where
  pub cached : is_cached on d.key.query ≡ true
  pub absent : get old.docs d.key ≡ None
  pub room : len old.docs < old.max
  pub kept : new ≡ record old { docs = insert old.docs d.key d }

-- all kept documents stay, and at most that document is added
abbrev pub KeepsAtMost : Bool → Payload → Docs → Docs → Type 0
KeepsAtMost on d old new = (new ≡ old) ⊎ Keeps on d old new

-- a document is the kept one, or where none is kept it is of this version, a delta from this base
abbrev pub IsKeptOrNew : ℕ → ℕ → Option Payload → Payload → Type 0
IsKeptOrNew version base (Some e) d = d ≡ e
IsKeptOrNew version base None d = (d.version ≡ version) × (is_delta d.key.query ≡ true → d.base ≡ base)

-- the document of a key is so, by what is kept
abbrev pub IsAsKept : ℕ → ℕ → Docs → DocKey → Payload → Type 0
IsAsKept version base s k d = IsKeptOrNew version base (get s.docs k) d

-- and so is what is copied of it
abbrev pub IsCopiedAsKept : ℕ → ℕ → Docs → DocKey → Copied → Type 0
IsCopiedAsKept version base s k (copied.Doc d) = IsAsKept version base s k d.value
IsCopiedAsKept version base s k (copied.Drop j) = get s.docs k ≡ None
