-- Rounds, in which a publisher copies documents (this project's own rule).
use Rattle.std.specs.Prelude.{◌≡◌, ◌≢◌, ℕ, Bool, List, [], ◌∷◌, ◌++◌, fold, if◌then◌else◌, length, nat_lt, Option, Some, None}
use Rattle.std.specs.FinMap.{FinMap, empty, insert, keys, len, remove}
use Rattle.disco_values.specs.declared.fault.Fault.{Fault}
use Rattle.disco_values.specs.declared.fault.Fault.TheVariants.{KeysLeft, NoRound}
use Rattle.disco_cache.specs.Docs.{Docs}
use Rattle.disco_values.specs.Keys.{doc_cmp}
use Rattle.disco_values.specs.declared.doc_key.DocKey.{DocKey}

abbrev pub KeySet : Type 0
KeySet = FinMap doc_cmp (Unit {0})

-- an open round: the keys that were copied, each with whether it had a document, and those that are left
pub record Round : Type 0 where
  pub done : List (DocKey × Bool)
  pub left : List DocKey

-- the keys of an edition of which these were copied: one that had a document becomes one of it, and one that had none goes
abbrev pub kept_keys : List (DocKey × Bool) → KeySet
kept_keys done = fold (λ ks copied. if copied.1 then insert ks copied.0 tt else remove ks copied.0) empty done

-- the keys of a round: those of the edition, then those of kept documents in their order until there are so many; all in their order
abbrev pub round_keys : KeySet → Docs → List DocKey
round_keys edition kept = keys (fold (λ ks k. if nat_lt (len ks) kept.max then insert ks k tt else ks) edition (keys kept.docs))

-- the keys of the edition that readers see, and the open round, if there is one
pub record Rounds : Type 0 where
  pub edition : KeySet
  pub round : Option Round

-- the first key that was left is copied, with a document or without one
pub record Marks (kept : Bool) (old new : Round) : Type 0 where
  pub key : DocKey
  pub first : old.left ≡ key ∷ new.left
  pub done : new.done ≡ old.done ++ (key, kept) ∷ []

-- a round of these keys is begun where none was open, of so many
pub record Begins (ks : List DocKey) (n : ℕ) (old new : Rounds) : Type 0 where
  pub none : old.round ≡ None
  pub round : new ≡ record old { round = Some (record { done = []; left = ks }) }
  pub many : n ≡ length ks

-- a key of the open round is copied
pub record Advances (kept : Bool) (old new : Rounds) : Type 0 where
  pub before : Round
  pub after : Round
  pub was : old.round ≡ Some before
  pub marks : Marks kept before after
  pub round : new ≡ record old { round = Some after }

-- the open round ends without a key left: the keys that had a document are the edition's, so many
pub record Ends (n : ℕ) (old new : Rounds) : Type 0 where
  pub round : Round
  pub was : old.round ≡ Some round
  pub whole : round.left ≡ []
  pub edition : new ≡ record { edition = kept_keys round.done; round = None }
  pub many : n ≡ len (kept_keys round.done)

-- why the open round, if there is one, doesn't end
abbrev pub StaysOpen : Fault → Option Round → Type 0
StaysOpen e None = e ≡ NoRound
StaysOpen e (Some r) = (e ≡ KeysLeft) × (r.left ≢ [])
