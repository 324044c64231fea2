-- Kept documents as plain data.
use Rattle.std.specs.Prelude.{◌≡◌, ℕ, Bool, if◌then◌else◌, None}
use Rattle.std.specs.FinMap.{FinMap, get}
use Rattle.disco_values.specs.Keys.{doc_cmp}
use Rattle.disco_values.specs.declared.doc_key.DocKey.{DocKey}
use Rattle.disco_cache.specs.declared.payload.Payload.{Payload}

-- the document of each key that has one, and how many there may be
pub record Docs : Type 0 where
  pub docs : FinMap doc_cmp Payload
  pub max : ℕ

-- the keys for which `of` is true have no document any more, and each other key has what it had
pub record Drops (of : DocKey → Bool) (old new : Docs) : Type 0 where
  pub docs : (k : DocKey) → get new.docs k ≡ (if of k then None else get old.docs k)
  pub max : new.max ≡ old.max
