-- Where a document that readers see was noted.
use Rattle.std.specs.Prelude.{◌≡◌, Bool, true, false, List, ◌∷◌, ◌++◌}
use Rattle.std.specs.List.{list_any}
use Rattle.disco_cache.specs.Payloads.{IsTruePayload}
use Rattle.disco_values.specs.declared.doc_key.DocKey.{DocKey}
use Rattle.disco_cache.specs.declared.payload.Payload.{Payload}
use Rattle.disco_hub.specs.Press.{Note, begin, changes_in, doc}

abbrev pub is_begin : Note → Bool
is_begin begin = true
is_begin _ = false

-- the document of the key is noted there, and no round begins behind it
pub record StandsIn (l : List Note) (k : DocKey) (d : Payload) : Type 0 where
  pub before : List Note
  pub after : List Note
  pub there : l ≡ before ++ doc d ∷ after
  pub key : d.key ≡ k
  pub last : list_any is_begin after ≡ false

-- and it was true of the changes before it, in its run
abbrev pub WasTrue : List Note → DocKey → Payload → Type 0
WasTrue l k d = (s : StandsIn l k d) × IsTruePayload d.run d (changes_in s.before)
