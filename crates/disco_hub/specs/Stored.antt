-- Rounds as they are stored. Nothing here is to be believed: no public contract rests on it.
use Rattle.std.specs.Prelude.{◌≡◌, ℕ, Bool, false, List, [], ◌∷◌, map, nat_lt, if◌then◌else◌}
use Rattle.std.specs.Borrow.{Bor}
use Rattle.std.specs.FinMap.{contains_key, insert, len, remove}
use Rattle.disco_history.specs.SortedBy.{AreSortedBy, IsAtBy, IsGapBy, map_by}
use Rattle.disco_values.specs.Keys.{doc_cmp}
use Rattle.disco_values.specs.declared.doc_key.DocKey.{DocKey}
use Rattle.disco_hub.specs.Rounds.{KeySet}
use Rattle.disco_hub.specs.declared.round.CopiedKey.{CopiedKey}

-- a key that had a document becomes one of the edition, and one that had none goes
abbrev pub kept_with : KeySet → DocKey × Bool → KeySet
kept_with ks copied = if copied.1 then insert ks copied.0 tt else remove ks copied.0

-- a key more, while there are fewer than so many
abbrev pub add_within : ℕ → KeySet → DocKey → KeySet
add_within most ks k = if nat_lt (len ks) most then insert ks k tt else ks

abbrev pub key_pair : CopiedKey → DocKey × Bool
key_pair c = (c.key, c.kept)

abbrev pub key_pairs : List CopiedKey → List (DocKey × Bool)
key_pairs cs = map key_pair cs

abbrev pub stored_key : Bor DocKey → DocKey
stored_key k = k.now

abbrev pub mark : Bor DocKey → Unit {0}
mark k = tt

abbrev pub AreInOrder : List (Bor DocKey) → Type 0
AreInOrder ks = AreSortedBy doc_cmp stored_key mark ks

-- the keys that a list stands for
abbrev pub seen_keys : List (Bor DocKey) → KeySet
seen_keys ks = map_by doc_cmp stored_key mark ks

abbrev pub IsKeyAt : List (Bor DocKey) → DocKey → ℕ → Type 0
IsKeyAt ks k i = IsAtBy doc_cmp stored_key ks k i

abbrev pub IsKeyGap : List (Bor DocKey) → DocKey → ℕ → Type 0
IsKeyGap ks k i = IsGapBy doc_cmp stored_key ks k i

-- none of these keys is among those, nor a second time among these
abbrev pub AreNew : KeySet → List DocKey → Type 0
AreNew ks [] = Unit {0}
AreNew ks (k ∷ left) = (contains_key ks k ≡ false) × AreNew (insert ks k tt) left
