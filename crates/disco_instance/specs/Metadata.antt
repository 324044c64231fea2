-- Which entries of an object are kept as metadata, and as what (this project's own rule).
use Rattle.std.specs.Prelude.{ℕ, List, [], ◌∷◌, codes, if◌then◌else◌, Option, Some, None, option_and_then, option_map, decimal}
use Rattle.std.specs.Option.{option_map_or}
use Rattle.std.specs.Str.{bytes_eq}
use Rattle.serde_json.specs.Data.{Data, boolean, number, string, Members, no_members, member}
use Rattle.serde_json.specs.Find.{get as member_at, as_u64, as_object}

-- the text that an entry is kept as: a text, a whole number as its digits, a truth value as its name
abbrev pub entry_text : Data → Option (List ℕ)
entry_text (boolean b) = Some (if b then codes "true" else codes "false")
entry_text (number n) = option_map decimal (as_u64 n)
entry_text (string s) = Some s
entry_text _ = None

-- an entry that is kept, before the others
abbrev pub with_entry : List ℕ → Option (List ℕ) → List (List ℕ × List ℕ) → List (List ℕ × List ℕ)
with_entry name None rest = rest
with_entry name (Some text) rest = if bytes_eq name (codes "@class") then rest else (name, text) ∷ rest

abbrev pub kept_entries : Members → List (List ℕ × List ℕ)
kept_entries no_members = []
kept_entries (member k d ms) = with_entry k (entry_text d) (kept_entries ms)

-- the entries of the object at the name
abbrev pub entries_at : List ℕ → Data → List (List ℕ × List ℕ)
entries_at name d = option_map_or kept_entries (option_and_then as_object (member_at name d)) []
