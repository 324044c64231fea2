-- The text of a mention, and the texts that are kept.
use Rattle.std.specs.Prelude.{◌≡◌, ℕ, List, if◌then◌else◌, Option, Some, None, IsSome}
use Rattle.std.specs.FinMap.{FinMap, empty, get}
use Rattle.std.specs.Option.{option_flatten}
use Rattle.std.specs.Str.{IsUtf8}
use Rattle.serde_json.specs.Data.{Data, object, member}
use Rattle.serde_json.specs.Written.{compact_text}
use Rattle.disco_values.specs.Key.{key_cmp, same_key}
use Rattle.disco_values.specs.declared.action.Action.TheVariants.{Added}
use Rattle.disco_values.specs.declared.form.Form.{Form}
use Rattle.disco_values.specs.declared.key.Key.{Key}
use Rattle.disco_instance.specs.Mention.{Mention}
use Rattle.disco_instance.specs.Row.{IsWellFormed}
use Rattle.disco_history.specs.Change.{Entry}
use Rattle.disco_history.specs.Mentions.{mention_of}
use Rattle.disco_wire.specs.Written.{instance_tree}

-- an object without its first member
abbrev pub but_first : Data → Data
but_first (object (member name d ms)) = object ms
but_first d = d

-- the tree of a mention in a form: that of its instance, whose first member is the action, if one is named
abbrev pub mention_tree : Form → Mention → Data
mention_tree f (r, Some a) = instance_tree f (r, a)
mention_tree f (r, None) = but_first (instance_tree f (r, Added))

-- it is the text of that mention in a form, with what a document needs to know of it
pub record IsTextOf (f : Form) (text : List ℕ) (m : Mention) : Type 0 where
  pub all : text ≡ compact_text (mention_tree f m)
  pub row : IsWellFormed m.0
  pub utf8 : IsUtf8 text
  pub app : IsUtf8 m.0.key.app

-- ---- kept texts

-- a place for each of some keys, with a text or empty
abbrev pub Places : Type 0
Places = FinMap key_cmp (Option (List ℕ))

-- the places, and what is put next, with its key
pub record StoredTexts : Type 0 where
  pub places : Places
  pub next : Option (Key × List ℕ)

abbrev pub none_kept : StoredTexts
none_kept = record { places = empty; next = None }

-- the text of a key
abbrev pub kept_text_at : StoredTexts → Key → Option (List ℕ)
kept_text_at v k = option_flatten (get v.places k)

-- the same but for empty places and for what is put next, which no answer shows
abbrev pub IsSameTexts : StoredTexts → StoredTexts → Type 0
IsSameTexts old new = (q : Key) → kept_text_at new q ≡ kept_text_at old q

-- no place is empty
abbrev pub HasNoEmpty : Places → Type 0
HasNoEmpty p = (q : Key) → get p q ≡ Some None → ⊥

-- that text can be put under that key without memory
pub record IsReadyFor (v : StoredTexts) (k : Key) (text : List ℕ) : Type 0 where
  pub next : v.next ≡ Some (k, text)
  pub place : IsSome (get v.places k)

-- the key has that text, or none, and each other key what it had
abbrev pub SetsText : Key → Option (List ℕ) → StoredTexts → StoredTexts → Type 0
SetsText k t old new = (q : Key) → kept_text_at new q ≡ (if same_key q k then t else kept_text_at old q)

-- what is kept under a key, where something is, is the text of the mention that is held
abbrev pub AreTied : Form → Option (List ℕ) → Option Entry → Type 0
AreTied f None None = Unit {0}
AreTied f None (Some e) = ⊥
AreTied f (Some t) None = ⊥
AreTied f (Some t) (Some e) = IsTextOf f t (mention_of e)

-- exactly the texts in a form of the mentions that are held are kept
abbrev pub AreKept : Form → StoredTexts → FinMap key_cmp Entry → Type 0
AreKept f v held = (k : Key) → AreTied f (kept_text_at v k) (get held k)
