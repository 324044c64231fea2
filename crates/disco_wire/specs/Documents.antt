-- What a written document means, and what a true one is.
use Rattle.std.specs.Prelude.{◌≡◌, ◌≤◌, ℕ, Bool, true, false, List, map, if◌then◌else◌, length, Option, Some, None, Ok, Result}
use Rattle.std.specs.FinMap.{values}
use Rattle.serde_json.specs.Written.{compact_text}
use Rattle.disco_values.specs.declared.form.Form.{Form}
use Rattle.disco_history.specs.Change.{Entry, prefix}
use Rattle.disco_history.specs.Forms.{mention_in}
use Rattle.disco_history.specs.Hash.{hash}
use Rattle.disco_history.specs.Mentions.{delta, mention_of}
use Rattle.disco_history.specs.Query.{Selector, all, of_app, of_vip, of_secure_vip, of_key, is_absent, restrict}
use Rattle.disco_history.specs.Registry.{registry_of, mentions_of}
use Rattle.disco_wire.specs.Meaning.{Meaning, meaning_of}
use Rattle.disco_wire.specs.declared.wire.Shape.{Shape}
use Rattle.disco_wire.specs.declared.wire.Shape.TheVariants as shapes
use Rattle.disco_values.specs.Query.{is_delta}
use Rattle.disco_wire.specs.Written.{tree_of}
use Rattle.disco_values.specs.declared.query.Query.{Query}
use Rattle.disco_values.specs.declared.query.Query.TheVariants as query
use Rattle.std.specs.Option.{ok_or}
use Rattle.disco_instance.specs.Instance.{if_ok}
use Rattle.disco_values.specs.declared.fault.Fault.{Fault}
use Rattle.disco_values.specs.declared.fault.Fault.TheVariants.{BadDocument}
use Rattle.disco_wire.specs.Tree.{json_of}

-- what the bytes of a document mean, or why they mean nothing
abbrev pub document_of : List ℕ → Result Meaning Fault
document_of bytes = if_ok (json_of bytes) (λ d. ok_or (meaning_of d) BadDocument)

-- a kind of document: of which records it is, its shape, and whether it is kept while other changes come
pub record Kind : Type 0 where
  pub asked : Selector
  pub shape : Shape
  pub kept : Bool

-- the table of queries
abbrev pub kind : Query → Kind
kind query.Apps = record { asked = all; shape = shapes.Many; kept = false }
kind query.Delta = record { asked = all; shape = shapes.Many; kept = false }
kind (query.App name) = record { asked = of_app name; shape = shapes.App; kept = true }
kind (query.Vip vip) = record { asked = of_vip vip; shape = shapes.Many; kept = true }
kind (query.Svip vip) = record { asked = of_secure_vip vip; shape = shapes.Many; kept = true }
kind (query.Instance key) = record { asked = of_key key; shape = shapes.One; kept = false }

-- which records a query asks for; a delta is of all of them
abbrev pub asked_by : Query → Selector
asked_by q = (kind q).asked

-- a document of many apps has a hash code and a version, another one neither
abbrev pub if_many : {X : Type 0} → Shape → X → Option X
if_many shapes.Many x = Some x
if_many _ x = None

-- the mentions of the records that are asked for after a history, by app, then id
abbrev pub mentioned : Selector → List Entry → List Entry
mentioned a h = values (mentions_of h (restrict (registry_of h) a))

-- the mentions of a query's document: the last changes from the base on, or those of the records
abbrev pub told : Query → List Entry → ℕ → List Entry
told q h base = if is_delta q then values (delta h base) else mentioned (asked_by q) h

-- the hash code of the records that are asked for: a delta's is that of all
abbrev pub hash_of : Query → List Entry → List ℕ
hash_of q h = hash (values (restrict (registry_of h) (asked_by q)))

-- what a document in a form means after a history, from a base, where it was built at a version
abbrev pub meaning_for : Query → Form → List Entry → ℕ → ℕ → Meaning
meaning_for q f h base v = record {
  shape = (kind q).shape;
  mentions = map (mention_in f) (map mention_of (told q h base));
  hash = if_many (kind q).shape (hash_of q h);
  version = if_many (kind q).shape v;
}

-- the text that is written of a query in a form after a history, from a base, at a version: the compact text of its tree
abbrev pub text_for : Query → Form → List Entry → ℕ → ℕ → List ℕ
text_for q f h base v = compact_text (tree_of f (asked_by q) (told q h base) (hash_of q h) v)

-- what a text means, however it is written, is a query's document after a history: a delta is from its base to now;
-- another one is of now or, where it is kept, of an earlier version since which nothing that it asks for has changed
pub record MeansFor (q : Query) (text : List ℕ) (base version : ℕ) (f : Form) (h : List Entry) : Type 0 where
  pub meaning : document_of text ≡ Ok (meaning_for q f h base version)
  pub there : is_absent (registry_of h) (asked_by q) ≡ false
  pub start : base ≤ version
  pub whole : is_delta q ≡ false → base ≡ version
  pub past : version ≤ length h
  pub now : (kind q).kept ≡ false → version ≡ length h
  pub same : meaning_for q f (prefix h version) base version ≡ meaning_for q f h base version

-- a true document after a history: it means what it has to, and is the one text that is written of it
pub record IsTrueFor (q : Query) (text : List ℕ) (base version : ℕ) (f : Form) (h : List Entry) : Type 0 where
  pub written : text ≡ text_for q f h base version
  pub means : MeansFor q text base version f h

-- what is written of a query in a form after a history, a delta from a base: nothing exactly where it is absent, else the compact text of its tree,
-- which means what is asked for
abbrev pub IsWritten : Form → Query → List Entry → ℕ → Option (List ℕ) → Type 0
IsWritten f q h base None = is_absent (registry_of h) (asked_by q) ≡ true
IsWritten f q h base (Some text) = (is_absent (registry_of h) (asked_by q) ≡ false) × (text ≡ text_for q f h base (length h))
    × (document_of text ≡ Ok (meaning_for q f h base (length h)))
