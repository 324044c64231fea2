-- The text of a document, joined from the texts of its instances. Nothing here need be believed.
use Rattle.std.specs.Prelude.{◌≡◌, ℕ, Bool, true, false, List, [], ◌∷◌, ◌++◌, codes, decimal, map, if◌then◌else◌, IfSome, Option, Some, None, option_map, ⊤, unwrap_or}
use Rattle.std.specs.List.{AllByRecursion, filter_map}
use Rattle.std.specs.Str.{bytes_eq}
use Rattle.json.specs.Print.{quoted}
use Rattle.serde_json.specs.Written.{compact_text}
use Rattle.disco_values.specs.declared.form.Form.{Form}
use Rattle.disco_values.specs.declared.key.Key.{Key}
use Rattle.disco_history.specs.Change.{Entry, key_of}
use Rattle.disco_history.specs.Mentions.{mention_of}
use Rattle.disco_wire.specs.Written.{instance_tree}
use Rattle.disco_writer.specs.Kept.{IsTextOf, StoredTexts, kept_text_at}
use Rattle.disco_writer.specs.declared.piece.Piece.{Piece}
use Rattle.disco_writer.specs.declared.piece.Source.{Source}
use Rattle.disco_writer.specs.declared.piece.Source.TheVariants as source

-- the text of an instance in a form
abbrev pub text_of_entry : Form → Entry → List ℕ
text_of_entry f e = compact_text (instance_tree f e)

-- an instance's app and its text
abbrev pub Shown : Type 0
Shown = List ℕ × List ℕ

-- what is shown of instances
abbrev pub shown : Form → List Entry → List Shown
shown f es = map (λ e. (e.0.key.app, text_of_entry f e)) es

abbrev pub bytes_of : Source → List ℕ
bytes_of (source.Kept text) = text.now
bytes_of (source.Made text) = text.items

abbrev pub shown_one : Piece → Shown
shown_one p = (p.app.now, bytes_of p.source)

abbrev pub shown_by : List Piece → List Shown
shown_by ps = map shown_one ps

-- these are the apps and the texts of these instances
abbrev pub AreTextsOf : Form → List Shown → List Entry → Type 0
AreTextsOf f [] [] = ⊤
AreTextsOf f [] (e ∷ es) = ⊥
AreTextsOf f (p ∷ ps) [] = ⊥
AreTextsOf f (p ∷ ps) (e ∷ es) = (p.0 ≡ e.0.key.app) × IsTextOf f p.1 (mention_of e) × AreTextsOf f ps es

-- ---- kept texts, and texts that are made

-- the apps and the texts of places that aren't empty
abbrev pub walked : List (Key × Option (List ℕ)) → List Shown
walked es = filter_map (λ e. option_map (λ t. (e.0.app, t)) e.1) es

-- the same of one app's places
abbrev pub walked_ids : List ℕ → List (List ℕ × Option (List ℕ)) → List Shown
walked_ids app es = filter_map (λ e. option_map (λ t. (app, t)) e.1) es

-- the text of an instance: the kept one or, where none is kept, the one that is made
abbrev pub told_text : Form → Option (List ℕ) → Entry → List ℕ
told_text f kept e = unwrap_or kept (text_of_entry f e)

-- its app and that text
abbrev pub told_by : Form → Option (List ℕ) → Entry → Shown
told_by f kept e = (e.0.key.app, told_text f kept e)

-- an instance's app, and its kept text or, where none is, the one that is made
abbrev pub told_one : Form → StoredTexts → Entry → Shown
told_one f v e = told_by f (kept_text_at v (key_of e)) e

abbrev pub texts_by : Form → StoredTexts → List Entry → List Shown
texts_by f v es = map (told_one f v) es

-- if a text of the instance is kept, it is its text
abbrev pub Agrees : Form → StoredTexts → Entry → Type 0
Agrees f v e = IfSome (kept_text_at v (key_of e)) (λ t. IsTextOf f t (mention_of e))

abbrev pub AllAgree : Form → StoredTexts → List Entry → Type 0
AllAgree f v es = AllByRecursion (Agrees f v) es

-- if the kept text is the instance's, so is the text that is taken
abbrev pub IsToldText : Form → Option (List ℕ) → Entry → Type 0
IsToldText f kept e = IfSome kept (λ t. IsTextOf f t (mention_of e)) → IsTextOf f (told_text f kept e) (mention_of e)

abbrev pub IsJoinedText : Form → StoredTexts → Entry → Type 0
IsJoinedText f v e = IsToldText f (kept_text_at v (key_of e)) e

abbrev pub AreJoinedTexts : Form → StoredTexts → List Entry → Type 0
AreJoinedTexts f v es = AllByRecursion (IsJoinedText f v) es

-- ---- what stands round the texts

unfoldable pub app_open : List ℕ
app_open = codes "{\"instance\":["

-- the end of an application, with its name
unfoldable pub app_close : List ℕ → List ℕ
app_close name = codes "],\"name\":" ++ (quoted name ++ codes "}")

-- what stands before the next instance of an app: after none, after one of the same app, or after one of another app
abbrev pub before_next : Option (List ℕ) → List ℕ → List ℕ
before_next None app = app_open
before_next (Some last) app = if bytes_eq app last then codes "," else app_close last ++ (codes "," ++ app_open)

abbrev pub after_last : Option (List ℕ) → List ℕ
after_last None = []
after_last (Some last) = app_close last

-- the texts that come after an instance of that app, in applications
abbrev pub in_apps : Option (List ℕ) → List Shown → List ℕ
in_apps last [] = after_last last
in_apps last (p ∷ ps) = before_next last p.0 ++ (p.1 ++ in_apps (Some p.0) ps)

-- the texts with commas between them, and with one in front where others came before
abbrev pub in_commas : Bool → List Shown → List ℕ
in_commas later [] = []
in_commas later (p ∷ ps) = (if later then codes "," else []) ++ (p.1 ++ in_commas true ps)

unfoldable pub many_open : List ℕ
many_open = codes "{\"applications\":{\"application\":["

unfoldable pub many_close : List ℕ → ℕ → List ℕ
many_close hash version = codes "],\"apps__hashcode\":" ++ (quoted hash ++ (codes ",\"versions__delta\":" ++ (quoted (decimal version) ++ codes "}}")))

-- a document of many apps
abbrev pub many_joined : List Shown → List ℕ → ℕ → List ℕ
many_joined ps hash version = many_open ++ (in_apps None ps ++ many_close hash version)

-- the document of one app
unfoldable pub app_joined : List ℕ → List Shown → List ℕ
app_joined name ps = codes "{\"application\":" ++ (app_open ++ (in_commas false ps ++ (app_close name ++ codes "}")))

-- the document of one instance
unfoldable pub one_joined : List ℕ → List ℕ
one_joined text = codes "{\"instance\":" ++ (text ++ codes "}")

-- for private clauses: the text comes after what was there
pub record Pushes (old new text : List ℕ) : Type 0 where
  pub items : new ≡ old ++ text
