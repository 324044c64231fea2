-- Texts with their keys. Nothing here need be believed.
use Rattle.std.specs.Prelude.{◌≡◌, ℕ, List, Option, Some, All, option_map}
use Rattle.std.specs.Borrow.{Bor}
use Rattle.std.specs.List.{filter_map}
use Rattle.disco_values.specs.declared.key.Key.{Key}
use Rattle.disco_writer.specs.Kept.{StoredTexts, kept_text_at}

-- an app, an id and a text
abbrev pub KeyedText : Type 0
KeyedText = Bor (List ℕ) × Bor (List ℕ) × Bor (List ℕ)

abbrev pub keyed_text : KeyedText → Key × List ℕ
keyed_text e = (record { app = e.0.now; id = e.1.now }, e.2.now)

-- each text is the one that is kept under its key
abbrev pub AreTheirs : StoredTexts → List KeyedText → Type 0
AreTheirs v es = All (λ e. kept_text_at v (record { app = e.0.now; id = e.1.now }) ≡ Some e.2.now) es

-- the texts of an app's places that aren't empty, with their keys
abbrev pub keyed_ids : List ℕ → List (List ℕ × Option (List ℕ)) → List (Key × List ℕ)
keyed_ids app es = filter_map (λ e. option_map (λ t. (record { app = app; id = e.0 }, t)) e.1) es
