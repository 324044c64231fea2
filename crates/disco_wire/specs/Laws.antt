-- Laws of what is written, and of what a document means.
use Rattle.std.specs.Prelude.{◌≡◌, ℕ, ◌<◌, ◌^◌, List, [], ◌∷◌, Option, Some}
use Rattle.disco_instance.specs.Row.{IsWellFormed}
use Rattle.disco_values.specs.declared.form.Form.{Form}
use Rattle.disco_history.specs.Change.{Entry}
use Rattle.disco_history.specs.Forms.{mention_in}
use Rattle.disco_history.specs.Mentions.{mention_of}
use Rattle.disco_wire.specs.Meaning.{told_in, meaning_of, meant}
use Rattle.disco_wire.specs.declared.wire.Shape.TheVariants as shapes
use Rattle.disco_wire.specs.Rows.{AreWellFormed, mentions_in}
use Rattle.disco_wire.specs.Written.{instance_tree, document_tree}
use Rattle.serde_json.specs.Data.{Data}
use Rattle.disco_wire.specs.Wire.{wire_meaning}
use Rattle.disco_wire.specs.declared.wire.Wire.{Wire}

-- an instance's tree in a form means its row in that form and its action, whatever surrounds it
abbrev pub InstanceLaw : Type 0
InstanceLaw = (f : Form) (e : Entry) (app : Option (List ℕ)) → IsWellFormed e.0 → told_in app (instance_tree f e) ≡ Some (mention_in f (mention_of e) ∷ [])

-- a document's tree in a form means the instances in that form and in their order, the hash code and the version
abbrev pub DocumentLaw : Type 0
DocumentLaw = (f : Form) (es : List Entry) (hash : List ℕ) (version : ℕ) → AreWellFormed es → version < 2 ^ 64
    → meaning_of (document_tree f es hash version) ≡ Some (meant shapes.Many (Some hash) (Some version) (mentions_in f es))

-- a tree has at most one meaning
abbrev pub OneMeaning : Type 0
OneMeaning = (d : Data) (v w : Wire) → meaning_of d ≡ Some (wire_meaning v) → meaning_of d ≡ Some (wire_meaning w) → v ≡ w
