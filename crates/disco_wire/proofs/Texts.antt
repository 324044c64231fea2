-- Texts of documents with the same meaning.
use Rattle.std.proofs.Common.{◌≡◌, ℕ, List}
use Rattle.serde_json.specs.Written.{compact_text}
use Rattle.disco_values.specs.declared.form.Form.{Form}
use Rattle.disco_history.specs.Change.{Entry}
use Rattle.disco_wire.specs.Documents.{asked_by, hash_of, text_for, told}
use Rattle.disco_wire.specs.Written.{tree_of}
use Rattle.disco_values.specs.declared.query.Query.{Query}

pub same_text : (q : Query) (f : Form) (g h : List Entry) (base v : ℕ) → told q g base ≡ told q h base → hash_of q g ≡ hash_of q h → text_for q f g base v ≡ text_for q f h base v
same_text q f g h base v tells code = λ i. compact_text (tree_of f (asked_by q) (tells i) (code i) v)
