-- What reading a text says of its tree.
use Rattle.std.proofs.Common.{◌≡◌, ℕ, Bool, true, false, cond, List, Some, None, Ok, Err, refl, ap, ◌∙◌}
use Rattle.std.specs.Str.{IsUtf8, is_utf8}
use Rattle.std.proofs.lemmas.Str.{IsUtf8-from_is_utf8, is_utf8-from_IsUtf8}
use Rattle.serde_json.specs.Data.{Data}
use Rattle.std.specs.Option.{ok_or}
use Rattle.serde_json.specs.Read.{read}
use Rattle.disco_values.specs.declared.fault.Fault.TheVariants.{BadJson}
use Rattle.disco_wire.specs.Tree.{json_of}

pub tree_read : (bytes : List ℕ) (d : Data) → IsUtf8 bytes → read bytes ≡ Some d → json_of bytes ≡ Ok d
unfolding json_of
tree_read bytes d utf8 is = ap (λ b. ok_or (cond b (read bytes) None) BadJson) (is_utf8-from_IsUtf8 bytes utf8) ∙ ap (λ o. ok_or o BadJson) is

no_tree : (bytes : List ℕ) (b : Bool) → is_utf8 bytes ≡ b → (IsUtf8 bytes → read bytes ≡ None) → ok_or (cond b (read bytes) None) BadJson ≡ Err BadJson
no_tree bytes true e none = ap (λ o. ok_or o BadJson) (none (IsUtf8-from_is_utf8 bytes e))
no_tree bytes false e none = refl

pub tree_refused : (bytes : List ℕ) → (IsUtf8 bytes → read bytes ≡ None) → json_of bytes ≡ Err BadJson
unfolding json_of
tree_refused bytes none = no_tree bytes (is_utf8 bytes) refl none
