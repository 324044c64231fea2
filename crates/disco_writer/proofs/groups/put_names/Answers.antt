use Rattle.std.proofs.Common.{◌≡◌, ℕ, List, [], ◌∷◌, ◌++◌, ◌∙◌, codes, Option, Some, None, append_assoc, append-nil}
use Rattle.json.specs.Print.{escape_byte, print_from, quoted}
use Rattle.serde_json.specs.Data.{string}
use Rattle.disco_values.specs.declared.action.Action.{Action}
use Rattle.disco_writer.specs.Fields.{done_fields}
use Rattle.disco_writer.specs.Groups.{done_text, group_text}
use Rattle.disco_writer.proofs.AppendedTexts.{before, renamed}
use Rattle.disco_writer.proofs.groups.put_names.Goals as goal

names : (o : Option Action) (app : List ℕ) → done_text o ++ quoted app ≡ 123 ∷ group_text (done_fields o ++ (codes "app", string app) ∷ [])
unfolding group_text print_from escape_byte
names None app = simp append-nil
names (Some a) app = simp (append_assoc, append-nil)

pub returns : goal.returns
returns c =
    renamed c.push_quoted.result _ _ ((λ i. done_text c.args.action ++ quoted (c.as_str.ensures i)) ∙ names c.args.action c.args.rec.now.key.app)
    (before c.push_quoted.result _ _ c.in_ok-put_done.ensures c.push_quoted.ensures)
