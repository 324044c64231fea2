-- What a JSON tree means as a document (the JSON of Eureka's REST operations).
use Rattle.std.specs.Prelude.{ℕ, List, [], ◌∷◌, ◌++◌, codes, Option, Some, None, option_map, option_and_then}
use Rattle.std.specs.Option.{option_map_or}
use Rattle.std.specs.Result.{result_ok}
use Rattle.serde_json.specs.Data.{Data, null, array, object, Items, no_items, item}
use Rattle.serde_json.specs.Find.{get as member_at}
use Rattle.disco_instance.specs.Instance.{told_by, action_at}
use Rattle.disco_instance.specs.Members.{inner_at, text_at, as_whole}
use Rattle.disco_instance.specs.Mention.{Mention}
use Rattle.disco_wire.specs.Tree.{as_tree, object_at}
use Rattle.disco_wire.specs.declared.wire.Shape.{Shape}
use Rattle.disco_wire.specs.declared.wire.Shape.TheVariants as shapes

-- what a document means: its shape, its mentions in the order of the text, its hash code and its version where they are given
pub record Meaning : Type 0 where
  pub shape : Shape
  pub mentions : List Mention
  pub hash : Option (List ℕ)
  pub version : Option ℕ

abbrev pub list_of : Items → List Data
list_of no_items = []
list_of (item d ds) = d ∷ list_of ds

-- the items of a member: of an array, of one object, or of null, as of an absent one
abbrev pub listed_in : Data → Option (List Data)
listed_in null = Some []
listed_in (array ds) = Some (list_of ds)
listed_in (object ms) = Some (object ms ∷ [])
listed_in _ = None

-- the mentions of all items, in order; nothing where one item means nothing
abbrev pub all_told : (Data → Option (List Mention)) → List Data → Option (List Mention)
all_told f [] = Some []
all_told f (d ∷ ds) = option_and_then (λ ms. option_map (λ rest. ms ++ rest) (all_told f ds)) (f d)

-- the mention of an instance with an id and an app, which may be that of the enclosing application
unfoldable pub told_in : Option (List ℕ) → Data → Option (List Mention)
told_in app d = option_map (λ r. (r, action_at d) ∷ []) (result_ok (told_by app d))

-- the mentions of an application
abbrev pub told_app : Data → Option (List Mention)
told_app d = option_and_then (all_told (told_in (text_at (codes "name") d))) (listed_in (inner_at (codes "instance") d))

abbrev pub told_apps : Data → Option (List Mention)
told_apps d = option_and_then (all_told (λ a. option_and_then told_app (as_tree a))) (listed_in (inner_at (codes "application") d))

abbrev pub meant : Shape → Option (List ℕ) → Option ℕ → List Mention → Meaning
meant shape hash version ms = record { shape = shape; mentions = ms; hash = hash; version = version }

-- the meaning of a tree, by the first of the three members that is an object
unfoldable pub meaning_of : Data → Option Meaning
meaning_of d = option_map_or (λ a. option_map (meant shapes.Many (text_at (codes "apps__hashcode") a)
    (option_and_then as_whole (member_at (codes "versions__delta") a))) (told_apps a)) (object_at (codes "applications") d) (
    option_map_or (λ a. option_map (meant shapes.App None None) (told_app a)) (object_at (codes "application") d) (
    option_and_then (λ i. option_map (meant shapes.One None None) (told_in None i)) (object_at (codes "instance") d)))
