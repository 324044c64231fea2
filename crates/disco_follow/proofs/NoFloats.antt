-- The objects that are written have no float.
use Rattle.std.proofs.Common.{◌≡◌, ℕ, ◌∙◌, ◌||◌, false, List, [], ◌∷◌, map, refl, ap}
use Rattle.serde_json.specs.Data.{Data}
use Rattle.serde_json.specs.View.{items_of}
use Rattle.serde_json.specs.Written.{has_float, items_have_float}
use Rattle.disco_instance.specs.Row.{Row}
use Rattle.disco_follow.specs.Changes.{InstanceChange}
use Rattle.disco_follow.specs.Objects.{change_data, copy_data, reached_data, vip_data}
use Rattle.disco_follow.specs.declared.change.What.{What}
use Rattle.disco_follow.specs.declared.change.What.TheVariants.{Came, Changed, Went}

no_floats : {A : Type 0} (f : A → Data) → ((x : A) → has_float (f x) ≡ false) → (xs : List A) → items_have_float (items_of (map f xs)) ≡ false
no_floats f each [] = refl
no_floats f each (x ∷ xs) = ap (λ b. b || items_have_float (items_of (map f xs))) (each x) ∙ no_floats f each xs

in_change : (what : What) (r : Row) → has_float (change_data what r) ≡ false
in_change Came r = refl
in_change Changed r = refl
in_change Went r = refl

pub in_copy : (run version : ℕ) (changes : List InstanceChange) → has_float (copy_data run version changes) ≡ false
in_copy run version changes = ap (λ b. b || false) (no_floats (λ (c : InstanceChange). change_data c.0 c.1) (λ c. in_change c.0 c.1) changes)

pub in_vip : (vip : List ℕ) (up : List Row) → has_float (vip_data vip up) ≡ false
in_vip vip up = ap (λ b. b || false) (no_floats reached_data (λ r. refl) up)
