-- A walk app by app meets what the places show by key.
use Rattle.std.proofs.Common.{◌≡◌, ℕ, List, [], ◌∷◌, ◌++◌, Option, map, option_map, refl, sym, ap, ◌∙◌, append_assoc}
use Rattle.std.proofs.lemmas.List.Elements.{filter_map-append}
use Rattle.std.specs.FinMap.{entries}
use Rattle.std.specs.List.{cons_option}
use Rattle.disco_values.specs.declared.key.Key.{Key}
use Rattle.disco_history.specs.Places.{filled}
use Rattle.disco_places.specs.KeyMaps.{ById, of_app, of_apps}
use Rattle.disco_writer.specs.InOrder.{keyed_ids}
use Rattle.disco_writer.specs.Joined.{Shown, walked, walked_ids}

abbrev Text : Type 0
Text = List ℕ

abbrev App : Type 0
App = Text × ById (Option Text)

abbrev with_key : Text → Text × Option Text → Key × Option Text
with_key a e = (record { app = a; id = e.0 }, e.1)

walked_in : (a : Text) (es : List (Text × Option Text)) → walked (map (with_key a) es) ≡ walked_ids a es
walked_in a [] = refl
walked_in a (e ∷ es) = ap (cons_option (option_map (λ t. (a, t)) e.1)) (walked_in a es)

-- the texts of one app more
pub walk_more : (list new : List Shown) (a : App) (rest before : List App) (all : List Shown) → before ≡ a ∷ rest → list ++ walked (of_apps before) ≡ all → new ≡ list ++ walked_ids a.0 (entries a.1) → new ++ walked (of_apps rest) ≡ all
walk_more list new a rest before all is whole more =
    ap (λ l. l ++ walked (of_apps rest)) more
    ∙ append_assoc list (walked_ids a.0 (entries a.1)) (walked (of_apps rest))
    ∙ ap (λ l. list ++ l) (sym (filter_map-append (λ (e : Key × Option Text). option_map (λ t. (e.0.app, t)) e.1) (of_app a) (of_apps rest) ∙ ap (λ l. l ++ walked (of_apps rest)) (walked_in a.0 (entries a.1))))
    ∙ ap (λ b. list ++ walked (of_apps b)) (sym is)
    ∙ whole

keyed_in : (a : Text) (es : List (Text × Option Text)) → filled (λ t. t) (map (with_key a) es) ≡ keyed_ids a es
keyed_in a [] = refl
keyed_in a (e ∷ es) = ap (cons_option (option_map (λ t. (record { app = a; id = e.0 }, t)) e.1)) (keyed_in a es)

-- the same with their keys
pub keyed_more : (list new : List (Key × Text)) (a : App) (rest before : List App) (all : List (Key × Text)) → before ≡ a ∷ rest → list ++ filled (λ t. t) (of_apps before) ≡ all → new ≡ list ++ keyed_ids a.0 (entries a.1) → new ++ filled (λ t. t) (of_apps rest) ≡ all
keyed_more list new a rest before all is whole more =
    ap (λ l. l ++ filled (λ t. t) (of_apps rest)) more
    ∙ append_assoc list (keyed_ids a.0 (entries a.1)) (filled (λ t. t) (of_apps rest))
    ∙ ap (λ l. list ++ l) (sym (filter_map-append (λ (e : Key × Option Text). option_map (λ t. (e.0, t)) e.1) (of_app a) (of_apps rest) ∙ ap (λ l. l ++ filled (λ t. t) (of_apps rest)) (keyed_in a.0 (entries a.1))))
    ∙ ap (λ b. list ++ filled (λ t. t) (of_apps b)) (sym is)
    ∙ whole
