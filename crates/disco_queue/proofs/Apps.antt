-- A walk over the numbers app by app.
use Rattle.std.proofs.Common.{◌≡◌, ℕ, List, [], ◌∷◌, ◌++◌, Option, map, option_map, refl, sym, ap, ◌∙◌, append_assoc}
use Rattle.std.proofs.lemmas.List.Elements.{filter_map-append}
use Rattle.std.specs.FinMap.{entries}
use Rattle.std.specs.List.{cons_option}
use Rattle.disco_values.specs.declared.key.Key.{Key}
use Rattle.disco_history.specs.Change.{Entry}
use Rattle.disco_places.specs.KeyMaps.{ById, of_app, of_apps}
use Rattle.disco_queue.specs.Numbers.{numbered_ids, numbered_keys}

numbered_app : (f : ℕ → Option Entry) (a : List ℕ) (es : List (List ℕ × ℕ)) → numbered_keys f (map (λ e. (record { app = a; id = e.0 }, e.1)) es) ≡ numbered_ids f a es
numbered_app f a [] = refl
numbered_app f a (e ∷ es) = ap (cons_option (option_map (λ x. (record { app = a; id = e.0 }, x)) (f e.1))) (numbered_app f a es)

-- the numbers of one app more
pub numbered_more : (f : ℕ → Option Entry) (list new : List (Key × Entry)) (a : List ℕ × ById ℕ) (rest before : List (List ℕ × ById ℕ)) (all : List (Key × Entry)) → before ≡ a ∷ rest
    → list ++ numbered_keys f (of_apps before) ≡ all → new ≡ list ++ numbered_ids f a.0 (entries a.1) → new ++ numbered_keys f (of_apps rest) ≡ all
numbered_more f list new a rest before all is whole more =
    ap (λ l. l ++ numbered_keys f (of_apps rest)) more
    ∙ append_assoc list (numbered_ids f a.0 (entries a.1)) (numbered_keys f (of_apps rest))
    ∙ ap (λ l. list ++ l) (sym (filter_map-append (λ (e : Key × ℕ). option_map (λ x. (e.0, x)) (f e.1)) (of_app a) (of_apps rest) ∙ ap (λ l. l ++ numbered_keys f (of_apps rest)) (numbered_app f a.0 (entries a.1))))
    ∙ ap (λ b. list ++ numbered_keys f (of_apps b)) (sym is)
    ∙ whole
