-- Places with their names decoded.
use Rattle.std.specs.Prelude.{ℕ, List, Option, Some, option_and_then, option_map}
use Rattle.disco_operations.specs.Decoding.{decoded_text}
use Rattle.disco_calls.specs.declared.place.Place.{Place}
use Rattle.disco_calls.specs.declared.place.Place.TheVariants as place

abbrev pub two_texts : List ℕ → List ℕ → Option (List ℕ × List ℕ)
two_texts one other = option_and_then (λ a. option_map (λ b. (a, b)) (decoded_text other)) (decoded_text one)

-- a place with what its names spell, if each spells a text
abbrev pub decoded : Place (List ℕ) → Option (Place (List ℕ))
decoded place.Apps = Some place.Apps
decoded place.Delta = Some place.Delta
decoded (place.App app) = option_map (λ a. place.App a) (decoded_text app)
decoded (place.Instance app id) = option_map (λ t. place.Instance t.0 t.1) (two_texts app id)
decoded (place.Status app id) = option_map (λ t. place.Status t.0 t.1) (two_texts app id)
decoded (place.Metadata app id) = option_map (λ t. place.Metadata t.0 t.1) (two_texts app id)
decoded (place.Id id) = option_map (λ i. place.Id i) (decoded_text id)
decoded (place.Vip vip) = option_map (λ v. place.Vip v) (decoded_text vip)
decoded (place.Svip svip) = option_map (λ s. place.Svip s) (decoded_text svip)
