-- What is shown of a copy.
use Rattle.std.proofs.Common.{◌≡◌, List, [], ◌∷◌, map, Some, refl, ap, ◌∙◌}
use Rattle.std.specs.FinMap.{FinMap, values}
use Rattle.disco_values.specs.Key.{key_cmp}
use Rattle.disco_instance.specs.Row.{Row, row}
use Rattle.disco_history.specs.declared.held.Held.{Held}
use Rattle.disco_world.specs.Clients.{summaries}
use Rattle.disco_world.specs.Steps.{summary_of}

each : (hs : List Held) → map (λ h. summary_of (row h.rec.value)) hs ≡ map summary_of (map (λ h. row h.rec.value) hs)
each [] = refl
each (h ∷ hs) = ap (λ x. summary_of (row h.rec.value) ∷ x) (each hs)

pub shown_of : (hs : List Held) (s : FinMap key_cmp Row) → map (λ h. row h.rec.value) hs ≡ values s → map (λ h. summary_of (row h.rec.value)) hs ≡ summaries (Some s)
shown_of hs s e = each hs ∙ ap (map summary_of) e
