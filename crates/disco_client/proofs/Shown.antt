-- What a copy shows of its records.
use Rattle.std.proofs.Common.{◌≡◌, ℕ, List, [], ◌∷◌, map, filter, refl, ap}
use Rattle.disco_instance.specs.Row.{Row, row}
use Rattle.disco_history.specs.Change.{Entry}
use Rattle.disco_history.specs.Held.{entry_of}
use Rattle.disco_history.specs.declared.held.Held.{Held}
use Rattle.disco_client.specs.Copies.{is_up_under}

abbrev pub rows : List Held → List Row
rows hs = map (λ h. row h.rec.value) hs

pub rows-entries : (hs : List Held) → rows hs ≡ map (λ (e : Entry). e.0) (map entry_of hs)
rows-entries [] = refl
rows-entries (h ∷ hs) = ap (λ r. row h.rec.value ∷ r) (rows-entries hs)

-- those that are up under the vip
abbrev pub up : List ℕ → List Held → List Row
up vip hs = filter (is_up_under vip) (rows hs)
