-- The changes of a queue, with and without their moments.
use Rattle.std.proofs.Common.{◌≡◌, ℕ, drop, List, [], ◌∷◌, map, refl, sym, ap, ◌∙◌}
use Rattle.std.proofs.lemmas.List.{drop-map}
use Rattle.disco_history.specs.Change.{Entry}
use Rattle.disco_history.specs.Mentions.{delta}
use Rattle.disco_queue.specs.Seen.{change_of, timed}
use Rattle.disco_queue.specs.Timed.{Timed, changes}
use Rattle.disco_queue.specs.declared.kept.Kept.{Kept}

pub seen_changes : (kept : List Kept) → changes (map timed kept) ≡ map change_of kept
seen_changes [] = refl
seen_changes (k ∷ kept) = ap (λ es. change_of k ∷ es) (seen_changes kept)

-- the delta from a base is that of the changes from the base on
pub delta_from : (h kept : List Timed) (base : ℕ) → kept ≡ drop base h → delta (changes kept) 0 ≡ delta (changes h) base
delta_from h kept base is = ap (λ (ts : List Timed). delta (changes ts) 0) is ∙ ap (λ (es : List Entry). delta es 0) (sym (drop-map (λ (t : Timed). t.0) base h))
