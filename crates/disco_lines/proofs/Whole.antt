-- The events of an input.
use Rattle.std.proofs.Common.{◌≡◌, ℕ, List, [], ◌∷◌, length, map, Option, Some, refl, ap, ◌∙◌, arith}
use Rattle.std.specs.List.{position_or_len}
use Rattle.std.specs.Option.{is_none}
use Rattle.disco_values.specs.declared.fault.Fault.{Fault}
use Rattle.disco_world.specs.declared.event.Event.{Event}
use Rattle.disco_lines.specs.Input.{AreRead}
use Rattle.disco_lines.specs.Lines.{IsFirstBadLine, meanings}

-- where all lines mean events, none is bad
no_bad : (events : List Event) → position_or_len is_none (map Some events) ≡ length (map Some events)
no_bad [] = refl
no_bad (x ∷ xs) = omega (arith, no_bad xs)

pub not_bad : (events : List Event) (input : List ℕ) (fault : Fault) → map Some events ≡ meanings input → IsFirstBadLine input fault → ⊥
not_bad events input fault e bad = let within = bad.is_line in omega (arith, rw e at (no_bad events), within)

pub none_bad : (known : Option (List ℕ)) (events : List Event) → AreRead known events → (input : List ℕ) (bad : Fault) → known ≡ Some input → IsFirstBadLine input bad → ⊥
none_bad known events read input bad e line =
    let same : read.0 ≡ input = rw e at read.1 in
    not_bad events input bad (read.2 ∙ ap meanings same) line
