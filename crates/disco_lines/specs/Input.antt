-- All that a reader gives, read as lines.
use Rattle.std.specs.Prelude.{◌≡◌, ℕ, List, map, Option, Some, IfSome}
use Rattle.disco_values.specs.declared.fault.Fault.{Fault}
use Rattle.disco_world.specs.declared.event.Event.{Event}
use Rattle.disco_lines.specs.Lines.{IsFirstBadLine, meanings}

-- the input is all that the reader had, where that is known
abbrev pub IsAllOf : Option (List ℕ) → List ℕ → Type 0
IsAllOf known input = IfSome known (λ bytes. input ≡ bytes)

-- the events are those of the whole input
abbrev pub AreRead : Option (List ℕ) → List Event → Type 0
AreRead known events = (input : List ℕ) × IsAllOf known input × (map Some events ≡ meanings input)

-- the fault names the first line of the whole input that means nothing
abbrev pub NamesBadLine : Option (List ℕ) → Fault → Type 0
NamesBadLine known fault = (input : List ℕ) × IsAllOf known input × IsFirstBadLine input fault
