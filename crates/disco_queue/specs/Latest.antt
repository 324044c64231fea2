-- Keys with their last changes.
use Rattle.std.specs.Prelude.{◌≡◌, ℕ, List, All}
use Rattle.std.specs.Borrow.{Bor}
use Rattle.disco_values.specs.declared.key.Key.{Key}
use Rattle.disco_history.specs.Change.{change_view, key_of}
use Rattle.disco_history.specs.declared.change.Change.{Change}

-- a key's app, its id and a change
abbrev pub Latest : Type 0
Latest = Bor (List ℕ) × Bor (List ℕ) × Bor Change

abbrev pub latest_key : Latest → Key
latest_key p = record { app = p.0.now; id = p.1.now }

-- each change is one of the key beside it
abbrev pub AreOfKeys : List Latest → Type 0
AreOfKeys ps = All (λ p. latest_key p ≡ key_of (change_view p.2.now)) ps
