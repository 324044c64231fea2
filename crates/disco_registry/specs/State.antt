-- What a registry is, and the histories that it stands for.
use Rattle.std.specs.Prelude.{◌≡◌, ℕ, List, Option, length}
use Rattle.std.specs.FinMap.{FinMap}
use Rattle.disco_values.specs.Key.{key_cmp}
use Rattle.disco_values.specs.declared.key.Key.{Key}
use Rattle.disco_history.specs.Change.{Entry}
use Rattle.disco_history.specs.Registry.{registry_of, mentions_of}

-- the records with what their last change did, the number of changes, the limits, and the key whose place is empty, if
-- one is
pub record RegistryState : Type 0 where
  pub held : FinMap key_cmp Entry
  pub version : ℕ
  pub versions : ℕ
  pub instances : ℕ
  pub next : Option Key

-- the same but for the empty place, which no answer shows
pub record IsSameRegistry (old new : RegistryState) : Type 0 where
  pub held : new.held ≡ old.held
  pub version : new.version ≡ old.version
  pub versions : new.versions ≡ old.versions
  pub instances : new.instances ≡ old.instances

-- it holds the mentions of the history's registry, and its version is the history's length
pub record StandsFor (s : RegistryState) (h : List Entry) : Type 0 where
  pub held : s.held ≡ mentions_of h (registry_of h)
  pub version : s.version ≡ length h
