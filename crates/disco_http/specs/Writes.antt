-- What is written where all of a text is to be written.
use Rattle.std.specs.Prelude.{◌≡◌, ◌≢◌, ℕ, List, [], ◌++◌, Option, Result, MatchResult}
use Rattle.std.specs.Io.KnownBytes.{Appends}
use Rattle.disco_http.specs.Causes.{Raises}

-- known bytes grow by a front of these, and not by all of them
abbrev pub AppendsProperFront : Option (List ℕ) → Option (List ℕ) → List ℕ → Type 0
AppendsProperFront old new bytes = (done : List ℕ) × (rest : List ℕ) × (bytes ≡ done ++ rest) × (rest ≢ []) × Appends old new done

-- all of these bytes are written, or a front of them, where a write failed; the numbers count failures before and after
abbrev pub WritesBytes : {A E : Type 0} → Option (List ℕ) → Option (List ℕ) → ℕ → ℕ → Result A E → List ℕ → Type 0
WritesBytes old new before now r bytes = MatchResult r (λ _. Appends old new bytes × (now ≡ before)) (λ _. AppendsProperFront old new bytes × Raises before now)
