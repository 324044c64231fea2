-- Refreshes one after another, and what `follow` writes of them.
use Rattle.std.specs.Prelude.{◌≡◌, ◌==◌, ℕ, false, List, [], ◌∷◌, length, Option, Result, if◌then◌else◌, flat_map}
use Rattle.std.specs.FinMap.{empty}
use Rattle.std.specs.Io.KnownBytes.{Appends}
use Rattle.disco_values.specs.declared.fault.Fault.{Fault}
use Rattle.disco_values.specs.declared.doc_key.DocKey.{DocKey}
use Rattle.disco_reconcile.specs.Refreshes.{Refreshes}
use Rattle.disco_reconcile.specs.State.{ClientState, copy_of, known_in}
use Rattle.disco_reconcile.specs.declared.fetch.Fetched.{Fetched}
use Rattle.disco_reconcile.specs.declared.refreshed.Refreshed.{Refreshed}
use Rattle.disco_follow.specs.Telling.{IsTold, Told}
use Rattle.disco_follow.specs.declared.wanted.Wanted.{Wanted}

-- a refresh takes the client from the first state to the second, and these lines are written behind it
pub record IsTurn {S : Type 0} (gives : S → DocKey → Result Fetched Fault → S → Type 0) (failed : S → ℕ) (wanted : Wanted)
    (old : ClientState S) (told : Told) (text : List ℕ) (new : ClientState S) (now : Told) : Type 0 where
  pub result : Result Refreshed Fault
  pub refreshed : Refreshes gives failed old result new
  pub tells : IsTold wanted told result (known_in new.kept) (copy_of new.kept) text now

-- these lines are written of refreshes one after another
abbrev pub AreTurns : {S : Type 0} → (S → DocKey → Result Fetched Fault → S → Type 0) → (S → ℕ) → Wanted → ClientState S → Told → List (List ℕ)
    → ClientState S → Told → Type 0
AreTurns gives failed wanted old told [] new now = (new ≡ old) × (now ≡ told)
AreTurns {S = S} gives failed wanted old told (text ∷ texts) new now =
    (state : ClientState S) × (between : Told) × IsTurn gives failed wanted old told text state between × AreTurns gives failed wanted state between texts new now

-- 0 is no end, which is more than come in the life of a host
abbrev pub turns_of : ℕ → ℕ
turns_of times = if times == 0 then 18446744073709551615 else times

-- nothing was written
abbrev pub nothing_told : Told
nothing_told = record { begun = false; copy = empty; up = []; fault = 0 }

-- so many refreshes take the client from the first state to the second, and the lines on them are written
abbrev pub Follows : {S : Type 0} → (S → DocKey → Result Fetched Fault → S → Type 0) → (S → ℕ) → Wanted → ℕ → ClientState S → ClientState S
    → Option (List ℕ) → Option (List ℕ) → Type 0
Follows gives failed wanted turns old new written-before written =
    (texts : List (List ℕ)) × (now : Told) × (length texts ≡ turns) × AreTurns gives failed wanted old nothing_told texts new now
    × Appends written-before written (flat_map (λ text. text) texts)
