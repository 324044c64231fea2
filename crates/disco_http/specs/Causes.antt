-- What a failure does to the count of failures.
use Rattle.std.specs.Prelude.{◌≡◌, ℕ, ◌-◌, ◌^◌, ◌<◌, ◌⊎◌, Bool, true, false, Result, MatchResult, IsErrOf}
use Rattle.disco_values.specs.declared.fault.Fault.{Fault}
use Rattle.disco_values.specs.declared.fault.Fault.TheVariants.{OutOfMemory, HeadTooLarge, BodyTooLarge, BadRequest, UnsupportedCoding, ReadFailed}

-- the count rose, or is at its end
abbrev pub Raises : ℕ → ℕ → Type 0
Raises before now = (before < now) ⊎ (now ≡ 2 ^ 64 - 1)

-- an error raises the count, or finds it at its end; success leaves it
abbrev pub Counts : {A E : Type 0} → ℕ → ℕ → Result A E → Type 0
Counts before now r = MatchResult r (λ _. now ≡ before) (λ _. Raises before now)

-- this fault comes only where the count rose in the call, or is at its end
abbrev pub Cause : {A : Type 0} → Fault → ℕ → ℕ → Result A Fault → Type 0
Cause fault before now r = IsErrOf r fault → Raises before now

-- the faults with which a reply, or a body, or the reading of them, is refused
abbrev pub is_of_reply : Fault → Bool
is_of_reply OutOfMemory = true
is_of_reply HeadTooLarge = true
is_of_reply BodyTooLarge = true
is_of_reply BadRequest = true
is_of_reply ReadFailed = true
is_of_reply other = false

-- those of a request: it may have a coding that isn't supported too
abbrev pub is_of_request : Fault → Bool
is_of_request UnsupportedCoding = true
is_of_request other = is_of_reply other
