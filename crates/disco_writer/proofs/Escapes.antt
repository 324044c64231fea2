-- Texts that need no escape.
use Rattle.std.proofs.Common.{◌≡◌, ℕ, ◌+◌, ◌%◌, ◌^◌, ◌<◌, Bool, true, false, List, [], ◌∷◌, ◌++◌, codes, decimal, if◌then◌else◌, refl, ap, ◌∙◌, arith}
use Rattle.std.proofs.lemmas.Fmt.{decimal_by_steps}
use Rattle.std.proofs.lemmas.List.Concat.{flat_map-append}
use Rattle.json.specs.Print.{escape, escape_byte}
use Rattle.json.proofs.Printed.Strings.{escape_byte_plain}
use Rattle.disco_values.specs.Action.{action_name}
use Rattle.disco_values.specs.Status.{status_name}
use Rattle.disco_values.specs.declared.action.Action.{Action}
use Rattle.disco_values.specs.declared.action.Action.TheVariants.{Added, Modified, Deleted}
use Rattle.disco_values.specs.declared.status.Status.{Status}
use Rattle.disco_values.specs.declared.status.Status.TheVariants.{Up, Down, Starting, OutOfService, Unknown}

pub status_plain : (s : Status) → escape (status_name s) ≡ status_name s
unfolding escape_byte
status_plain Up = refl
status_plain Down = refl
status_plain Starting = refl
status_plain OutOfService = refl
status_plain Unknown = refl

pub action_plain : (a : Action) → escape (action_name a) ≡ action_name a
unfolding escape_byte
action_plain Added = refl
action_plain Modified = refl
action_plain Deleted = refl

pub truth_plain : (b : Bool) → escape (if b then codes "true" else codes "false") ≡ (if b then codes "true" else codes "false")
unfolding escape_byte
truth_plain true = refl
truth_plain false = refl

digit_plain : (d : ℕ) → d < 10 → escape_byte (48 + d) ≡ (48 + d) ∷ []
digit_plain d below = escape_byte_plain (48 + d) (λ e. omega arith) (λ e. omega arith) (omega arith)

pub decimal_plain : (n : ℕ) → n < 2 ^ 64 → escape (decimal n) ≡ decimal n
decimal_plain = decimal_by_steps (λ m ds. escape ds ≡ ds) (λ m l. ap (λ (s : List ℕ). s ++ []) (digit_plain m l))
    (λ m ds l h. flat_map-append escape_byte ds ((48 + m % 10) ∷ []) ∙ (λ i. h i ++ (digit_plain (m % 10) (omega arith) i ++ [])))
