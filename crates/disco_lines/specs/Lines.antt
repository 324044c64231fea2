-- Lines, and the events that they mean (this project's own format).
use Rattle.std.specs.Prelude.{ℕ, List, [], ◌∷◌, ◌+◌, ◌<◌, ◌≡◌, length, map, Option, Some, None, ◌==◌, if◌then◌else◌, option_and_then, option_map, codes, is_none}
use Rattle.std.specs.List.{onto_first, position_or_len}
use Rattle.std.specs.Str.{bytes_eq}
use Rattle.disco_values.specs.declared.fault.Fault.{Fault}
use Rattle.disco_values.specs.declared.fault.Fault.TheVariants.{BadEvent}
use Rattle.disco_world.specs.declared.event.Event.{Event}
use Rattle.disco_world.specs.declared.event.Event.TheVariants as event
use Rattle.disco_world.specs.declared.event.Step.{Step}
use Rattle.disco_world.specs.declared.event.Step.TheVariants.{Register, Cancel, Renew, SetStatus, DropStatus, Metadata, Clean, Expire, Begin}
use Rattle.disco_world.specs.declared.event.Step.TheVariants as steps
use Rattle.disco_world.specs.declared.event.Step.TheVariants.{Copy, Publish, Show, ShowCertified, Restart}
use Rattle.disco_lines.specs.Loads.{load_of, look_for, target}
use Rattle.disco_operations.specs.Query.{entries_of_query}
use Rattle.disco_lines.specs.Words.{words, joined, only, only_text, only_moment, moment_of_word, client_of_word}
use Rattle.disco_operations.specs.Decoding.{decoded_text}

-- `NOW APP JSON`: the JSON is the rest of the line as it stands
abbrev pub registration : List (List ℕ) → Option Step
registration (now ∷ app ∷ json ∷ more) = option_and_then (λ n. option_map (λ a. Register n a (joined (json ∷ more))) (decoded_text app)) (moment_of_word now)
registration _ = None

-- a step behind which no word stands
abbrev pub alone : Step → List (List ℕ) → Option Step
alone step [] = Some step
alone step _ = None

-- `NOW APP ID`, and a status where one is given
abbrev pub override_removal : ℕ → List ℕ → List ℕ → List (List ℕ) → Option Step
override_removal now app id [] = Some (DropStatus now app id None)
override_removal now app id more = option_map (λ s. DropStatus now app id (Some s)) (only_text more)

-- what a keyword means behind which a moment, an app and an id stand, and then more words: a status, or a query, which is the rest of the line as it
-- stands
abbrev pub step_at : List ℕ → ℕ → List ℕ → List ℕ → List (List ℕ) → Option Step
step_at keyword now app id more =
    if bytes_eq keyword (codes "cancel") then alone (Cancel now app id) more
    else (if bytes_eq keyword (codes "renew") then alone (Renew now app id) more
    else (if bytes_eq keyword (codes "status") then option_map (λ s. SetStatus now app id s) (only_text more)
    else (if bytes_eq keyword (codes "unstatus") then override_removal now app id more
    else (if bytes_eq keyword (codes "metadata") then Some (Metadata now app id (entries_of_query (joined more))) else None))))

-- `NOW APP ID` behind a keyword, and more words
abbrev pub step_of_instance : List ℕ → List (List ℕ) → Option Step
step_of_instance keyword (now ∷ app ∷ id ∷ more) = option_and_then (λ n.
    option_and_then (λ a. option_and_then (λ i. step_at keyword n a i more) (decoded_text id)) (decoded_text app)) (moment_of_word now)
step_of_instance keyword _ = None

-- `CLIENT`
abbrev pub only_client : List (List ℕ) → Option ℕ
only_client more = option_and_then client_of_word (only more)

-- what a keyword and the words behind it mean, a moment, a client or a run among them, if it gives no client a document
abbrev pub step_named : List ℕ → List (List ℕ) → Option Step
step_named keyword more =
    if bytes_eq keyword (codes "register") then registration more
    else (if bytes_eq keyword (codes "clean") then option_map (λ n. Clean n) (only_moment more)
    else (if bytes_eq keyword (codes "minute") then alone steps.Minute more
    else (if bytes_eq keyword (codes "expire") then option_map (λ n. Expire n) (only_moment more)
    else (if bytes_eq keyword (codes "begin") then alone Begin more
    else (if bytes_eq keyword (codes "copy") then alone Copy more
    else (if bytes_eq keyword (codes "publish") then alone Publish more
    else (if bytes_eq keyword (codes "load") then option_map load_of (target more)
    else (if bytes_eq keyword (codes "look") then option_map look_for (target more)
    else (if bytes_eq keyword (codes "show") then option_map (λ c. Show c) (only_client more)
    else (if bytes_eq keyword (codes "certshow") then option_map (λ c. ShowCertified c) (only_client more)
    else (if bytes_eq keyword (codes "restart") then option_map (λ r. Restart r) (only_moment more) else step_of_instance keyword more)))))))))))

-- `CLIENT EVENT`
abbrev pub client_and_event : List (List ℕ) → Option (ℕ × ℕ)
client_and_event (client ∷ more) = option_and_then (λ c. option_map (λ e. (c, e)) (only_moment more)) (client_of_word client)
client_and_event [] = None

-- what a keyword and the words behind it mean
abbrev pub event_named : List ℕ → List (List ℕ) → Option Event
event_named keyword more =
    if bytes_eq keyword (codes "take") then option_map (λ given. event.Take given.0 given.1) (client_and_event more)
    else (if bytes_eq keyword (codes "certified") then option_map (λ given. event.Certify given.0 given.1) (client_and_event more)
    else option_map event.Step (step_named keyword more))

-- what the words of a line mean
abbrev pub event_of_words : List (List ℕ) → Option Event
event_of_words (keyword ∷ more) = option_and_then (λ k. event_named k more) (decoded_text keyword)
event_of_words [] = None

-- what a line means, if it means an event
abbrev pub event_of : List ℕ → Option Event
event_of line = event_of_words (words line)

-- the lines of an input: each ends at a line feed, which the last may lack
abbrev pub lines : List ℕ → List (List ℕ)
lines [] = []
lines (b ∷ bs) = if b == 10 then [] ∷ lines bs else onto_first b (lines bs)

-- what each line means
abbrev pub meanings : List ℕ → List (Option Event)
meanings input = map event_of (lines input)

-- the fault names the first line that means nothing, by its number from 1
pub record IsFirstBadLine (input : List ℕ) (fault : Fault) : Type 0 where
  pub number : fault ≡ BadEvent (position_or_len is_none (meanings input) + 1)
  pub is_line : position_or_len is_none (meanings input) < length (meanings input)
