-- The timed tasks. Nothing here is to be believed: no public contract rests on it.
use Rattle.std.specs.Prelude.{◌≡◌, ℕ, ◌+◌, min, Bool, true, false, List, [], ◌∷◌, ◌++◌, drop, take, Option, Some, None, Result, Ok, Err}
use Rattle.disco_values.specs.declared.fault.Fault.{Fault}
use Rattle.disco_values.specs.declared.fault.Fault.TheVariants.{OutOfMemory}
use Rattle.disco_lease.specs.declared.minute.Minute.{Minute}
use Rattle.disco_values.specs.declared.key.Key.{Key}
use Rattle.disco_core.specs.Past.{Past, taken_in}
use Rattle.disco_hub.specs.Expiry.{Expires, cancelled, overdue_among}
use Rattle.disco_hub.specs.State.{HubStandsFor, rules_of}
use Rattle.disco_hub.specs.Transitions.{Cleans, Closes, KeepsRest, MovesRounds}
use Rattle.disco_press.specs.Desks.{DeskState, NotesCancels, NotesNothing}
use Rattle.disco_server.specs.Publishing.{TakesStep}
use Rattle.disco_server.specs.declared.tasks.Task.{Task}
use Rattle.disco_server.specs.declared.tasks.Task.TheVariants.{Publish, Clean, CloseMinute, Expire}
use Rattle.disco_server.specs.declared.publisher.Step.{Step}
use Rattle.disco_server.specs.declared.publisher.Step.TheVariants as step

-- the period of a task, in milliseconds
abbrev pub period_of : Task → ℕ
period_of Publish = 30000
period_of Clean = 30000
period_of CloseMinute = 60000
period_of Expire = 60000

-- the moment of a cleaning's next step: a second behind that of the last, up to now
abbrev pub next_step : ℕ → ℕ → ℕ
next_step last now = min (last + 1000) now

-- whether another step follows at once: up to the end of the round
abbrev pub goes_on : Step → Bool
goes_on step.Published = false
goes_on other = true

-- a publisher takes one step, or finds no memory and leaves the desk as it was
abbrev pub PublishesOn : DeskState → Result Bool Fault → DeskState → Type 0
PublishesOn old (Ok more) new = (s : Step) × TakesStep old s new × MovesRounds old.hub new.hub × (more ≡ goes_on s)
PublishesOn old (Err e) new = (e ≡ OutOfMemory) × (new ≡ old)

-- recent changes that are older than the retention are forgotten
abbrev pub ForgetsOld : ℕ → DeskState → DeskState → Type 0
ForgetsOld now old new = (from : ℕ) × Cleans old.hub new.hub now from × NotesNothing old new

-- a minute of renewals is closed
abbrev pub ClosesMinute : DeskState → DeskState → Type 0
ClosesMinute old new = (minute : Minute) × Closes old.hub new.hub minute × NotesNothing old new

-- how many keys one step of an expiry looks at
abbrev pub most_held : ℕ
most_held = 100

-- an expiry begins with the keys that are due
abbrev pub TakesUp : ℕ → DeskState → Option (List Key) → Type 0
TakesUp now d run = (p : Past) → HubStandsFor d.hub p → run ≡ Some (taken_in p now)

-- what is left of an expiry whose first keys were looked at: those behind them, and where it stopped those of the first whose leases had run out
abbrev pub left_after : List Key → List Key → Option Fault → List Key
left_after those behind None = behind
left_after those behind (Some e) = those ++ behind

-- of the first keys of an expiry those are cancelled whose leases have run out by now, all of them, or up to a refusal
pub record LetsRunOut (now : ℕ) (old new : DeskState) (before after : List Key) (stopped : Option Fault) : Type 0 where
  pub gone : ℕ
  pub history : Expires old.hub new.hub now (λ p. overdue_among p now (take most_held before)) gone stopped
  pub noted : NotesCancels old new (λ p. cancelled (rules_of old.hub) p now (overdue_among p now (take most_held before)) gone)
  pub left : (p : Past) → HubStandsFor old.hub p → after ≡ left_after (overdue_among p now (take most_held before)) (drop most_held before) stopped
  pub rest : KeepsRest old.hub new.hub

-- whether a key is left
abbrev pub is_left : List Key → Bool
is_left [] = false
is_left (k ∷ ks) = true

-- one step of an expiry: it begins where none is open, and else goes on, until none of its keys is left; refused for want of memory before it begins
abbrev pub RunsOn : ℕ → DeskState → Option (List Key) → Result Bool Fault → DeskState → Option (List Key) → Type 0
RunsOn now old None (Ok more) new run = TakesUp now old run × (new ≡ old) × (more ≡ true)
RunsOn now old None (Err e) new run = (e ≡ OutOfMemory) × (new ≡ old) × (run ≡ None)
RunsOn now old (Some before) (Ok more) new run = (after : List Key) × LetsRunOut now old new before after None × (run ≡ Some after) × (more ≡ is_left after)
RunsOn now old (Some before) (Err e) new run = (after : List Key) × LetsRunOut now old new before after (Some e) × (run ≡ Some after)

-- one step of a task at a moment, with the open expiry before and after it; whether another step follows at once, or why it was refused
abbrev pub TakesTaskStep : Task → ℕ → DeskState → Option (List Key) → Result Bool Fault → DeskState → Option (List Key) → Type 0
TakesTaskStep Publish now old run r new after = PublishesOn old r new × (after ≡ run)
TakesTaskStep Clean now old run (Ok more) new after = ForgetsOld now old new × (more ≡ false) × (after ≡ run)
TakesTaskStep Clean now old run (Err e) new after = ⊥
TakesTaskStep CloseMinute now old run (Ok more) new after = ClosesMinute old new × (more ≡ false) × (after ≡ run)
TakesTaskStep CloseMinute now old run (Err e) new after = ⊥
TakesTaskStep Expire now old run r new after = RunsOn now old run r new after
