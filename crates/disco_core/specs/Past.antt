-- What has happened to a core. Moments and durations are in milliseconds.
use Rattle.std.specs.Prelude.{ℕ, Bool, ◌+◌, ◌*◌, List, [], ◌∷◌, ◌++◌, length, Option, option_map, Result}
use Rattle.std.specs.Result.{result_ok}
use Rattle.std.specs.FinMap.{FinMap, empty, get, insert, keys, len, remove}
use Rattle.std.specs.Option.{option_map_or}
use Rattle.disco_values.specs.Key.{key_cmp}
use Rattle.disco_values.specs.declared.fault.Fault.{Fault}
use Rattle.disco_values.specs.declared.key.Key.{Key}
use Rattle.disco_history.specs.Change.{Entry}
use Rattle.disco_history.specs.Registry.{registry_of}
use Rattle.disco_lease.specs.Due.{is_overdue, taken}
use Rattle.disco_lease.specs.Leases.{counted}
use Rattle.disco_lease.specs.declared.minute.Minute.{Minute}
use Rattle.disco_queue.specs.Base.{base_after_change, base_after_cleaning}
use Rattle.disco_queue.specs.Timed.{Timed, changes}
use Rattle.disco_registry.specs.Op.{OpView, register, cancel, renew, set_status, drop_status, add_metadata}

-- the number of the run, the accepted changes with their moments, how many leading ones the queue dropped, the mark of each lease, how many renewals
-- were accepted since the last closing of a minute, and what that closing kept
pub record Past : Type 0 where
  pub run : ℕ
  pub timed : List Timed
  pub base : ℕ
  pub marks : FinMap key_cmp ℕ
  pub renewals : ℕ
  pub closed : Minute

-- nothing has happened so far in a run
abbrev pub nothing : ℕ → Past
nothing run = record { run = run; timed = []; base = 0; marks = empty; renewals = 0; closed = record { renewals = 0; instances = 0 } }

-- the changes without their moments
abbrev pub history : Past → List Entry
history p = changes p.timed

-- a change more, if there is one, in a queue of at most so many
abbrev pub with_change : ℕ → Past → ℕ → Option Entry → Past
with_change most p now change =
    option_map_or (λ c. record p { timed = p.timed ++ (c, now) ∷ []; base = base_after_change most p.base (length p.timed + 1) }) change p

-- how long the lease of the held record of a key lasts
abbrev pub duration_at : Past → Key → ℕ
duration_at p k = option_map_or (λ r. r.lease.duration_secs * 1000) (get (registry_of (history p)) k) 0

-- the marks after an accepted operation: of what registers it is now, of what is kept going one duration from now, and what is cancelled has none
abbrev pub marks_after : Past → ℕ → OpView → FinMap key_cmp ℕ
marks_after p now (register posted) = insert p.marks posted.key now
marks_after p now (add_metadata k entries) = insert p.marks k now
marks_after p now (renew k) = insert p.marks k (now + duration_at p k)
marks_after p now (set_status k text) = insert p.marks k (now + duration_at p k)
marks_after p now (drop_status k text) = insert p.marks k (now + duration_at p k)
marks_after p now (cancel k) = remove p.marks k

-- a renewal counts one, and nothing else does
abbrev pub renewals_after : ℕ → OpView → ℕ
renewals_after n (renew k) = counted n
renewals_after n _ = n

-- what has happened after an accepted operation at a moment, which made a change or none
abbrev pub with_done : ℕ → Past → ℕ → OpView → Option Entry → Past
with_done most p now ask c = record (with_change most p now c) { marks = marks_after p now ask; renewals = renewals_after p.renewals ask }

-- what has happened after an operation that was accepted, with its change if it made one, or that was refused
abbrev pub after_ask : ℕ → Past → ℕ → OpView → Result (Option Entry) Fault → Past
after_ask most p now ask result = option_map_or (with_done most p now ask) (result_ok result) p

-- the queue is cleaned of changes older than the retention
abbrev pub cleaned : ℕ → Past → ℕ → Past
cleaned retention p now = record p { base = base_after_cleaning now retention p.base p.timed }

-- a minute is closed: the renewals since the last closing are kept and counted anew, and how many instances are held
abbrev pub minute_closed : Past → Past
minute_closed p = record p { renewals = 0; closed = record { renewals = p.renewals; instances = len (registry_of (history p)) } }

-- when the lease of a key runs out, if it has one: its duration after its mark
abbrev pub due_in : Past → Key → Option ℕ
due_in p k = option_map (λ mark. mark + duration_at p k) (get p.marks k)

-- whether the lease of a key has run out by a moment
abbrev pub has_run_out : Past → ℕ → Key → Bool
has_run_out p now k = is_overdue now (due_in p k)

-- the keys that one run takes at a moment, in their order
abbrev pub taken_in : Past → ℕ → List Key
taken_in p now = taken p.closed (due_in p) (keys p.marks) (len (registry_of (history p))) now
