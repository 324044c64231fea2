-- Timeouts and deadlines of connections, in milliseconds.
use Rattle.std.specs.Prelude.{ℕ, ◌+◌, ◌-◌, ◌*◌, ◌/◌, ◌^◌, min}
use Rattle.disco_connections.specs.declared.timeouts.Phase.{Phase}
use Rattle.disco_connections.specs.declared.timeouts.Phase.TheVariants as phases
use Rattle.disco_connections.specs.declared.timeouts.Timeouts.{Timeouts}

-- the timeout of a phase; a reply has so many bytes when it begins
abbrev pub longest : Timeouts → Phase → ℕ → ℕ
longest timeouts phases.Between bytes = timeouts.between
longest timeouts phases.Head bytes = timeouts.head
longest timeouts phases.Body bytes = timeouts.body
longest timeouts phases.Reply bytes = min (timeouts.reply + timeouts.piece * (bytes / 65536)) (2 ^ 64 - 1)
longest timeouts phases.Ending bytes = timeouts.ending

-- the moment so many milliseconds after now, and the last one where there is none
abbrev pub moment_after : ℕ → ℕ → ℕ
moment_after now time = min (now + time) (2 ^ 64 - 1)
