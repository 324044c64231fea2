-- What a connection waits for. Nothing here is to be believed: no public contract rests on it.
use Rattle.std.specs.Prelude.{◌≡◌, Bool, true, false}
use Rattle.disco_http.specs.Sessions.{next_of}
use Rattle.disco_http.specs.declared.source.Stage.{Stage}
use Rattle.disco_http.specs.declared.source.Stage.TheVariants as stages
use Rattle.disco_http.specs.declared.steps.Next.{Next}
use Rattle.disco_http.specs.declared.steps.Next.TheVariants as next
use Rattle.disco_connections.specs.declared.connection.Connection.{Connection}
use Rattle.disco_connections.specs.declared.timeouts.Phase.{Phase}
use Rattle.disco_connections.specs.declared.timeouts.Phase.TheVariants as phases

-- what is waited for of a next request of which this came
abbrev pub phase_at : Stage → Phase
phase_at stages.Between = phases.Between
phase_at stages.Head = phases.Head
phase_at stages.Body = phases.Body

-- its end where it is ending, room where it has a reply to write, and else what comes of its next request
abbrev pub awaited : Bool → Next → Stage → Phase
awaited true does came = phases.Ending
awaited false next.Write came = phases.Reply
awaited false does came = phase_at came

-- a connection waits for this, by what it does next and by what came of its next request
abbrev pub IsAwaited : {D K : Type 0} → Connection D K → Phase → Type 0
IsAwaited connection phase = (came : Stage) × (phase ≡ awaited connection.is_ending (next_of connection.session.state) came)
