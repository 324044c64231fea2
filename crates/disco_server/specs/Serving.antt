-- What a service over a hub answers, and one over a desk.
use Rattle.std.specs.Prelude.{◌≡◌, ℕ}
use mathlib.Core.List.{IsPrefix}
use Rattle.disco_hub.specs.State.{rules_of}
use Rattle.disco_message.specs.RequestView.{RequestView}
use Rattle.disco_message.specs.ReplyText.{ReplyView}
use Rattle.disco_calls.specs.Calls.{call}
use Rattle.disco_server.specs.Desks.{IsLookOrCall}
use Rattle.disco_server.specs.Replies.{IsAnswered}
use Rattle.disco_server.specs.declared.desk_service.DeskService.{DeskService}
use Rattle.disco_server.specs.declared.service.HubService.{HubService}

-- the reply to a request at the moment that the clock says, by the hub's rules, which stay
abbrev pub Serves : {C : Type 0} → (C → ℕ → C → Type 0) → HubService C → RequestView → ReplyView → HubService C → Type 0
Serves ticks old asked y new =
    (now : ℕ) × ticks old.clock now new.clock × IsAnswered old.hub new.hub (call asked) now y × (rules_of new.hub ≡ rules_of old.hub)

-- the reply to a request at the moment that the clock says, by a look of the seat or by the desk; what the seat knew is a beginning of what it knows then
abbrev pub ServesDesk : {J R C G : Type 0} → (C → ℕ → C → Type 0) → DeskService J R C G → RequestView → ReplyView → DeskService J R C G → Type 0
ServesDesk ticks old asked y new =
    (now : ℕ) × ticks old.clock now new.clock × IsLookOrCall old.seat new.seat (call asked) now y × IsPrefix old.seat.known new.seat.known
