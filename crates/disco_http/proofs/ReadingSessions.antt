-- A session that is read for.
use Rattle.std.proofs.Common.{◌≡◌, ℕ, List, ◌++◌, append_assoc, subst}
use Rattle.disco_message.specs.declared.limits.Limits.{Limits}
use Rattle.disco_message.specs.RequestView as message
use Rattle.disco_http.specs.declared.steps.Session.{Session}
use Rattle.disco_http.specs.declared.steps.State.{State}
use Rattle.disco_http.specs.declared.steps.State.TheVariants.{Waits}
use Rattle.disco_http.specs.Exchanges.{GoesOn, HasNoMore, StopsReading}
use Rattle.disco_http.specs.Sessions.{HasDone, Holds}

-- it doesn't wait where it reads no more
pub stopped : {D : Type 0} (content : D → List ℕ) (limits : Limits) (room : List ℕ) (count now failed fails : ℕ) (state : State D) → StopsReading content limits room count now failed fails state → state ≡ Waits → ⊥
stopped content limits room count now failed fails state h waits = subst (StopsReading content limits room count now failed fails) waits h

-- some bytes came, and no request was found
module _ {D : Type 0} (content : D → List ℕ) (before it mid : Session D) (front : List ℕ) (on : GoesOn content before it front)
    (none : (given : List ℕ) (asks : List message.RequestView) (texts : List (List ℕ)) (out : List ℕ) → HasDone content it given asks texts out → HasDone content mid given asks texts out) where
  -- more bytes came
  pub reads_on : (new : Session D) (came : List ℕ) → GoesOn content mid new came → GoesOn content before new (front ++ came)
  reads_on new came read given asks texts out h =
      subst (λ xs. HasDone content new xs asks texts out) (append_assoc given front came) (read (given ++ front) asks texts out (none (given ++ front) asks texts out (on given asks texts out h)))

  -- a read failed
  pub breaks_off : (new : Session D) → new.limits ≡ mid.limits → mid.state ≡ Waits → (given : List ℕ) (asks : List message.RequestView) (texts : List (List ℕ)) (out : List ℕ) → HasDone content before given asks texts out → HasNoMore new (given ++ front) asks
  breaks_off new limits waits given asks texts out h =
      let w = none (given ++ front) asks texts out (on given asks texts out h) in
      let held = subst (λ s. Holds content mid.limits mid.incoming s w.rest) waits w.holds in
      rw limits (w.rest, w.fronts, held.1)
