-- Only what code keeps: nothing here is to be believed.
use Rattle.std.specs.Prelude.{◌≡◌, ◌≢◌, ◌⊎◌, ℕ, ◌+◌, ◌-◌, ◌<◌, ◌==◌, true, false, List, [], ◌∷◌, ◌++◌, length, map, option_map, Option, Some, None, Result, MatchResult, Ok, Err, if◌then◌else◌, IsTrue, is_some, ⊤}
use Rattle.std.specs.List.{concat}
use Rattle.std.specs.Io.KnownBytes.{Appends, Consumes, prepend_known}
use Rattle.disco_values.specs.declared.fault.Fault.TheVariants.{ReadFailed, WriteFailed}
use Rattle.disco_values.specs.declared.fault.Fault as fault
use Rattle.disco_message.specs.declared.limits.Limits.{Limits}
use Rattle.disco_message.specs.RequestView as message
use Rattle.disco_message.specs.ReplyText.{ReplyView, reply_body, reply_text}
use Rattle.disco_http.specs.Causes.{Raises}
use Rattle.disco_http.specs.Coming.{is_of_asked, most}
use Rattle.disco_http.specs.Requests.{HasNone, Refused}
use Rattle.disco_http.specs.Writes.{AppendsProperFront}
use Rattle.disco_http.specs.declared.incoming.Incoming.{Incoming}
use Rattle.disco_http.specs.declared.incoming.Phase.TheVariants as phase
use Rattle.disco_http.specs.declared.outgoing.Outgoing.{Outgoing}
use Rattle.disco_http.specs.declared.session.End.{End}
use Rattle.disco_http.specs.declared.session.End.TheVariants.{Closed, Fault}
use Rattle.disco_http.specs.declared.source.Failed.{Failed}
use Rattle.disco_http.specs.declared.steps.Session.{Session}
use Rattle.disco_http.specs.declared.steps.State.{State}
use Rattle.disco_http.specs.declared.steps.State.TheVariants.{Waits, Looks, Writes, Over}
use Rattle.disco_http.specs.Served.{AnswersAll, Chain, Left, end_behind, refused}
use Rattle.disco_http.specs.Sessions.{Fronts, HasDone, IsGoing, is_limit, text_of}
use Rattle.disco_http.specs.Unread.{bytes_of}

-- the room has this text, or all of it but for the body
abbrev pub HasText : List ℕ → List ℕ → List ℕ → Type 0
HasText text room body = (rest : List ℕ) × (text ≡ room ++ rest) × ((rest ≡ []) ⊎ (rest ≡ body))

-- the room has a reply that goes out, of which nothing is written
abbrev pub IsPut : {D : Type 0} → (D → List ℕ) → List ℕ → Outgoing D → Type 0
IsPut content room o = (o.left ≡ length (text_of content o)) × HasText (text_of content o) room (reply_body o.reply.status (option_map content o.reply.document))

-- how a session ended, if it has
abbrev pub end_of : {D : Type 0} → State D → Option End
end_of (Over end) = Some end
end_of state = None

-- behind a reply a session is over, where the connection ends by it, and looks at what came
abbrev pub behind : {D : Type 0} → Option End → State D
behind None = Looks
behind (Some end) = Over end

-- what a session is up to behind a look, by how many requests were answered before it and are now
abbrev pub Pauses : {D : Type 0} → (D → List ℕ) → Limits → List ℕ → ℕ → ℕ → State D → Type 0
Pauses content limits room count now Waits = now ≡ count
Pauses content limits room count now Looks = ⊥
Pauses content limits room count now (Writes o) = IsPut content room o × (o.end ≢ Some (Fault ReadFailed)) × (o.end ≢ Some (Fault WriteFailed))
    × (o.end ≡ None → (count < limits.requests → now ≡ count + 1) × (now < limits.requests))
Pauses content limits room count now (Over end) = end ≡ Closed

-- and behind its reads, by how many reads had failed before them and have now
abbrev pub StopsReading : {D : Type 0} → (D → List ℕ) → Limits → List ℕ → ℕ → ℕ → ℕ → ℕ → State D → Type 0
StopsReading content limits room count now failed fails Waits = ⊥
StopsReading content limits room count now failed fails (Over (Fault ReadFailed)) = Raises failed fails
StopsReading content limits room count now failed fails state = (fails ≡ failed) × Pauses content limits room count now state

-- why what follows is refused: whatever comes behind it, or at the end of the input
abbrev pub IsRefused : {D : Type 0} → Session D → fault.Fault → List ℕ → Type 0
IsRefused session f rest = ((more : List ℕ) → Refused session.limits f (rest ++ more)) ⊎ (IsTrue session.has_ended × Refused session.limits f rest)

-- one request more is answered by the service, and the answer goes out
pub record AnswersHere {D S : Type 0} (content : D → List ℕ) (answers : S → message.RequestView → ReplyView → S → Type 0) (count : ℕ) (session : Session D) (old new : S)
    (given : List ℕ) (asks : List message.RequestView) (texts : List (List ℕ)) (out : List ℕ) : Type 0 where
  pub ask : message.RequestView
  pub reply : ReplyView
  pub told : answers old ask reply new
  pub counted : count < session.limits.requests → session.requests ≡ count + 1
  pub between : session.incoming.phase ≡ phase.Head
  pub goes : IsGoing content reply (end_behind ask.closes (is_limit session)) session.state
  pub done : HasDone content session given (asks ++ ask ∷ []) (texts ++ reply_text reply (is_some (end_behind ask.closes (is_limit session))) ∷ []) out

-- what follows is refused, and the refusal goes out
pub record RefusesHere {D : Type 0} (content : D → List ℕ) (session : Session D) (given : List ℕ) (asks : List message.RequestView) (texts : List (List ℕ))
    (out : List ℕ) : Type 0 where
  pub fault : fault.Fault
  pub rest : List ℕ
  pub fronts : Fronts session.limits given asks rest
  pub why : IsRefused session fault rest
  pub read : fault ≢ ReadFailed
  pub wrote : fault ≢ WriteFailed
  pub goes : IsGoing content (refused fault) (Some (Fault fault)) session.state
  pub done : HasDone content session given asks (texts ++ reply_text (refused fault) true ∷ []) out

-- it waits, or at the end of the input, between requests, it is over
abbrev pub Rests : {D : Type 0} → Session D → Type 0
Rests session = (session.state ≡ Waits) ⊎ ((session.state ≡ Over Closed) × IsTrue session.has_ended × (session.incoming.phase ≡ phase.Head))

-- where a session is that was asked for its next request
abbrev pub Stands : {D A : Type 0} → Session D → Result (Option A) fault.Fault → Type 0
Stands session (Ok (Some a)) = (session.state ≡ Looks) × (session.incoming.phase ≡ phase.Head)
Stands session (Ok None) = Rests session
Stands session (Err f) = (session.state ≡ Looks) × IsTrue (is_of_asked f)

-- the next request, for its caller to answer; none; or why what follows is refused
abbrev pub Finds : {D : Type 0} → (D → List ℕ) → Session D → List ℕ → List message.RequestView → List (List ℕ) → List ℕ
    → Result (Option message.RequestView) fault.Fault → Type 0
Finds content session given asks texts out (Ok (Some a)) = HasDone content session given (asks ++ a ∷ []) texts out
Finds content session given asks texts out (Ok None) = HasDone content session given asks texts out
Finds content session given asks texts out (Err f) = (out ++ [] ≡ concat texts)
    × ((rest : List ℕ) × Fronts session.limits given asks rest × IsRefused session f rest)

-- no whole request has come behind these
abbrev pub HasNoMore : {D : Type 0} → Session D → List ℕ → List message.RequestView → Type 0
HasNoMore session given asks = (rest : List ℕ) × Fronts session.limits given asks rest × HasNone session.limits rest

-- these bytes came, and a request was looked for; or a read failed
abbrev pub Reads : {D : Type 0} → (D → List ℕ) → Session D → Session D → List ℕ → Result (Result (Option message.RequestView) fault.Fault) Failed → Type 0
Reads content before session came result = (given : List ℕ) (asks : List message.RequestView) (texts : List (List ℕ)) (out : List ℕ)
    → HasDone content before given asks texts out
    → MatchResult result (Finds content session (given ++ came) asks texts out) (λ _. HasNoMore session (given ++ came) asks)

-- what a look at what came does, where so many requests were answered before
abbrev pub LooksAt : {D S : Type 0} → (D → List ℕ) → (S → message.RequestView → ReplyView → S → Type 0) → ℕ → Session D → S → S → List ℕ → List message.RequestView
    → List (List ℕ) → List ℕ → Type 0
LooksAt content answers count session old new given asks texts out = AnswersHere content answers count session old new given asks texts out
    ⊎ ((new ≡ old) × (session.requests ≡ count)
    × (RefusesHere content session given asks texts out ⊎ (Rests session × HasDone content session given asks texts out)))

-- these bytes came, and the session stands for them too
abbrev pub GoesOn : {D : Type 0} → (D → List ℕ) → Session D → Session D → List ℕ → Type 0
GoesOn content before session came = (given : List ℕ) (asks : List message.RequestView) (texts : List (List ℕ)) (out : List ℕ)
    → HasDone content before given asks texts out → HasDone content session (given ++ came) asks texts out

-- a read failed, and no whole request had come
abbrev pub BreaksOff : {D : Type 0} → Session D → List ℕ → List message.RequestView → Type 0
BreaksOff session given asks = (session.state ≡ Over (Fault ReadFailed)) × HasNoMore session given asks

-- these bytes came, and were looked at; or a read failed
abbrev pub Replies : {D S : Type 0} → (D → List ℕ) → (S → message.RequestView → ReplyView → S → Type 0) → Session D → Session D → S → S → List ℕ → Type 0
Replies content answers before session old new came = (given : List ℕ) (asks : List message.RequestView) (texts : List (List ℕ)) (out : List ℕ)
    → HasDone content before given asks texts out → LooksAt content answers before.requests session old new (given ++ came) asks texts out
    ⊎ ((new ≡ old) × (session.requests ≡ before.requests) × BreaksOff session (given ++ came) asks)

-- the reply that was to go out is out, or a front of it, where a write failed; the numbers count failures before and after
abbrev pub PutsOut : {D : Type 0} → (D → List ℕ) → State D → State D → Option (List ℕ) → Option (List ℕ) → ℕ → ℕ → Type 0
PutsOut content (Writes o) state before after failed fails = ((state ≡ behind o.end) × Appends before after (text_of content o) × (fails ≡ failed))
    ⊎ ((state ≡ Over (Fault WriteFailed)) × AppendsProperFront before after (text_of content o) × Raises failed fails)
PutsOut content old state before after failed fails = (state ≡ old) × (after ≡ before) × (fails ≡ failed)

-- so much may still come of a request: its bytes, and the end of the input
abbrev pub to_come : {D : Type 0} → Session D → ℕ
to_come session = most session.limits session.incoming.phase (bytes_of session.incoming.unread) + (if session.has_ended then 0 else 1)

-- what a connection leaves: what its session has, and what its source still gives
abbrev pub left_at : Incoming → Option (List ℕ) → Left
left_at incoming source = record { ahead = prepend_known (bytes_of incoming.unread) source; source = source }

-- none of these requests is the last, of at most so many
abbrev pub GoOn : ℕ → List message.RequestView → Type 0
GoOn most [] = ⊤
GoOn most (a ∷ asks) = (end_behind a.closes (most == 1) ≡ None) × GoOn (most - 1) asks

-- the texts of replies behind which others come
abbrev pub open_texts : List ReplyView → List (List ℕ)
open_texts replies = map (λ r. reply_text r false) replies

-- of this stream so much came, these requests of it were answered from the first state on, and the replies are out
pub record SoFar {D S : Type 0} (content : D → List ℕ) (answers : S → message.RequestView → ReplyView → S → Type 0) (stream : List ℕ) (first : S) (before : Option (List ℕ))
    (session : Session D) (left : Option (List ℕ)) (now : S) (after : Option (List ℕ)) : Type 0 where
  pub given : List ℕ
  pub asks : List message.RequestView
  pub replies : List ReplyView
  pub came : Consumes (Some stream) left given
  pub done : HasDone content session given asks (open_texts replies) (concat (open_texts replies))
  pub chain : Chain answers first asks replies now
  pub counted : length asks ≡ session.requests
  pub goes : GoOn session.limits.requests asks
  pub put : Appends before after (concat (open_texts replies))

-- the connection goes on, or has ended so
abbrev pub Exchanged : {D S : Type 0} → (D → List ℕ) → (S → message.RequestView → ReplyView → S → Type 0) → List ℕ → S → Option (List ℕ) → Session D → Option (List ℕ) → S
    → Option (List ℕ) → Option End → Type 0
Exchanged content answers stream first before session left now after None = SoFar content answers stream first before session left now after
Exchanged content answers stream first before session left now after (Some end) =
    AnswersAll answers session.limits stream (left_at session.incoming left) first now before after (record { requests = session.requests; end = end })
