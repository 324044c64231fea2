-- A request that a session has read of a stream.
use Rattle.std.proofs.Common.{◌≡◌, ℕ, List, [], ◌∷◌, ◌++◌, Option, Some, None, Result, Ok, Err, IfErr, IfNone, IfOk, IfSome, IsTrue, ap, inl, inr, subst, sym, ◌∙◌}
use Rattle.std.specs.Io.KnownBytes.{Consumes, IsAtEnd, prepend_known}
use Rattle.std.proofs.KnownBytes.{Consumes-trans}
use Rattle.disco_values.specs.declared.fault.Fault as fault
use Rattle.disco_message.specs.RequestView as message
use Rattle.disco_http.specs.Coming.{PhaseAt}
use Rattle.disco_http.specs.Exchanges.{Reads, Stands}
use Rattle.disco_http.specs.Requests.{HasNone, Refused, TakesRequest}
use Rattle.disco_http.specs.Sessions.{HasDone, Holds}
use Rattle.disco_http.specs.Streams.{Came}
use Rattle.disco_http.specs.Unread.{bytes_of}
use Rattle.disco_http.specs.declared.source.Failed.{Failed}
use Rattle.disco_http.specs.declared.steps.Session.{Session}
use Rattle.disco_http.specs.declared.steps.State.TheVariants.{Waits}
use Rattle.disco_http.proofs.CameBefore.{came_read}
use Rattle.disco_http.proofs.Known.{ahead-all}
use Rattle.disco_http.proofs.ServedSessions.{at_end_is, given_on, none_more, refused_on}
use Rattle.disco_http.proofs.SessionSteps.{looking, takes_more}

-- what holds of what came, whatever follows, holds of the stream
of_given : (first left : Option (List ℕ)) (given : List ℕ) (P : List ℕ → Type 0) → Consumes first left given → ((more : List ℕ) → left ≡ Some more → P (given ++ more)) → IfSome first P
of_given None left given P read all = tt
of_given (Some stream) left given P read all =
    let on = given_on stream given left read in
    subst P (sym on.2) (all on.0 on.1)

-- these were unread, and more came
module _ {D : Type 0} (content : D → List ℕ) (before session : Session D) (u came : List ℕ) (begin left : Option (List ℕ)) (done : HasDone content before u [] [] []) (read : Consumes begin left came) where
  abbrev first : Option (List ℕ)
  first = prepend_known u begin

  all : Consumes first left (u ++ came)
  all = Consumes-trans first begin left u came (ahead-all u begin) read

  pub taken : (found : Result (Option message.RequestView) fault.Fault) → Stands session found → Reads content before session came (Ok found)
      → IfOk found (λ found. IfSome found (λ a. IfSome first (λ stream. (rest : List ℕ) × TakesRequest session.limits stream a rest × (prepend_known (bytes_of session.incoming.unread) left ≡ Some rest))))
  taken (Ok (Some a)) at reads =
      let unread = bytes_of session.incoming.unread in
      let h = reads u [] [] [] done in
      let is : h.rest ≡ unread = subst (λ p. PhaseAt session.limits h.rest p unread) at.1 (looking content session (u ++ came) (a ∷ []) [] [] at.0 h).0 in
      let takes = subst (λ xs. TakesRequest session.limits (u ++ came) a xs) h.fronts.2 h.fronts.1 in
      of_given first left (u ++ came) _ all (λ more on. (h.rest ++ more, takes_more session.limits (u ++ came) h.rest more a takes, rw on (ap (λ xs. Some (xs ++ more)) (sym is))))
  taken (Ok None) at reads = tt
  taken (Err f) at reads = tt

  pub none_left : (found : Result (Option message.RequestView) fault.Fault) → Stands session found → (session.state ≡ Waits → ⊥) → (IsTrue session.has_ended → IsAtEnd left) → Reads content before session came (Ok found)
      → IfOk found (λ found. IfNone found (IfSome first (λ stream. stream ≡ [])))
  none_left (Ok (Some a)) at stops ended reads = tt
  none_left (Ok None) at stops ended reads =
      let h = reads u [] [] [] done in
      elim at [
        | inl waits ↦ absurd (stops waits)
        | inr over ↦
            let none : h.rest ≡ [] = subst (λ s. Holds content session.limits session.incoming s h.rest) over.0 h.holds in
            of_given first left (u ++ came) (λ stream. stream ≡ []) all (λ more on. none_more (u ++ came) more (h.fronts ∙ none) (at_end_is left more on (ended over.1)))
      ]
  none_left (Err f) at stops ended reads = tt

  pub refused_so : (found : Result (Option message.RequestView) fault.Fault) → (IsTrue session.has_ended → IsAtEnd left) → Reads content before session came (Ok found) → IfErr found (λ f. IfSome first (Refused session.limits f))
  refused_so (Err f) ended reads =
      let h = reads u [] [] [] done in
      of_given first left (u ++ came) (Refused session.limits f) all (λ more on. subst (λ xs. Refused session.limits f (xs ++ more)) (sym h.1.1) (refused_on session f h.1.0 more (λ e. at_end_is left more on (ended e)) h.1.2))
  refused_so (Ok found) ended reads = tt

  pub broken_off : (failed : Failed) → Reads content before session came (Err failed) → IfSome first (λ stream. Came (HasNone session.limits) stream left)
  broken_off failed reads =
      let h = reads u [] [] [] done in
      came_read (HasNone session.limits) first left (u ++ came) all (subst (HasNone session.limits) (sym h.1) h.2)
