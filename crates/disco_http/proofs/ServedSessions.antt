-- A connection that a session serves.
use Rattle.std.proofs.Common.{◌≡◌, ◌≢◌, ℕ, ◌+◌, ◌-◌, ◌<◌, ◌==◌, arith, Bool, true, false, List, [], ◌∷◌, ◌++◌, Option, Some, None, length, nat_le, sym, ◌∙◌, ap, refl, append-nil, length-append, IfSome, IsTrue, inl, inr, is_some, subst}
use Rattle.std.specs.List.{concat}
use Rattle.std.specs.Io.KnownBytes.{Appends, Consumes, IsAtEnd, prepend_known}
use Rattle.std.proofs.lemmas.Bool.Decides.{nat_tests}
use Rattle.std.proofs.lemmas.List.{map_push}
use Rattle.std.proofs.KnownBytes.{Appends-trans, Appends-nil, Consumes-trans}
use Rattle.disco_values.specs.declared.fault.Fault.TheVariants.{ReadFailed, WriteFailed}
use Rattle.disco_values.specs.declared.fault.Fault as fault
use Rattle.disco_message.specs.declared.limits.Limits.{Limits}
use Rattle.disco_message.specs.RequestView as message
use Rattle.disco_message.specs.ReplyText.{ReplyView, reply_text}
use Rattle.disco_http.specs.Requests.{Refused}
use Rattle.disco_http.specs.Writes.{AppendsProperFront}
use Rattle.disco_http.specs.declared.incoming.Incoming.{Incoming}
use Rattle.disco_http.specs.declared.incoming.Phase.TheVariants as phase
use Rattle.disco_http.specs.declared.session.End.{End}
use Rattle.disco_http.specs.declared.session.End.TheVariants.{Closed, Fault}
use Rattle.disco_http.specs.declared.steps.Session.{Session}
use Rattle.disco_http.specs.declared.steps.State.{State}
use Rattle.disco_http.specs.declared.steps.State.TheVariants.{Waits, Looks, Over}
use Rattle.disco_http.specs.Coming.{PhaseAt}
use Rattle.disco_http.specs.Served.{Left, AnswersAll, Chain, EndsStream, Requests, Written, end_behind, end_texts, ends_by_reply, is_last, refused, texts}
use Rattle.disco_http.specs.Exchanges.{AnswersHere, Exchanged, GoOn, IsRefused, PutsOut, RefusesHere, Replies, SoFar, behind, end_of, left_at, open_texts}
use Rattle.disco_http.specs.Sessions.{Fronts, HasDone, Holds, IsGoing, Leaves, is_limit, text_of}
use Rattle.disco_http.specs.Unread.{bytes_of}
use Rattle.disco_http.proofs.ChunkSteps.{joined-more}
use Rattle.disco_http.proofs.SessionSteps.{fronts_more}

-- replies

chain-then : {S : Type 0} (answers : S → message.RequestView → ReplyView → S → Type 0) (old mid new : S) (asks : List message.RequestView) (replies : List ReplyView) (a : message.RequestView) (r : ReplyView) → Chain answers old asks replies mid → answers mid a r new → Chain answers old (asks ++ a ∷ []) (replies ++ r ∷ []) new
chain-then answers old mid new [] [] a r h told = (new, subst (λ s. answers s a r new) h told, refl)
chain-then answers old mid new (b ∷ asks) (s ∷ replies) a r h told = (h.0, h.1, chain-then answers h.0 mid new asks replies a r h.2 told)
chain-then answers old mid new [] (s ∷ replies) a r h told = elim h [ ]
chain-then answers old mid new (b ∷ asks) [] a r h told = elim h [ ]

-- the texts of replies that are out, and of those behind them
texts-shut : (replies rs : List ReplyView) (end : End) → is_last rs end ≡ false → texts (replies ++ rs) end ≡ open_texts replies ++ texts rs end
texts-shut [] rs end shut = refl
texts-shut (r ∷ []) rs end shut = ap (λ b. reply_text r b ∷ texts rs end) shut
texts-shut (r ∷ s ∷ replies) rs end shut = ap (λ xs. reply_text r false ∷ xs) (texts-shut (s ∷ replies) rs end shut)

texts-end : (replies : List ReplyView) (end : End) → is_last [] end ≡ false → texts replies end ≡ open_texts replies ++ end_texts end
texts-end replies end shut = ap (λ rs. texts rs end) (sym (append-nil replies)) ∙ texts-shut replies [] end shut

open-more : (replies : List ReplyView) (r : ReplyView) → open_texts (replies ++ r ∷ []) ≡ open_texts replies ++ reply_text r false ∷ []
open-more replies r = map_push (λ r. reply_text r false) replies r

-- the end that a last reply speaks of; where it could not be written, the connection could have gone on
abbrev Closing : Option End → End → Type 0
Closing (Some e) end = end ≡ e
Closing None end = end ≡ Fault WriteFailed

-- nothing is written behind a last reply, which ends the connection and says so
last_reply : (closes last : Bool) (end : End) → Closing (end_behind closes last) end → (end_texts end ≡ []) × IsTrue (ends_by_reply end) × (is_last [] end ≡ is_some (end_behind closes last))
last_reply closes true end h = rw h (refl, refl, refl)
last_reply true false end h = rw h (refl, refl, refl)
last_reply false false end h = rw h (refl, refl, refl)

last_texts : (replies : List ReplyView) (r : ReplyView) (closes last : Bool) (end : End) → Closing (end_behind closes last) end → texts (replies ++ r ∷ []) end ≡ open_texts replies ++ reply_text r (is_some (end_behind closes last)) ∷ []
last_texts replies r closes last end h =
    let k = last_reply closes last end h in
    texts-shut replies (r ∷ []) end refl ∙ ap (λ xs. open_texts replies ++ reply_text r (is_last [] end) ∷ xs) k.0 ∙ ap (λ b. open_texts replies ++ reply_text r b ∷ []) k.2

-- a refusal is written, and none of the host's faults
refusal_text : (f : fault.Fault) → f ≢ ReadFailed → f ≢ WriteFailed → end_texts (Fault f) ≡ reply_text (refused f) true ∷ []
refusal_text ReadFailed read wrote = absurd (read refl)
refusal_text WriteFailed read wrote = absurd (wrote refl)
refusal_text f read wrote = refl

by_reply : (f : fault.Fault) → f ≢ ReadFailed → IsTrue (ends_by_reply (Fault f))
by_reply ReadFailed read = absurd (read refl)
by_reply f read = refl

ends_refused : (limits : Limits) (stream : List ℕ) (left : Left) (f : fault.Fault) → f ≢ ReadFailed → f ≢ WriteFailed → Refused limits f stream → EndsStream limits stream left (Fault f)
ends_refused limits stream left ReadFailed read wrote h = absurd (read refl)
ends_refused limits stream left WriteFailed read wrote h = absurd (wrote refl)
ends_refused limits stream left f read wrote h = h

-- one text more is out, or a front of it
one_out : (end : End) (a b c : Option (List ℕ)) (xs : List (List ℕ)) (text : List ℕ) → end ≢ Fault WriteFailed → Appends a b (concat xs) → Appends b c text → Written end end a c (xs ++ text ∷ [])
one_out end a b c xs text not h k = inl (refl, not, rw (joined-more xs text) (Appends-trans a b c (concat xs) text h k))

front_out : (end : End) (a b c : Option (List ℕ)) (xs : List (List ℕ)) (text : List ℕ) → IsTrue (ends_by_reply end) → Appends a b (concat xs) → AppendsProperFront b c text → Written (Fault WriteFailed) end a c (xs ++ text ∷ [])
front_out end a b c xs text by h k = inr (refl, by, (xs, text, b, refl, h, k))

-- requests

-- these are the requests of the stream, and then it ends so
requests_end : (limits : Limits) (most : ℕ) (stream rest : List ℕ) (left : Left) (asks : List message.RequestView) (end : End) → Fronts limits stream asks rest → GoOn most asks → EndsStream limits rest left end → Requests limits most stream left asks end
requests_end limits most stream rest left [] end h go ends = subst (λ xs. EndsStream limits xs left end) (sym h) ends
requests_end limits most stream rest left (a ∷ asks) end h go ends =
    (h.0, h.1, rw go.0 (requests_end limits (most - 1) h.0 rest left asks end h.2 go.1 ends))

-- the last of them ends the connection
requests_last : (limits : Limits) (most n : ℕ) (stream rest : List ℕ) (left : Left) (asks : List message.RequestView) (a : message.RequestView) (end : End) → n ≡ most - length asks → Fronts limits stream (asks ++ a ∷ []) rest → GoOn most asks
    → end_behind a.closes (n == 1) ≡ Some end → left.ahead ≡ Some rest → Requests limits most stream left (asks ++ a ∷ []) end
requests_last limits most n stream rest left [] a end is h go last stays =
    let all : n ≡ most = omega (arith, is) in
    let closes : end_behind a.closes (most == 1) ≡ Some end = subst (λ m. end_behind a.closes (m == 1) ≡ Some end) all last in
    (h.0, h.1, rw closes (refl, refl, stays ∙ ap Some (sym h.2)))
requests_last limits most n stream rest left (b ∷ asks) a end is h go last stays =
    let less : n ≡ (most - 1) - length asks = omega (arith, is) in
    (h.0, h.1, rw go.0 (requests_last limits (most - 1) n h.0 rest left asks a end less h.2 go.1 last stays))

go_more : (most n : ℕ) (asks : List message.RequestView) (a : message.RequestView) → n ≡ most - length asks → GoOn most asks → end_behind a.closes (n == 1) ≡ None → GoOn most (asks ++ a ∷ [])
go_more most n [] a is go last =
    let all : n ≡ most = omega (arith, is) in
    (subst (λ m. end_behind a.closes (m == 1) ≡ None) all last, tt)
go_more most n (b ∷ asks) a is go last =
    let less : n ≡ (most - 1) - length asks = omega (arith, is) in
    (go.0, go_more (most - 1) n asks a less go.1 last)

same_last : (most count : ℕ) → count < most → (most - count == 1) ≡ nat_le most (count + 1)
same_last most count h = grind (arith, nat_tests, h)

-- what a source still gives
pub given_on : (stream given : List ℕ) (left : Option (List ℕ)) → Consumes (Some stream) left given → (more : List ℕ) × (left ≡ Some more) × (stream ≡ given ++ more)
given_on stream given None h = elim h [ ]
given_on stream given (Some more) h = (more, refl, h)

-- behind a request that was taken the rest is unread
rest_is : (limits : Limits) (incoming : Incoming) (closes last : Bool) (rest : List ℕ) → incoming.phase ≡ phase.Head → Leaves limits incoming rest (end_behind closes last) → rest ≡ bytes_of incoming.unread
rest_is limits incoming closes true rest head h = h
rest_is limits incoming true false rest head h = h
rest_is limits incoming false false rest head h = subst (λ at. PhaseAt limits rest at (bytes_of incoming.unread)) head h

pub none_more : (xs ys : List ℕ) → xs ≡ [] → ys ≡ [] → xs ++ ys ≡ []
none_more xs ys none empty = rw (none, empty) refl

pub refused_on : {D : Type 0} (session : Session D) (f : fault.Fault) (rest more : List ℕ) → (IsTrue session.has_ended → more ≡ []) → IsRefused session f rest → Refused session.limits f (rest ++ more)
refused_on session f rest more none (inl all) = all more
refused_on session f rest more none (inr at) = rw (none at.0, append-nil rest) at.1

pub at_end_is : (left : Option (List ℕ)) (more : List ℕ) → left ≡ Some more → IsAtEnd left → more ≡ []
at_end_is left more is end = subst IsAtEnd is end

-- the request that is answered last ends the connection, or would have gone on where its answer isn't out
requests_closing : (limits : Limits) (most n : ℕ) (stream rest : List ℕ) (left : Left) (asks : List message.RequestView) (a : message.RequestView) (e : Option End) (end : End) → n ≡ most - length asks → Fronts limits stream (asks ++ a ∷ []) rest → GoOn most asks
    → end_behind a.closes (n == 1) ≡ e → Closing e end → left.ahead ≡ Some rest → Requests limits most stream left (asks ++ a ∷ []) end
requests_closing limits most n stream rest left asks a None end is h go last closing stays =
    rw closing (requests_end limits most stream rest left (asks ++ a ∷ []) (Fault WriteFailed) h (go_more most n asks a is go last) stays)
requests_closing limits most n stream rest left asks a (Some e) end is h go last closing stays =
    rw closing (requests_last limits most n stream rest left asks a e is h go last stays)

-- no reply ends it as a failed write does
by_end : (closes last : Bool) (end : End) → end_behind closes last ≡ Some end → end ≢ Fault WriteFailed
by_end closes true end is e = absurd (cc (is, e))
by_end true false end is e = absurd (cc (is, e))
by_end false false end is e = absurd (cc is)

closing_end : (e : Option End) → (end : End) × Closing e end
closing_end None = (Fault WriteFailed, refl)
closing_end (Some e) = (e, refl)

going_text : {D : Type 0} (content : D → List ℕ) (state : State D) (r : ReplyView) (end : Option End) (g : IsGoing content r end state) → text_of content g.0 ≡ reply_text r (is_some end)
going_text content state r end g = ap (λ v. reply_text v (is_some g.0.end)) g.2 ∙ ap (λ e. reply_text r (is_some e)) g.3

pub ends_as : {S : Type 0} (answers : S → message.RequestView → ReplyView → S → Type 0) (stream : List ℕ) (first now : S) (before after left : Option (List ℕ)) (l m : Limits) (i j : Incoming) (k n : ℕ) (at : End) → m ≡ l → j ≡ i → n ≡ k
    → AnswersAll answers l stream (left_at i left) first now before after (record { requests = k; end = at }) → AnswersAll answers m stream (left_at j left) first now before after (record { requests = n; end = at })
ends_as answers stream first now before after left l m i j k n at limits incoming requests h = rw (limits, incoming, requests) h

module _ {D S : Type 0} (content : D → List ℕ) (answers : S → message.RequestView → ReplyView → S → Type 0) (stream : List ℕ) (first : S) (before : Option (List ℕ)) (s0 s1 : Session D) (left0 left1 : Option (List ℕ)) (v0 v1 : S) (b c : Option (List ℕ)) (so : SoFar content answers stream first before s0 left0 v0 b) (came more : List ℕ) (read : Consumes left0 left1 came) (left_is : left1 ≡ Some more) (stream_is : stream ≡ (so.given ++ came) ++ more) (few : s0.requests < s0.limits.requests) (limits : s1.limits ≡ s0.limits) where
  abbrev Answer : Type 0
  Answer = AnswersHere content answers s0.requests s1 v0 v1 (so.given ++ came) so.asks (open_texts so.replies) (concat (open_texts so.replies))

  abbrev Refusal : Type 0
  Refusal = RefusesHere content s1 (so.given ++ came) so.asks (open_texts so.replies) (concat (open_texts so.replies))

  abbrev Ends : End → Type 0
  Ends at = AnswersAll answers s1.limits stream (left_at s1.incoming left1) first v1 before c (record { requests = s1.requests; end = at })

  goes : GoOn s1.limits.requests so.asks
  goes = subst (λ (l : Limits). GoOn l.requests so.asks) (sym limits) so.goes

  few_more : length so.asks < s1.limits.requests
  few_more =
      let less : s0.requests < s1.limits.requests = subst (λ (l : Limits). s0.requests < l.requests) (sym limits) few in
      omega (arith, less, so.counted)

  fronts : (asks : List message.RequestView) (rest : List ℕ) → Fronts s1.limits (so.given ++ came) asks rest → Fronts s1.limits stream asks (rest ++ more)
  fronts asks rest h = subst (λ xs. Fronts s1.limits xs asks (rest ++ more)) (sym stream_is) (fronts_more s1.limits (so.given ++ came) rest more asks h)

  module _ (x : Answer) where
    count : length so.asks + 1 ≡ s1.requests
    count =
        let less : s0.requests < s1.limits.requests = subst (λ (l : Limits). s0.requests < l.requests) (sym limits) few in
        ap (λ n. n + 1) so.counted ∙ sym (x.counted less)

    last : (s1.limits.requests - length so.asks == 1) ≡ is_limit s1
    last = same_last s1.limits.requests (length so.asks) few_more ∙ ap (λ n. nat_le s1.limits.requests n) count

    behind_is : (e : Option End) → end_behind x.ask.closes (is_limit s1) ≡ e → end_behind x.ask.closes (s1.limits.requests - length so.asks == 1) ≡ e
    behind_is e is = ap (end_behind x.ask.closes) last ∙ is

    size : length (so.asks ++ x.ask ∷ []) ≡ s1.requests
    size = length-append so.asks (x.ask ∷ []) ∙ count

    chain : Chain answers first (so.asks ++ x.ask ∷ []) (so.replies ++ x.reply ∷ []) v1
    chain = chain-then answers first v0 v1 so.asks so.replies x.ask x.reply so.chain x.told

    unread : (left_at s1.incoming left1).ahead ≡ Some (x.done.rest ++ more)
    unread =
        let u = bytes_of s1.incoming.unread in
        let held = subst (λ s. Holds content s1.limits s1.incoming s x.done.rest) x.goes.1 x.done.holds in
        let leaves = subst (Leaves s1.limits s1.incoming x.done.rest) x.goes.3 held.0 in
        let is : x.done.rest ≡ u = rest_is s1.limits s1.incoming x.ask.closes (is_limit s1) x.done.rest x.between leaves in
        ap (prepend_known u) left_is ∙ ap (λ (xs : List ℕ). Some (xs ++ more)) (sym is)

    ends_answered : (at end : End) → Closing (end_behind x.ask.closes (is_limit s1)) end → Written at end before c (open_texts so.replies ++ reply_text x.reply (is_some (end_behind x.ask.closes (is_limit s1))) ∷ []) → Ends at
    ends_answered at end closing put = (
      so.asks ++ x.ask ∷ [],
      so.replies ++ x.reply ∷ [],
      end,
      requests_closing s1.limits s1.limits.requests (s1.limits.requests - length so.asks) stream (x.done.rest ++ more) (left_at s1.incoming left1) so.asks x.ask (end_behind x.ask.closes (is_limit s1)) end refl (fronts (so.asks ++ x.ask ∷ []) x.done.rest x.done.fronts) goes (behind_is _ refl) closing unread,
      chain,
      size,
      rw (last_texts so.replies x.reply x.ask.closes (is_limit s1) end closing) put,
    )

    -- its answer is out, and the connection goes on
    goes_answered : (s2 : Session D) → s2.limits ≡ s1.limits → s2.requests ≡ s1.requests → end_behind x.ask.closes (is_limit s1) ≡ None → Appends b c (reply_text x.reply false)
        → HasDone content s2 (so.given ++ came) (so.asks ++ x.ask ∷ []) (open_texts so.replies ++ reply_text x.reply false ∷ []) (concat (open_texts so.replies ++ reply_text x.reply false ∷ []))
        → SoFar content answers stream first before s2 left1 v1 c
    goes_answered s2 limits2 requests2 none put done = record {
      given = so.given ++ came;
      asks = so.asks ++ x.ask ∷ [];
      replies = so.replies ++ x.reply ∷ [];
      came = Consumes-trans (Some stream) left0 left1 so.given came so.came read;
      done = rw (open-more so.replies x.reply) done;
      chain = chain;
      counted = size ∙ sym requests2;
      goes = subst (λ (l : Limits). GoOn l.requests (so.asks ++ x.ask ∷ [])) (sym limits2) (go_more s1.limits.requests (s1.limits.requests - length so.asks) so.asks x.ask refl goes (behind_is None none));
      put = rw (open-more so.replies x.reply, joined-more (open_texts so.replies) (reply_text x.reply false)) (Appends-trans before b c (concat (open_texts so.replies)) (reply_text x.reply false) so.put put);
    }

  module _ (same : v1 ≡ v0) (count : s1.requests ≡ s0.requests) where
    -- no reply ends the connection
    ends_here : (at end : End) (rest : List ℕ) → Fronts s1.limits (so.given ++ came) so.asks rest → EndsStream s1.limits (rest ++ more) (left_at s1.incoming left1) end → Written at end before c (texts so.replies end) → Ends at
    ends_here at end rest h ends put = (
      so.asks,
      so.replies,
      end,
      requests_end s1.limits s1.limits.requests stream (rest ++ more) (left_at s1.incoming left1) so.asks end (fronts so.asks rest h) goes ends,
      subst (λ s. Chain answers first so.asks so.replies s) (sym same) so.chain,
      so.counted ∙ sym count,
      put,
    )

    ends_refused_by : (at : End) (x : Refusal) → (IsTrue s1.has_ended → more ≡ []) → Written at (Fault x.fault) before c (open_texts so.replies ++ reply_text (refused x.fault) true ∷ []) → Ends at
    ends_refused_by at x none put =
        let text = texts-end so.replies (Fault x.fault) refl ∙ ap (λ xs. open_texts so.replies ++ xs) (refusal_text x.fault x.read x.wrote) in
        ends_here at (Fault x.fault) x.rest x.fronts (ends_refused s1.limits (x.rest ++ more) (left_at s1.incoming left1) x.fault x.read x.wrote (refused_on s1 x.fault x.rest more none x.why)) (rw text put)

    -- it ends without a text
    ends_silent : (end : End) (rest : List ℕ) → Fronts s1.limits (so.given ++ came) so.asks rest → EndsStream s1.limits (rest ++ more) (left_at s1.incoming left1) end → is_last [] end ≡ false → end_texts end ≡ [] → end ≢ Fault WriteFailed → c ≡ b → Ends end
    ends_silent end rest h ends shut silent not kept =
        let text : texts so.replies end ≡ open_texts so.replies = texts-end so.replies end shut ∙ ap (λ xs. open_texts so.replies ++ xs) silent ∙ append-nil (open_texts so.replies) in
        ends_here end end rest h ends (inl (refl, not, rw (text, kept) so.put))

  module _ (s2 : Session D) (i j : ℕ) (replies : Replies content answers s0 s1 v0 v1 came) (stops : s1.state ≡ Waits → ⊥) (ended : IsTrue s1.has_ended → IsAtEnd left1) (put : PutsOut content s1.state s2.state b c i j)
      (done : (given : List ℕ) (asks : List message.RequestView) (texts : List (List ℕ)) (out : List ℕ) → HasDone content s1 given asks texts out → s2.state ≡ Looks → HasDone content s2 given asks texts (concat texts))
      (incoming2 : s2.incoming ≡ s1.incoming) (limits2 : s2.limits ≡ s1.limits) (requests2 : s2.requests ≡ s1.requests) where
    abbrev Goal : State D → Type 0
    Goal state = Exchanged content answers stream first before s2 left1 v1 c (end_of state)

    none : IsTrue s1.has_ended → more ≡ []
    none e = at_end_is left1 more left_is (ended e)

    over : (at : End) → s2.state ≡ Over at → Ends at → Goal s2.state
    over at is h =
        subst Goal (sym is) (ends_as answers stream first v1 before c left1 s1.limits s2.limits s1.incoming s2.incoming s1.requests s2.requests at limits2 incoming2 requests2 h)

    wrote_answer : (x : Answer) (e : Option End) → end_behind x.ask.closes (is_limit s1) ≡ e → s2.state ≡ behind e → Appends b c (reply_text x.reply (is_some e)) → Goal s2.state
    wrote_answer x None is state out =
        let text = subst (λ (e : Option End). HasDone content s1 (so.given ++ came) (so.asks ++ x.ask ∷ []) (open_texts so.replies ++ reply_text x.reply (is_some e) ∷ []) (concat (open_texts so.replies))) is x.done in
        subst Goal (sym state) (goes_answered x s2 limits2 requests2 is out (done _ _ _ _ text state))
    wrote_answer x (Some end) is state out =
        let closing : Closing (end_behind x.ask.closes (is_limit s1)) end = rw is refl in
        over end state (ends_answered x end end closing (one_out end before b c (open_texts so.replies) (reply_text x.reply (is_some (end_behind x.ask.closes (is_limit s1)))) (by_end x.ask.closes (is_limit s1) end is) so.put (rw is out)))

    answered : (x : Answer) → Goal s2.state
    answered x =
        let e = end_behind x.ask.closes (is_limit s1) in
        let text = going_text content s1.state x.reply e x.goes in
        elim (subst (λ s. PutsOut content s s2.state b c i j) x.goes.1 put) [
          | inl w ↦ wrote_answer x e refl (w.0 ∙ ap behind x.goes.3) (subst (Appends b c) text w.1)
          | inr w ↦
              let k = closing_end e in
              over (Fault WriteFailed) w.0 (ends_answered x (Fault WriteFailed) k.0 k.1 (front_out k.0 before b c (open_texts so.replies) (reply_text x.reply (is_some e)) (last_reply x.ask.closes (is_limit s1) k.0 k.1).1 so.put (subst (AppendsProperFront b c) text w.1)))
        ]

    refusal : v1 ≡ v0 → s1.requests ≡ s0.requests → (x : Refusal) → Goal s2.state
    refusal same count x =
        let text = going_text content s1.state (refused x.fault) (Some (Fault x.fault)) x.goes in
        elim (subst (λ s. PutsOut content s s2.state b c i j) x.goes.1 put) [
          | inl w ↦ over (Fault x.fault) (w.0 ∙ ap behind x.goes.3) (ends_refused_by same count (Fault x.fault) x none (one_out (Fault x.fault) before b c (open_texts so.replies) (reply_text (refused x.fault) true) (λ e. x.wrote (cc e)) so.put (subst (Appends b c) text w.1)))
          | inr w ↦ over (Fault WriteFailed) w.0 (ends_refused_by same count (Fault WriteFailed) x none (front_out (Fault x.fault) before b c (open_texts so.replies) (reply_text (refused x.fault) true) (by_reply x.fault x.read) so.put (subst (AppendsProperFront b c) text w.1)))
        ]

    exchanged : Goal s2.state
    exchanged = elim (replies so.given so.asks (open_texts so.replies) (concat (open_texts so.replies)) so.done) [
      | inl (inl x) ↦ answered x
      | inl (inr x) ↦
          elim x.2 [
            | inl r ↦ refusal x.0 x.1 r
            | inr d ↦
                elim d.0 [
                  | inl waits ↦ absurd (stops waits)
                  | inr shut ↦
                      let kept = subst (λ s. PutsOut content s s2.state b c i j) shut.0 put in
                      let held : d.1.rest ≡ [] = subst (λ s. Holds content s1.limits s1.incoming s d.1.rest) shut.0 d.1.holds in
                      over Closed kept.0 (ends_silent x.0 x.1 Closed d.1.rest d.1.fronts (none_more d.1.rest more held (none shut.1)) refl refl (λ e. cc e) kept.1)
                ]
          ]
      | inr x ↦
          let broken = x.2 in
          let kept = subst (λ s. PutsOut content s s2.state b c i j) broken.0 put in
          let rest = broken.1.0 in
          over (Fault ReadFailed) kept.0 (ends_silent x.0 x.1 (Fault ReadFailed) rest broken.1.1 (rest, subst (λ (l : Option (List ℕ)). Consumes (Some (rest ++ more)) l rest) (sym left_is) refl, broken.1.2) refl refl (λ e. cc e) kept.1)
    ]

pub exchanged_on : {D S : Type 0} (content : D → List ℕ) (answers : S → message.RequestView → ReplyView → S → Type 0) (stream : List ℕ) (first : S) (before : Option (List ℕ)) (s0 s1 s2 : Session D) (left0 left1 : Option (List ℕ)) (v0 v1 : S) (b c : Option (List ℕ)) (i j : ℕ) (so : SoFar content answers stream first before s0 left0 v0 b) (came : List ℕ) → Consumes left0 left1 came → s0.requests < s0.limits.requests → s1.limits ≡ s0.limits
    → Replies content answers s0 s1 v0 v1 came → (s1.state ≡ Waits → ⊥) → (IsTrue s1.has_ended → IsAtEnd left1) → PutsOut content s1.state s2.state b c i j
    → ((given : List ℕ) (asks : List message.RequestView) (texts : List (List ℕ)) (out : List ℕ) → HasDone content s1 given asks texts out → s2.state ≡ Looks → HasDone content s2 given asks texts (concat texts))
    → s2.incoming ≡ s1.incoming → s2.limits ≡ s1.limits → s2.requests ≡ s1.requests → Exchanged content answers stream first before s2 left1 v1 c (end_of s2.state)
exchanged_on content answers stream first before s0 s1 s2 left0 left1 v0 v1 b c i j so came read few limits replies stops ended put done incoming2 limits2 requests2 =
    let on = given_on stream (so.given ++ came) left1 (Consumes-trans (Some stream) left0 left1 so.given came so.came read) in
    exchanged content answers stream first before s0 s1 left0 left1 v0 v1 b c so came on.0 read on.1 on.2 few limits s2 i j replies stops ended put done incoming2 limits2 requests2

-- nothing was answered yet
pub begun : {D S : Type 0} (content : D → List ℕ) (answers : S → message.RequestView → ReplyView → S → Type 0) (session : Session D) (u : List ℕ) (left : Option (List ℕ)) (now : S) (before : Option (List ℕ)) → session.requests ≡ 0 → HasDone content session u [] [] []
    → IfSome (prepend_known u left) (λ stream. SoFar content answers stream now before session left now before)
begun content answers session u None now before none done = tt
begun content answers session u (Some more) now before none done = record {
  given = u;
  asks = [];
  replies = [];
  came = refl;
  done = done;
  chain = refl;
  counted = sym none;
  goes = tt;
  put = Appends-nil before;
}

pub for_each : (first : Option (List ℕ)) (P Q : List ℕ → Type 0) → ((stream : List ℕ) → P stream → Q stream) → IfSome first P → IfSome first Q
for_each None P Q all h = tt
for_each (Some stream) P Q all h = all stream h
