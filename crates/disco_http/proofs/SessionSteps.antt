-- The steps of a session.
use Rattle.std.proofs.Common.{◌≡◌, ◌≢◌, ◌⊎◌, ℕ, ◌+◌, ◌-◌, ◌≤◌, ◌<◌, ◌++◌, List, None, Some, [], ◌∷◌, ap, ◌∙◌, sym, refl, subst, append_assoc, append-nil, arith, Bool, true, false, IsTrue, IsFalse, Option, is_some, drop, inl, inr, length, length-append, length-drop, nat_le, take}
use Rattle.std.specs.List.{concat}
use Rattle.std.proofs.lemmas.List.{drop-drop, take-append-drop, take_all}
use Rattle.std.proofs.lemmas.List.Folds.{concat-append}
use Rattle.std.proofs.Math.Seq.{drop-append-add, drop-append_seam}
use Rattle.disco_values.specs.declared.fault.Fault.TheVariants.{OutOfMemory, ReadFailed, WriteFailed}
use Rattle.disco_values.specs.declared.fault.Fault as fault
use Rattle.disco_message.specs.declared.limits.Limits.{Limits}
use Rattle.disco_message.specs.RequestView as message
use Rattle.disco_http.specs.Requests.{Refused, TakesRequest}
use Rattle.disco_message.specs.ReplyText.{ReplyView, reply_text}
use Rattle.disco_http.specs.declared.session.End.{End}
use Rattle.disco_http.specs.declared.session.End.TheVariants.{Asked, Closed, Fault, Limit}
use Rattle.disco_http.specs.declared.incoming.Incoming.{Incoming}
use Rattle.disco_http.specs.declared.steps.Session.{Session}
use Rattle.disco_http.specs.declared.steps.State.{State}
use Rattle.disco_http.specs.declared.steps.State.TheVariants.{Waits, Looks, Writes, Over}
use Rattle.disco_http.specs.declared.incoming.Phase.TheVariants as phase
use Rattle.disco_http.specs.Coming.{PhaseAt, StandsFor, is_of_asked}
use Rattle.disco_http.specs.Exchanges.{LooksAt, behind}
use Rattle.disco_http.specs.Served.{end_behind}
use Rattle.disco_http.specs.Sessions.{Answered, Fronts, HasDone, Holds, IsGoing, Leaves, is_limit, text_of, unsent}
use Rattle.disco_http.specs.Unread.{bytes_of}
use Rattle.disco_http.proofs.MoreBytes.{body_more, head_more}

pub takes_more : (limits : Limits) (given rest more : List ℕ) (a : message.RequestView) → TakesRequest limits given a rest → TakesRequest limits (given ++ more) a (rest ++ more)
takes_more limits given rest more a t = record {
  head = t.head;
  after = t.after ++ more;
  begins = head_more limits given t.head t.after more t.begins;
  says = t.says;
  heading = t.heading;
  body = body_more limits t.says.framing t.after a.body rest more t.body;
  asks = t.asks;
}

pub fronts_more : (limits : Limits) (given rest more : List ℕ) (asks : List message.RequestView) → Fronts limits given asks rest → Fronts limits (given ++ more) asks (rest ++ more)
fronts_more limits given rest more [] h = ap (λ (xs : List ℕ). xs ++ more) h
fronts_more limits given rest more (a ∷ asks) h = (h.0 ++ more, takes_more limits given h.0 more a h.1, fronts_more limits h.0 rest more asks h.2)

pub fronts_next : (limits : Limits) (given rest next : List ℕ) (asks : List message.RequestView) (a : message.RequestView) → Fronts limits given asks rest → TakesRequest limits rest a next → Fronts limits given (asks ++ a ∷ []) next
fronts_next limits given rest next [] a h t = (next, subst (λ (xs : List ℕ). TakesRequest limits xs a next) (sym h) t, refl)
fronts_next limits given rest next (b ∷ asks) a h t = (h.0, h.1, fronts_next limits h.0 rest next asks a h.2 t)

-- what is unsent of a text of which so many bytes are left
pub left_size : (text : List ℕ) (left : ℕ) → left ≤ length text → length (drop (length text - left) text) ≡ left
left_size text left fits = omega (arith, length-drop (length text - left) text, fits)

-- some of it was put out
pub part_sent : (text out all : List ℕ) (left count less : ℕ) → left ≤ length text → count ≤ left → less ≡ left - count → out ++ drop (length text - left) text ≡ all → (out ++ take count (drop (length text - left) text)) ++ drop (length text - less) text ≡ all
part_sent text out all left count less fits few is put =
    let rest = drop (length text - left) text in
    let at : length text - less ≡ (length text - left) + count = omega (arith, fits, few, is) in
    let behind : drop (length text - less) text ≡ drop count rest = ap (λ n. drop n text) at ∙ sym (drop-drop count (length text - left) text) in
    append_assoc out (take count rest) (drop (length text - less) text) ∙ ap (λ (xs : List ℕ). out ++ (take count rest ++ xs)) behind ∙ ap (λ (xs : List ℕ). out ++ xs) (take-append-drop count rest) ∙ put

-- the rest of it was put out
pub all_sent : (text out all : List ℕ) (left count : ℕ) → left ≤ length text → count ≤ left → left ≤ count → out ++ drop (length text - left) text ≡ all → (out ++ take count (drop (length text - left) text)) ++ [] ≡ all
all_sent text out all left count fits few many put =
    let rest = drop (length text - left) text in
    append-nil (out ++ take count rest) ∙ ap (λ (xs : List ℕ). out ++ xs) (take_all count rest (omega (arith, left_size text left fits, many))) ∙ put

nothing_left : (xs : List ℕ) → drop (length xs - 0) xs ≡ []
nothing_left xs =
    let size : length xs - 0 ≡ length xs = omega arith in
    ap (λ n. drop n xs) size ∙ ap (drop (length xs)) (sym (append-nil xs)) ∙ drop-append_seam xs []

-- what has all of a body or nothing is no longer than it
size_of : (rest body : List ℕ) → (rest ≡ []) ⊎ (rest ≡ body) → (length rest ≡ 0) ⊎ (length rest ≡ length body)
size_of rest body (inl none) = inl (ap length none)
size_of rest body (inr all) = inr (ap length all)

-- the end of a text whose last part is a body
pub end_of : (text front rest body : List ℕ) (left : ℕ) → text ≡ front ++ rest → (rest ≡ []) ⊎ (rest ≡ body) → left ≤ length text → length front ≤ length text - left → drop (length text - left) text ≡ drop (length body - left) body ++ []
end_of text front rest body left is (inl none) fits far =
    let size : length text ≡ length front = ap length (is ∙ ap (λ (xs : List ℕ). front ++ xs) none ∙ append-nil front) in
    let zero : left ≡ 0 = omega (arith, size, fits, far) in
    ap (λ n. drop (length text - n) text) zero ∙ nothing_left text ∙ sym (nothing_left body) ∙ ap (λ n. drop (length body - n) body) (sym zero) ∙ sym (append-nil (drop (length body - left) body))
end_of text front rest body left is (inr all) fits far =
    let whole : text ≡ front ++ body = is ∙ ap (λ (xs : List ℕ). front ++ xs) all in
    let at : length text - left ≡ length front + (length body - left) = omega (arith, ap length whole, length-append front body, fits, far) in
    ap (λ n. drop n text) at ∙ ap (drop (length front + (length body - left))) whole ∙ drop-append-add front body (length body - left) ∙ sym (append-nil (drop (length body - left) body))

-- of a body some is left, where some of the text is that ends with it
pub some_of : (text front rest body : List ℕ) (left : ℕ) → text ≡ front ++ rest → (rest ≡ []) ⊎ (rest ≡ body) → length front ≤ length text - left → 0 < length (drop (length text - left) text) → 0 < length (drop (length body - left) body)
some_of text front rest body left is fits far some =
    let size : length text ≡ length front + length rest = ap length is ∙ length-append front rest in
    omega (arith, size, size_of rest body fits, far, some, length-drop (length text - left) text, length-drop (length body - left) body)

-- one text more
pub one_text : (texts : List (List ℕ)) (out text : List ℕ) → out ++ [] ≡ concat texts → out ++ text ≡ concat (texts ++ text ∷ [])
one_text texts out text put = ap (λ (xs : List ℕ). xs ++ text) (sym (append-nil out) ∙ put) ∙ ap (λ (xs : List ℕ). concat texts ++ xs) (sym (append-nil text)) ∙ sym (concat-append texts (text ∷ []))

-- one that looks stands for what follows, and has put all out
pub looking : {D : Type 0} (content : D → List ℕ) (session : Session D) (given : List ℕ) (asks : List message.RequestView) (texts : List (List ℕ)) (out : List ℕ) → session.state ≡ Looks → (h : HasDone content session given asks texts out) → StandsFor session.limits session.incoming h.rest × (out ++ [] ≡ concat texts)
looking content session given asks texts out looks h =
    (subst (λ s. Holds content session.limits session.incoming s h.rest) looks h.holds, subst (λ s. out ++ unsent content s ≡ concat texts) looks h.put)

-- a reply goes out, and nothing of it is out
pub going_done : {D : Type 0} (content : D → List ℕ) (session : Session D) (given rest : List ℕ) (asks : List message.RequestView) (texts : List (List ℕ)) (out : List ℕ) (r : ReplyView) (end : Option End) → Fronts session.limits given asks rest → IsGoing content r end session.state → Leaves session.limits session.incoming rest end → out ++ [] ≡ concat texts → HasDone content session given asks (texts ++ reply_text r (is_some end) ∷ []) out
going_done content session given rest asks texts out r end fronts g left put =
    let text = text_of content g.0 in
    let same : text ≡ reply_text r (is_some end) = ap (λ v. reply_text v (is_some g.0.end)) g.2 ∙ ap (λ e. reply_text r (is_some e)) g.3 in
    let zero : length text - g.0.left ≡ 0 = omega (arith, g.4) in
    record {
      rest = rest;
      fronts = fronts;
      holds = subst (λ s. Holds content session.limits session.incoming s rest) (sym g.1) (subst (Leaves session.limits session.incoming rest) (sym g.3) left, omega (arith, g.4));
      put = ap (λ s. out ++ unsent content s) g.1 ∙ ap (λ n. out ++ drop n text) zero ∙ ap (λ (xs : List ℕ). out ++ xs) same ∙ one_text texts out (reply_text r (is_some end)) put;
    }

-- behind a request that was taken
pub taken_leaves : (limits : Limits) (incoming : Incoming) (closes last : Bool) (rest : List ℕ) → incoming.phase ≡ phase.Head → StandsFor limits incoming rest → Leaves limits incoming rest (end_behind closes last)
taken_leaves limits incoming closes true rest head stands = subst (λ at. PhaseAt limits rest at (bytes_of incoming.unread)) head stands
taken_leaves limits incoming true false rest head stands = subst (λ at. PhaseAt limits rest at (bytes_of incoming.unread)) head stands
taken_leaves limits incoming false false rest head stands = stands

not_so : (f g : fault.Fault) → f ≡ g → IsTrue (is_of_asked f) → IsFalse (is_of_asked g) → ⊥
not_so f g is has lacks = cc (is, has, lacks)

-- the faults with which bytes are refused are none of the host's
pub of_host : (f : fault.Fault) → IsTrue (is_of_asked f) → (f ≢ ReadFailed) × (f ≢ WriteFailed)
of_host ReadFailed h = absurd (cc h)
of_host WriteFailed h = absurd (cc h)
of_host f h = ((λ e. not_so f ReadFailed e h refl), (λ e. not_so f WriteFailed e h refl))

leaves_same : (limits : Limits) (a b : Incoming) (rest : List ℕ) (end : Option End) → b.phase ≡ a.phase → bytes_of b.unread ≡ bytes_of a.unread → Leaves limits a rest end → Leaves limits b rest end
leaves_same limits a b rest None at same h = rw (at, same) h
leaves_same limits a b rest (Some Closed) at same h = h
leaves_same limits a b rest (Some (Fault f)) at same h = h
leaves_same limits a b rest (Some Asked) at same h = h ∙ sym same
leaves_same limits a b rest (Some Limit) at same h = h ∙ sym same

held_same : {D : Type 0} (content : D → List ℕ) (limits : Limits) (a b : Incoming) (rest : List ℕ) (state : State D) → b.phase ≡ a.phase → bytes_of b.unread ≡ bytes_of a.unread → Holds content limits a state rest → Holds content limits b state rest
held_same content limits a b rest Waits at same h = (rw (at, same) h.0, h.1, rw same h.2)
held_same content limits a b rest Looks at same h = rw (at, same) h
held_same content limits a b rest (Writes o) at same h = (leaves_same limits a b rest o.end at same h.0, h.1)
held_same content limits a b rest (Over end) at same h = leaves_same limits a b rest (Some end) at same h

-- a session that keeps another buffer has done the same
module _ {D : Type 0} (content : D → List ℕ) (a b : Session D) (at : b.incoming.phase ≡ a.incoming.phase) (same : bytes_of b.incoming.unread ≡ bytes_of a.incoming.unread) (state : b.state ≡ a.state) (limits : b.limits ≡ a.limits) (ended : b.has_ended ≡ a.has_ended) (requests : b.requests ≡ a.requests) where
  pub done_same : (given : List ℕ) (asks : List message.RequestView) (texts : List (List ℕ)) (out : List ℕ) → HasDone content a given asks texts out → HasDone content b given asks texts out
  done_same given asks texts out h = record {
    rest = h.rest;
    fronts = rw limits h.fronts;
    holds = rw (limits, state) (held_same content a.limits a.incoming b.incoming h.rest a.state at same h.holds);
    put = rw state h.put;
  }

  -- and what it looked at was answered
  pub answered_same : {S : Type 0} (answers : S → message.RequestView → ReplyView → S → Type 0) (before : Session D) (old new : S)
      → ((given : List ℕ) (asks : List message.RequestView) (texts : List (List ℕ)) (out : List ℕ) → HasDone content before given asks texts out → LooksAt content answers before.requests a old new given asks texts out)
      → Answered content answers before b old new
  answered_same answers before old new looked given asks texts out h =
      let limit : is_limit a ≡ is_limit b = sym (ap (λ (l : Limits). nat_le l.requests b.requests) limits ∙ ap (λ n. nat_le a.limits.requests n) requests) in
      elim (looked given asks texts out h) [
        | inl x ↦ inl (x.ask, x.reply, x.told, subst (λ l. HasDone content b given (asks ++ x.ask ∷ []) (texts ++ reply_text x.reply (is_some (end_behind x.ask.closes l)) ∷ []) out) limit (done_same given (asks ++ x.ask ∷ []) _ out x.done))
        | inr x ↦
            inr (
              x.0,
              elim x.2 [
                | inl r ↦
                    let why : (r.fault ≡ OutOfMemory) ⊎ (((more : List ℕ) → Refused b.limits r.fault (r.rest ++ more)) ⊎ (IsTrue b.has_ended × Refused b.limits r.fault r.rest)) = inr (rw (limits, ended) r.why) in
                    inl (r.fault, r.rest, rw limits r.fronts, why, done_same given asks _ out r.done)
                | inr d ↦ inr (done_same given asks texts out d.1)
              ],
            )
      ]

-- where a session is behind a reply
pub behind_is : {D : Type 0} (state : State D) (end : Option End) → (end ≡ None → state ≡ Looks) → ((e : End) → end ≡ Some e → state ≡ Over e) → state ≡ behind end
behind_is state None none some = none refl
behind_is state (Some e) none some = some e refl
