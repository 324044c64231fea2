-- What a desk does is answered, noted and counted.
use Rattle.std.proofs.Common.{◌≡◌, inl, inr, ℕ, ◌+◌, ◌≤◌, [], ◌++◌, length, map, Option, Some, None, Result, Ok, Err, IfOk, OnErr, refl, sym, ap, subst, ◌∙◌, arith, append-nil}
use mathlib.Core.List.{IsPrefix}
use base.Growing.{prefix_trans}
use Rattle.disco_instance.specs.Instance.{Gives}
use Rattle.disco_values.specs.declared.fault.Fault.{Fault}
use Rattle.disco_values.specs.declared.fault.Fault.TheVariants.{OutOfMemory}
use Rattle.disco_history.specs.Change.{Entry}
use Rattle.disco_registry.specs.Commit.{done_by}
use Rattle.disco_registry.specs.declared.op.Applied.{Applied}
use Rattle.disco_core.specs.Past.{Past, history}
use Rattle.disco_core.specs.State.{Rules}
use Rattle.disco_hub.specs.Press.{change}
use Rattle.disco_hub.specs.State.{HubStandsFor, rules_of}
use Rattle.disco_hub.specs.Transitions.{KeepsRest}
use Rattle.disco_message.specs.ReplyText.{ReplyView}
use Rattle.disco_calls.specs.Calls.{CallView, loads, shows, shows_id, writes, lacks, call_view}
use Rattle.disco_calls.specs.declared.call.Call.{Call}
use Rattle.disco_press.specs.Desks.{CountsBySeat, DeskState, Notes, NotesNothing, note_done, notes_of}
use Rattle.disco_press.specs.Seats.{SeatState}
use Rattle.disco_server.specs.Desks.{IsAnsweredBySome, IsAnsweredOn}
use Rattle.disco_server.specs.Replies.{IsAnswered, IsReply, Replies, refusal_answer}
use Rattle.disco_server.proofs.HubAnswers.{changes_by, changes_of, refused_so}

-- ---- what asks for no operation

abbrev pub IsQuiet : Result CallView Fault → Type 0
IsQuiet (Ok (writes ask)) = ⊥
IsQuiet _ = Unit {0}

still_by : (rules : Rules) (p q : Past) (asked : Result CallView Fault) (now : ℕ) (y : ReplyView) → IsQuiet asked → Replies rules p asked now y q → q ≡ p
still_by rules p q (Err fault) now y quiet is = is.1
still_by rules p q (Ok (lacks allow)) now y quiet is = is.1
still_by rules p q (Ok (loads key)) now y quiet is = is.1
still_by rules p q (Ok (shows key form)) now y quiet is = is.1
still_by rules p q (Ok (shows_id id form)) now y quiet is = is.1
still_by rules p q (Ok (writes ask)) now y quiet is = absurd quiet

still : (rules : Rules) (p q : Past) (asked : Result CallView Fault) (now : ℕ) (y : ReplyView) → IsQuiet asked → IsReply rules p asked now y q → q ≡ p
still rules p q asked now y quiet (inl is) = still_by rules p q asked now y quiet is
still rules p q asked now y quiet (inr none) = none.1

pub quiet_on : (old new : DeskState) (before after : SeatState) (asked : Result CallView Fault) (now : ℕ) (y : ReplyView) → IsQuiet asked → NotesNothing old new → after.changes ≡ before.changes → IsAnswered old.hub new.hub asked now y
    → IsAnsweredOn old new before after asked now y
quiet_on old new before after asked now y quiet nothing same is = record {
  changes = [];
  noted = (nothing.0, nothing.1 ∙ sym (append-nil old.pending));
  counted = omega (arith, same);
  by_seat = (omega (arith, nothing.2.0), nothing.2.1);
  replied = λ p stands.
      let r = is p stands in
      (r.0, r.1, ap history (still (rules_of old.hub) p r.0 asked now y quiet r.1) ∙ sym (append-nil (history p)), r.2);
}

-- ---- operations

noted_is : (o : Option Entry) → map change (changes_of o) ≡ note_done o
noted_is None = refl
noted_is (Some c) = refl

many_is : (o : Option Entry) → length (note_done o) ≡ length (changes_of o)
many_is None = refl
many_is (Some c) = refl

module _ (old new : DeskState) where
  pub notes : (r : Result Applied Fault) → IfOk r (λ a. Notes (note_done (done_by a)) old new) → OnErr r (NotesNothing old new) → Notes (map change (changes_by r)) old new
  notes (Ok a) noted nothing = (noted.0, noted.1 ∙ ap (λ ns. old.pending ++ ns) (sym (noted_is (done_by a))))
  notes (Err e) noted nothing = (nothing.0, nothing.1 ∙ sym (append-nil old.pending))

-- the desk counts what its seat counts
pub counts_too : (old new : DeskState) (r : Result Applied Fault) → IfOk r (λ a. CountsBySeat (length (note_done (done_by a))) old new) → OnErr r (NotesNothing old new) → CountsBySeat (length (changes_by r)) old new
counts_too old new (Ok a) counted nothing = (counted.0 ∙ ap (λ n. old.by_seats + n) (many_is (done_by a)), counted.1)
counts_too old new (Err e) counted nothing = (omega (arith, nothing.2.0), nothing.2.1)

pub counts : (before after : SeatState) (r : Result Applied Fault) → IfOk r (λ a. after ≡ record before { changes = before.changes + length (note_done (done_by a)) }) → OnErr r (after ≡ before)
    → after.changes ≡ before.changes + length (changes_by r)
counts before after (Ok a) counted same = ap (λ (s : SeatState). s.changes) counted ∙ ap (λ n. before.changes + n) (many_is (done_by a))
counts before after (Err e) counted same = omega (arith, ap (λ (s : SeatState). s.changes) same)

-- no memory is there for it
pub no_memory : (d : DeskState) (s : SeatState) (asked : Result CallView Fault) (now : ℕ) (y : ReplyView) → y ≡ refusal_answer OutOfMemory → IsAnsweredOn d d s s asked now y
no_memory d s asked now y shown = record {
  changes = [];
  noted = (refl, sym (append-nil d.pending));
  counted = omega arith;
  by_seat = (omega arith, refl);
  replied = λ p stands. (p, inr (shown, refl), sym (append-nil (history p)), stands);
}

-- what holds of a refusal holds where memory was lacking
pub lacked_memory : (P : Type 0) (r : Result Applied Fault) → r ≡ Err OutOfMemory → OnErr r P → P
lacked_memory P r is so = subst (λ (r : Result Applied Fault). OnErr r P) is so

-- a refused try came before
pub tried_before : (old mid new : DeskState) (before between after : SeatState) (asked : Result CallView Fault) (now : ℕ) (y : ReplyView) → ((p : Past) → HubStandsFor old.hub p → HubStandsFor mid.hub p) → NotesNothing old mid → KeepsRest old.hub mid.hub → between ≡ before
    → IsAnsweredOn mid new between after asked now y → IsAnsweredOn old new before after asked now y
tried_before old mid new before between after asked now y stood nothing rest same so = record {
  changes = so.changes;
  noted = (so.noted.0 ∙ nothing.0, so.noted.1 ∙ ap (λ l. l ++ map change so.changes) nothing.1);
  counted = so.counted ∙ ap (λ (s : SeatState). s.changes + length so.changes) same;
  by_seat = (so.by_seat.0 ∙ ap (λ n. n + length so.changes) nothing.2.0, so.by_seat.1 ∙ nothing.2.1);
  replied = λ p stands.
      let r = so.replied p (stood p stands) in
      (r.0, subst (λ rules. IsReply rules p asked now y r.0) rest.rules r.1, r.2, r.3);
}

-- ---- a request that was read

pub call_on : (old new : DeskState) (before after : SeatState) (called : Result Call Fault) (call : Call) → called ≡ Ok call → (now : ℕ) (y : ReplyView) → IsAnsweredOn old new before after (Ok (call_view call)) now y → (asked : Result CallView Fault) → Gives call_view called asked → IsAnsweredOn old new before after asked now y
call_on old new before after called call is now y so asked gives =
    let wanted = subst (λ r. Gives call_view r asked) is gives in
    subst (λ a. IsAnsweredOn old new before after a now y) (sym wanted) so

-- a request that is refused for itself
pub refused_on : (d : DeskState) (s : SeatState) (called : Result Call Fault) (e : Fault) → called ≡ Err e → (now : ℕ) (y : ReplyView) → y ≡ refusal_answer e → (asked : Result CallView Fault) → Gives call_view called asked → IsAnsweredOn d d s s asked now y
refused_on d s called e is now y shown asked gives = record {
  changes = [];
  noted = (refl, sym (append-nil d.pending));
  counted = omega arith;
  by_seat = (omega arith, refl);
  replied = refused_so d.hub asked e now y (subst (λ r. Gives call_view r asked) is gives) shown;
}

-- ---- before and after

-- the seat learns, and then learns again
pub learnt : (old new new' : DeskState) (before mid after after' : SeatState) (asked : Result CallView Fault) (now : ℕ) (y : ReplyView) → IsAnsweredOn old new mid after asked now y → mid.changes ≡ before.changes → new' ≡ new → after'.changes ≡ after.changes
    → IsAnsweredOn old new' before after' asked now y
learnt old new new' before mid after after' asked now y so first stays same = subst (λ (d : DeskState). IsAnsweredOn old d before after' asked now y) (sym stays) (record {
  changes = so.changes;
  noted = so.noted;
  counted = same ∙ so.counted ∙ ap (λ n. n + length so.changes) first;
  by_seat = so.by_seat;
  replied = so.replied;
})

-- a look came before
pub looked_before : (before mid after : SeatState) (asked : Result CallView Fault) (now : ℕ) (y : ReplyView) → mid.changes ≡ before.changes → IsPrefix before.known mid.known → mid.heard ≡ before.heard → IsAnsweredBySome mid after asked now y → IsAnsweredBySome before after asked now y
looked_before before mid after asked now y same knew heard so =
    let was = so.by in
    record {
      old = so.old;
      new = so.new;
      by = record {
        valid = was.valid;
        bound = subst (λ n. n ≤ so.old.hub.core.registry.version) same was.bound;
        knew = prefix_trans before.known mid.known so.old.published knew was.knew;
        heard = subst (λ l. IsPrefix l (notes_of so.old)) heard was.heard;
        answered = record {
          changes = was.answered.changes;
          noted = was.answered.noted;
          counted = was.answered.counted ∙ ap (λ n. n + length was.answered.changes) same;
          by_seat = was.answered.by_seat;
          replied = was.answered.replied;
        };
        kept = was.kept;
        knows = was.knows;
        hears = was.hears;
      };
    }

-- something that gives this was asked for
pub some_asked : (called : Result Call Fault) → (asked : Result CallView Fault) × Gives call_view called asked
some_asked (Ok call) = (Ok (call_view call), refl)
some_asked (Err e) = (Err e, λ other. refl)
