-- One cancel after another, each noted.
use Rattle.std.proofs.Common.{◌≡◌, ℕ, ◌+◌, List, [], ◌++◌, length, map, Option, Some, None, Ok, slice_get, refl, sym, ap, subst, ◌∙◌, append-nil, append_assoc, arith, length-append}
use Rattle.std.proofs.lemmas.List.{map-append}
use Rattle.disco_values.specs.declared.key.Key.{Key}
use Rattle.disco_history.specs.Change.{Entry}
use Rattle.disco_registry.specs.Commit.{done_by}
use Rattle.disco_registry.specs.Op.{cancel}
use Rattle.disco_registry.specs.declared.op.Applied.{Applied}
use Rattle.disco_core.specs.Past.{Past, history, with_done}
use Rattle.std.specs.FinMap.{get}
use Rattle.disco_history.specs.Registry.{registry_of}
use Rattle.disco_hub.specs.Kept.{Forgets}
use Rattle.disco_hub.specs.Expiry.{cancel_of, cancelled}
use Rattle.disco_hub.specs.Press.{change}
use Rattle.disco_hub.specs.State.{HubStandsFor, rules_of}
use Rattle.disco_hub.specs.Cancelling.{Cancels, HasCancelled}
use Rattle.disco_hub.specs.Transitions.{Writes}
use Rattle.disco_hub.proofs.Cancels.{at_history, left, says}
use Rattle.disco_press.specs.Desks.{CountsByNone, DeskState, Notes, NotesCancels, note_done}
use Rattle.disco_press.proofs.KeptNotes.{changes_done, history_done, noted_is}

-- ---- one cancel

-- one cancel is accepted, and its change is noted
pub record CancelsOne (old new : DeskState) (now : ℕ) (k : Key) : Type 0 where
  pub change : Option Entry
  pub noted : Notes (note_done change) old new
  pub counted : CountsByNone (length (note_done change)) old new
  pub accepted : (p : Past) → HubStandsFor old.hub p → cancel_of (rules_of old.hub) p now k ≡ Ok change
  pub stands : (p : Past) → HubStandsFor old.hub p → HubStandsFor new.hub (with_done (rules_of old.hub).queue p now (cancel k) change)
  pub docs : (p : Past) → HubStandsFor old.hub p → Forgets (get (registry_of (history p))) change old.hub.docs new.hub.docs

pub one_gone : (old new : DeskState) (now : ℕ) (k key : Key) (a : Applied) → key ≡ k → Writes old.hub new.hub (cancel key) now (done_by a) → Notes (note_done (done_by a)) old new → CountsByNone (length (note_done (done_by a))) old new → CancelsOne old new now k
one_gone old new now k key a same done noted counted = subst (λ (x : Key). CancelsOne old new now x) same (record {
  change = done_by a;
  noted = noted;
  counted = counted;
  accepted = λ p s. sym (at_history old.hub p key now s) ∙ done.accepted;
  stands = done.history;
  docs = done.docs;
})

pub cancels : (old new : DeskState) (now : ℕ) (k : Key) → CancelsOne old new now k → Cancels old.hub new.hub now k
cancels old new now k one = λ p stands. (one.change, one.accepted p stands, one.stands p stands, one.docs p stands)

many_done : (o : Option Entry) → length (note_done o) ≡ length (changes_done o)
many_done None = refl
many_done (Some c) = refl

-- ---- the notes of many

pub noted_nothing : (d : DeskState) (then : Past → Past) → ((p : Past) → HubStandsFor d.hub p → then p ≡ p) → NotesCancels d d then
noted_nothing d then same = record {
  changes = [];
  noted = (refl, sym (append-nil d.pending));
  counted = (refl, omega arith);
  cancels = λ p stands. ap history (same p stands) ∙ sym (append-nil (history p));
}

module _ (old mid new : DeskState) (now : ℕ) (ks : List Key) (i : ℕ) (k : Key) (there : slice_get ks i ≡ Some k) (did : HasCancelled old.hub mid.hub now ks i) (so_far : NotesCancels old mid (λ p. cancelled (rules_of old.hub) p now ks i)) where
  pub noted_more : CancelsOne mid new now k → NotesCancels old new (λ p. cancelled (rules_of old.hub) p now ks (i + 1))
  noted_more one = record {
    changes = so_far.changes ++ changes_done one.change;
    noted = (
      one.noted.0 ∙ so_far.noted.0,
      one.noted.1 ∙ (λ j. so_far.noted.1 j ++ sym (noted_is one.change) j) ∙ append_assoc old.pending (map change so_far.changes) (map change (changes_done one.change))
          ∙ ap (λ ns. old.pending ++ ns) (sym (map-append change so_far.changes (changes_done one.change))),
    );
    counted = (one.counted.0 ∙ so_far.counted.0, omega (arith, one.counted.1, so_far.counted.1, many_done one.change, length-append so_far.changes (changes_done one.change)));
    cancels = λ p stands.
        let q = cancelled (rules_of old.hub) p now ks i in
        let accepted = says old.hub mid.hub new.hub now ks i k there did p (Ok one.change) (one.accepted q (did.stands p stands)) in
        ap history (sym (left old.hub mid.hub new.hub now ks i k there did p one.change accepted))
        ∙ history_done (rules_of mid.hub).queue q now (cancel k) one.change
        ∙ ap (λ h. h ++ changes_done one.change) (so_far.cancels p stands)
        ∙ append_assoc (history p) so_far.changes (changes_done one.change);
  }
