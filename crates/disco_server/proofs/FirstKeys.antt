-- The first keys of a run, and those behind them.
use Rattle.std.proofs.Common.{◌≡◌, ◌≤◌, ◌<◌, ℕ, true, List, [], ◌∷◌, ◌++◌, drop, length, take, Option, Some, None, refl, sym, ap, subst, ◌∙◌, append-nil, append_assoc, arith}
use Rattle.std.proofs.lemmas.List.{drop_all, drop_at, take_all, take_at}
use Rattle.disco_values.specs.declared.fault.Fault.{Fault}
use Rattle.disco_values.specs.declared.key.Key.{Key}
use Rattle.disco_core.specs.Past.{Past}
use Rattle.disco_hub.specs.Expiry.{Expires, cancelled, overdue_among}
use Rattle.disco_hub.specs.State.{HubStandsFor, rules_of}
use Rattle.disco_hub.specs.Transitions.{KeepsRest}
use Rattle.disco_press.specs.Desks.{DeskState, NotesCancels}
use Rattle.disco_server.specs.Tasks.{LetsRunOut, is_left, left_after, most_held}

module _ {X : Type 0} (n : ℕ) (next behind all : List X) (same : next ++ behind ≡ all) where
  -- as many as there may be are next
  pub next_full : length next ≡ n → next ≡ take n all
  next_full many = sym (ap (take n) (sym same) ∙ take_at next behind n many)

  pub behind_full : length next ≡ n → behind ≡ drop n all
  behind_full many = sym (ap (drop n) (sym same) ∙ drop_at next behind n many)

  -- none is behind those that are next
  pub next_short : behind ≡ [] → length next ≤ n → next ≡ take n all
  next_short none few = sym (ap (take n) (sym same ∙ ap (λ l. next ++ l) none ∙ append-nil next) ∙ take_all n next few)

  pub behind_short : behind ≡ [] → length next ≤ n → behind ≡ drop n all
  behind_short none few = none ∙ sym (ap (drop n) (sym same ∙ ap (λ l. next ++ l) none ∙ append-nil next) ∙ drop_all n next few)

-- one more is next
pub one_moved : {X : Type 0} (next behind rest all : List X) (x : X) → next ++ behind ≡ all → behind ≡ x ∷ rest → (next ++ x ∷ []) ++ rest ≡ all
one_moved next behind rest all x same is = append_assoc next (x ∷ []) rest ∙ ap (λ l. next ++ l) (sym is) ∙ same

-- the first keys of a run were looked at
module _ (now : ℕ) (old new : DeskState) (before first behind : List Key) (gone : ℕ) (stopped : Option Fault) (firsts : first ≡ take most_held before) (others : behind ≡ drop most_held before)
    (history : Expires old.hub new.hub now (λ p. overdue_among p now first) gone stopped) (noted : NotesCancels old new (λ p. cancelled (rules_of old.hub) p now (overdue_among p now first) gone)) (rest : KeepsRest old.hub new.hub) where
  looked : (after : List Key) → ((p : Past) → HubStandsFor old.hub p → after ≡ left_after (overdue_among p now first) behind stopped) → LetsRunOut now old new before after stopped
  looked after left = record {
    gone = gone;
    history = subst (λ (ks : List Key). Expires old.hub new.hub now (λ p. overdue_among p now ks) gone stopped) firsts history;
    noted = subst (λ (ks : List Key). NotesCancels old new (λ p. cancelled (rules_of old.hub) p now (overdue_among p now ks) gone)) firsts noted;
    left = λ p stands.
        subst (λ (ks : List Key). after ≡ left_after (overdue_among p now ks) (drop most_held before) stopped) firsts
        (subst (λ (ks : List Key). after ≡ left_after (overdue_among p now first) ks stopped) others (left p stands));
    rest = rest;
  }

  -- all of them that have run out are gone
  pub all_gone : stopped ≡ None → LetsRunOut now old new before behind None
  all_gone is = subst (LetsRunOut now old new before behind) is (looked behind (λ p stands. ap (left_after (overdue_among p now first) behind) (sym is)))

  -- it stopped, and those that had run out are first again
  pub stopped_so : (e : Fault) (next : List Key) → stopped ≡ Some e → ((p : Past) → HubStandsFor old.hub p → next ≡ overdue_among p now first) → LetsRunOut now old new before (next ++ behind) (Some e)
  stopped_so e next is those = subst (LetsRunOut now old new before (next ++ behind)) is
      (looked (next ++ behind) (λ p stands. ap (λ l. l ++ behind) (those p stands) ∙ ap (left_after (overdue_among p now first) behind) (sym is)))

-- ---- whether a key is left

pub left_next : (next behind : List Key) → 0 < length next → is_left (next ++ behind) ≡ true
left_next [] behind some = absurd (omega (arith, some))
left_next (k ∷ ks) behind some = refl
