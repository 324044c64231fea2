-- The history of the run that is running goes on from event to event, and that of each other run stays.
use Rattle.std.proofs.Common.{◌≡◌, ℕ, zero, suc, ◌<◌, ◌≤◌, Bool, true, false, cond, eqb, List, [], Option, Some, None, slice_get, refl, sym, ap, subst, ◌∙◌, arith}
use Rattle.std.proofs.lemmas.Bool.{eq-eqb, eqb-true, ne_eqb}
use Rattle.disco_core.specs.Past.{history}
use Rattle.disco_core.specs.State.{Rules}
use Rattle.disco_client.specs.Tracks.{Histories}
use Rattle.disco_world.specs.Events.{Effect, World, restarts, effect}
use Rattle.disco_world.specs.Outcomes.{after, after_at, history_of, world}
use Rattle.disco_world.specs.Steps.{AreAnswered, IsAnswer, goes_on}
use Rattle.disco_world.specs.declared.event.Event.{Event}
use Rattle.disco_world.specs.declared.event.Reply.{Reply}
use Rattle.disco_world.specs.declared.event.Reply.TheVariants.{Restarted}
use Rattle.disco_world.proofs.Histories.{Place, below, at, beyond, place_of}
use Rattle.disco_world.proofs.EffectParts.{GoesOn, parts}
use Rattle.disco_world.proofs.Known.{Extends, Grow, extends_on, extends_same}

-- ---- all histories

pub grow_same : (hs : Histories) → Grow hs hs
grow_same hs = λ r. extends_same (hs r)

pub grow_on : (hs gs fs : Histories) → Grow hs gs → Grow gs fs → Grow hs fs
grow_on hs gs fs one two = λ r. extends_on (hs r) (gs r) (fs r) (one r) (two r)

-- that of the run that is running is what has happened
pub now_is : (w : World) → history_of w w.past.run ≡ history w.past
now_is w = ap (λ b. cond b (history w.past) (w.ended w.past.run)) (eq-eqb w.past.run w.past.run refl)

-- that of a later run is what is said of it
later_is : (w : World) (n : ℕ) → w.past.run < n → history_of w n ≡ w.ended n
later_is w n lt = ap (λ b. cond b (history w.past) (w.ended n)) (ne_eqb n w.past.run (λ e. omega (arith, e, lt)))

-- no later run has been
abbrev pub AreNumbered : World → Type 0
AreNumbered w = (n : ℕ) → w.past.run < n → w.ended n ≡ []

-- where the run stays
module _ (w v : World) (run : v.past.run ≡ w.past.run) where
  grows_in : v.ended ≡ w.ended → Extends (history w.past) (history v.past) → Grow (history_of w) (history_of v)
  grows_in ended ext = λ n. subst (λ (x : ℕ × Histories). Extends (history_of w n) (cond (eqb n x.0) (history v.past) (x.1 n))) (λ i. (sym run i, sym ended i)) (by n (eqb n w.past.run))
    where
      by : (n : ℕ) (b : Bool) → Extends (cond b (history w.past) (w.ended n)) (cond b (history v.past) (w.ended n))
      by n true = ext
      by n false = extends_same (w.ended n)

  numbered_in : v.ended ≡ w.ended → AreNumbered w → AreNumbered v
  numbered_in ended numbered = λ n lt. ap (λ hs. hs n) ended ∙ numbered n (omega (arith, run, lt))

-- where a later one begins
module _ (w : World) (run : ℕ) (numbered : AreNumbered w) (new : w.past.run < run) where
  none_yet : (n : ℕ) → w.past.run < n → history_of w n ≡ []
  none_yet n lt = later_is w n lt ∙ numbered n lt

  grows_anew : Grow (history_of w) (λ n. cond (eqb n run) [] (history_of w n))
  grows_anew n = by (eqb n run) refl
    where
      by : (b : Bool) → eqb n run ≡ b → Extends (history_of w n) (cond b [] (history_of w n))
      by true is = let same : n ≡ run = eqb-true n run is in subst (λ h. Extends h []) (sym (none_yet n (omega (arith, same, new)))) (extends_same [])
      by false other = extends_same (history_of w n)

module _ (rules : Rules) (w : World) (numbered : AreNumbered w) where
  on : (what : Effect) (r : Reply) → goes_on what r ≡ true → GoesOn w (after rules w what r).past (after rules w what r).ended
  on what r goes = (parts rules w what r).goes goes

  goes_so : (what : Effect) (r : Reply) → goes_on what r ≡ true → Grow (history_of w) (history_of (after rules w what r))
  goes_so what r goes = let so = on what r goes in grows_in w (after rules w what r) so.run so.ended_is so.extends

  pub grows : (what : Effect) (r : Reply) → IsAnswer rules w what r → Grow (history_of w) (history_of (after rules w what r))
  grows (restarts run) (Restarted s) answer = grows_anew w run numbered answer.may.1
  grows what r answer = goes_so what r refl

  stays_so : (what : Effect) (r : Reply) → goes_on what r ≡ true → AreNumbered (after rules w what r)
  stays_so what r goes = let so = on what r goes in numbered_in w (after rules w what r) so.run so.ended_is numbered

  pub numbered_after : (what : Effect) (r : Reply) → IsAnswer rules w what r → AreNumbered (after rules w what r)
  numbered_after (restarts run) (Restarted s) answer = λ n lt. none_yet w run numbered answer.may.1 n (omega (arith, lt, answer.may.1))
  numbered_after what r answer = stays_so what r refl

-- ---- from event to event

module _ (rules : Rules) (first_run : ℕ) (es : List Event) (rs : List Reply) (answers : AreAnswered rules first_run es rs) where
  abbrev here : ℕ → World
  here i = world rules first_run es rs i

  one_numbered : (i : ℕ) → AreNumbered (here i) → (e : Option Event) → slice_get es i ≡ e → (r : Option Reply) → slice_get rs i ≡ r → AreNumbered (after_at rules (here i) e r)
  one_numbered i numbered (Some e) event (Some r) reply = numbered_after rules (here i) numbered (effect rules (here i) e) r (answers i e r event reply)
  one_numbered i numbered None event r reply = numbered
  one_numbered i numbered (Some e) event None reply = numbered

  pub numbered_at : (i : ℕ) → AreNumbered (here i)
  unfolding world
  numbered_at zero = λ n lt. refl
  numbered_at (suc i) = one_numbered i (numbered_at i) (slice_get es i) refl (slice_get rs i) refl

  one_grows : (i : ℕ) (e : Option Event) → slice_get es i ≡ e → (r : Option Reply) → slice_get rs i ≡ r → Grow (history_of (here i)) (history_of (after_at rules (here i) e r))
  one_grows i (Some e) event (Some r) reply = grows rules (here i) (numbered_at i) (effect rules (here i) e) r (answers i e r event reply)
  one_grows i None event r reply = grow_same (history_of (here i))
  one_grows i (Some e) event None reply = grow_same (history_of (here i))

  on_to : (j i : ℕ) → (j ≤ i → Grow (history_of (here j)) (history_of (here i))) → Place j (suc i) → j ≤ suc i → Grow (history_of (here j)) (history_of (here (suc i)))
  unfolding world
  on_to j i so (below lt) le = grow_on _ _ _ (so (omega (arith, lt))) (one_grows i (slice_get es i) refl (slice_get rs i) refl)
  on_to j i so (at is) le = subst (λ n. Grow (history_of (here n)) (history_of (here (suc i)))) (sym is) (grow_same (history_of (here (suc i))))
  on_to j i so (beyond lt) le = absurd (omega (arith, lt, le))

  pub between : (j i : ℕ) → j ≤ i → Grow (history_of (here j)) (history_of (here i))
  between j zero le = let is : 0 ≡ j = omega (arith, le) in subst (λ n. Grow (history_of (here n)) (history_of (here 0))) is (grow_same (history_of (here 0)))
  between j (suc i) le = on_to j i (between j i) (place_of j (suc i)) le
