use Rattle.std.proofs.Common.{◌≡◌, ◌≤◌, ◌<◌, ◌+◌, ◌-◌, ℕ, false, true, List, [], ◌∷◌, ◌++◌, drop, length, map, IsSome, Some, refl, sym, ap, subst, ◌∙◌, arith}
use Rattle.std.specs.FinMap.{get}
use Rattle.std.specs.VecDeque.{deque_len}
use borrow.Author.Tests.{leb-true, leb-false}
use Rattle.std.proofs.lemmas.List.{drop-map, length-map, map-append}
use Rattle.disco_values.specs.declared.key.Key.{Key}
use Rattle.disco_history.specs.Change.{Entry, key_of, change_view}
use Rattle.disco_history.specs.Slots.{AltersAt, written}
use Rattle.disco_queue.specs.Numbers.{AreNumbered, number_in}
use Rattle.disco_queue.specs.Queue.{KeepsHistory, Queue, version}
use Rattle.disco_queue.specs.Seen.{change_of, timed}
use Rattle.disco_queue.specs.Superseded.{AreSuperseded, IsFollowedAt}
use Rattle.disco_queue.specs.declared.kept.Kept.{Kept}
use Rattle.disco_queue.specs.contracts.queue.ChangedQueue.{the_view}
use Rattle.disco_queue.proofs.Histories.{keeps_dropped, keeps_pushed}
use Rattle.disco_queue.proofs.LastNumbers.{none_written, number_written}
use Rattle.disco_queue.proofs.Superseded.{earlier_followed, superseded_more}
use Rattle.disco_queue.proofs.queue.ChangedQueue.push.Goals as goal
use Rattle.disco_queue.proofs.queue.ChangedQueue.push.Goals.{then-is_full, else-is_full}

pub invariant_of-self : goal.invariant_of-self
invariant_of-self c =
    let i = c.self.inside in
    let j = c.if-is_full.self-inside in
    let x = change_view c.args.change in
    let here = map change_of i.kept.items in
    let number : c.version-number.result + 1 ≡ i.base + length here + 1 =
    omega (arith, c.version-number.ensures.sum, ap version c.self.view_is, length-map i.kept.items change_of, length-map i.kept.items timed) in
    let place = subst (λ (q : Queue). IsSome (get q.places (key_of x))) (sym c.self.view_is) c.requires.place in
    let alters = subst (λ (k : Key). AltersAt (written (c.version-number.result + 1)) k i.numbers c.put-earlier.new.self) c.key.ensures c.put-earlier.ensures.put in
    let put : AreNumbered c.put-earlier.new.self i.base (here ++ x ∷ []) = number_written i.numbers c.put-earlier.new.self i.base (c.version-number.result + 1) here x number place alters c.self.invariant.1 in
    let new : AreNumbered j.numbers j.base (map change_of j.kept.items ++ x ∷ []) = elim c.if-is_full.branch [
      | then-is_full w ↦ rw (w.self-inside-is) (w.drop_front.ensures.numbers (x ∷ []) put)
      | else-is_full w ↦ rw (w.self-inside-is) put
    ] in
    let room : (j.max ≡ i.max) × (deque_len j.kept + 1 ≤ i.max) × (j.base + deque_len j.kept ≡ i.base + deque_len i.kept) = elim c.if-is_full.branch [
      | then-is_full w ↦ rw (w.self-inside-is) (refl, omega (arith, w.drop_front.ensures.len, c.self.invariant.0.few), omega (arith, w.drop_front.ensures.len, w.drop_front.ensures.base))
      | else-is_full w ↦
          let few : length c.args.self.now.kept < c.args.self.now.max = leb-false c.args.self.now.max (length c.args.self.now.kept) (sym w.if-is_full.ensures) in
          rw (w.self-inside-is) (refl, omega (arith, few, ap (λ (q : Queue). q.max) c.self.view_is, ap (λ (q : Queue). length q.kept) c.self.view_is, length-map i.kept.items timed, i.kept.ok.0), refl)
    ] in (
      record { some = omega (arith, room.0, c.self.invariant.0.some); few = omega (arith, room.0, room.1, c.push_back_reserved.ensures.len, c.supersede.ensures.len); fits = omega (arith, room.2, c.push_back_reserved.ensures.len, c.supersede.ensures.len, c.requires.version, ap version c.self.view_is, length-map i.kept.items timed, i.kept.ok.0) },
      subst (λ (es : List Entry). AreNumbered j.numbers j.base es) (sym (c.supersede.ensures.entries ∙ ap (map change_of) c.push_back_reserved.ensures.items ∙ map-append change_of j.kept.items _)) new,
      c.supersede.ensures.superseded,
    )

pub supersede-requires-clause-superseded : goal.supersede-requires-clause-superseded
supersede-requires-clause-superseded c =
    let j = c.if-is_full.self-inside in
    let here : AreSuperseded j.kept.items = elim c.if-is_full.branch [
      | then-is_full w ↦ rw (w.self-inside-is) w.drop_front.ensures.superseded
      | else-is_full w ↦ rw (w.self-inside-is) c.self.invariant.2
    ] in
    subst AreSuperseded (sym c.push_back_reserved.ensures.items) (superseded_more j.kept.items _ (λ noted. let bad : false ≡ true = noted in cc) here)

pub supersede-requires-clause-followed : goal.supersede-requires-clause-followed
supersede-requires-clause-followed c =
    let i = c.self.inside in
    let j = c.if-is_full.self-inside in
    let number = c.put-earlier.result in
    let is : number ≡ number_in i.numbers (key_of (change_view c.args.change)) = c.put-earlier.ensures.before ∙ ap (number_in i.numbers) c.key.ensures in
    let left : (d : ℕ) × (j.base ≡ i.base + d) × (j.kept.items ≡ drop d i.kept.items) = elim c.if-is_full.branch [
      | then-is_full w ↦ rw (w.self-inside-is) (1, w.drop_front.ensures.base, w.drop_front.ensures.kept)
      | else-is_full w ↦ rw (w.self-inside-is) (0, omega arith, refl)
    ] in
    λ after. subst (λ (ks : List Kept). IsFollowedAt ks (number - j.base - 1)) (sym c.push_back_reserved.ensures.items)
    (earlier_followed i.numbers i.base j.base left.0 number i.kept.items j.kept.items _ c.self.invariant.1 is left.1 left.2 after)

pub returns-clause-history : goal.returns-clause-history
returns-clause-history c h keeps =
    let i = c.self.inside in
    let j = c.if-is_full.self-inside in
    let before : KeepsHistory (the_view i) h = subst (λ (q : Queue). KeepsHistory q h) (sym c.self.view_is) keeps in
    let between : KeepsHistory (the_view j) h = elim c.if-is_full.branch [
      | then-is_full w ↦
          let full : c.args.self.now.max ≤ length c.args.self.now.kept = leb-true c.args.self.now.max (length c.args.self.now.kept) (sym w.if-is_full.ensures) in
          let some : 1 ≤ length (map timed i.kept.items) = omega (arith, full, c.self.invariant.0.some, ap (λ (q : Queue). q.max) c.self.view_is, ap (λ (q : Queue). length q.kept) c.self.view_is) in
          rw (w.self-inside-is) (keeps_dropped (the_view i) _ h 1 some w.drop_front.ensures.base (ap (map timed) w.drop_front.ensures.kept ∙ sym (drop-map timed 1 i.kept.items)) before)
      | else-is_full w ↦ rw (w.self-inside-is) (record { contents = before.contents; version = before.version })
    ] in
    keeps_pushed (the_view j) _ h (change_view c.args.change, c.args.now) refl (c.supersede.ensures.changes ∙ ap (map timed) c.push_back_reserved.ensures.items ∙ map-append timed j.kept.items _) between

pub returns-clause-empty : goal.returns-clause-empty
returns-clause-empty c =
    let i = c.self.inside in
    let put = none_written (c.version-number.result + 1) c.key.result.now i.numbers c.put-earlier.new.self (omega arith) c.put-earlier.ensures.put in
    λ k is. subst (λ (q : Queue). get q.places k ≡ Some 0) c.self.view_is (elim c.if-is_full.branch [
      | then-is_full w ↦ put k (w.drop_front.ensures.empty k (rw (w.self-inside-is) at is))
      | else-is_full w ↦ put k (rw (w.self-inside-is) at is)
    ])
