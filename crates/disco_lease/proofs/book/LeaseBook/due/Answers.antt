use Rattle.std.proofs.Common.{◌≡◌, ℕ, true, cond, List, [], map, take, sym, ap, ◌∙◌}
use Rattle.std.specs.FinMap.{keys}
use Rattle.disco_values.specs.declared.key.Key.{Key}
use Rattle.disco_lease.specs.Due.{due_at, lets_expire, most_taken, overdue, taken}
use Rattle.disco_lease.specs.Leases.{Leases}
use Rattle.disco_lease.specs.contracts.book.LeaseBook.{the_view}
use Rattle.disco_lease.proofs.book.LeaseBook.due.Goals as goal

of_most : (v : Leases) (xs ys : List Key) (held now n : ℕ) → lets_expire v.closed ≡ true → n ≡ most_taken held → ys ≡ take n xs → xs ≡ map (λ (d : ℕ × Key). d.1) (keys (overdue (due_at v) (keys v.places) now))
    → ys ≡ taken v.closed (due_at v) (keys v.places) held now
of_most v xs ys held now n lets most first all =
    let those = take (most_taken held) (map (λ (d : ℕ × Key). d.1) (keys (overdue (due_at v) (keys v.places) now))) in
    first ∙ (λ i. take (most i) (all i)) ∙ sym (ap (λ b. cond b those []) lets)

pub returns-clause-keys : goal.returns-clause-keys
returns-clause-keys c =
    rw (← c.self.view_is)
    (of_most (the_view c.self.inside) c.in_ok-found.found.items c.truncate.new.self.items c.args.held c.args.now c.most_taken.result (ap (λ (x : Leases). lets_expire x.closed) c.self.view_is ∙ (c.takes_none.ensures.some c.if-takes_none.false).0) c.most_taken.ensures c.truncate.ensures.items c.in_ok-found.ensures)
