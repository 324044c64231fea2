use Rattle.std.proofs.Common.{ap, sym, ◌∙◌, arith}
use Rattle.std.specs.BTreeMap.{insert_entry}
use Rattle.std.specs.FinMap.{get}
use Rattle.std.specs.Option.{option_or}
use Rattle.std.proofs.lemmas.Bool.{lt-ltb}
use Rattle.disco_values.specs.declared.key.Key.{Key}
use Rattle.disco_lease.specs.Due.{due_cmp}
use Rattle.disco_lease.specs.Seen.{at_pair, seen_due}
use Rattle.disco_lease.proofs.CollectedKeys.{get_more, pair_is}
use Rattle.disco_lease.proofs.overdue.add.Goals as goal

pub returns-in_ok-insert : goal.returns-in_ok-insert
returns-in_ok-insert c = λ q.
    let k : Key = record { app = c.args.app.now; id = c.args.id.now } in
    let over = lt-ltb c.due-due.result c.args.now (omega (arith, c.if-due-from.true, c.from.ensures)) in
    let is = pair_is c.args.now k c.args.place.now c.in-Some.lease c.due-due.result c.in-Some.is c.due-due.ensures over in
    get_more c.args.overdue.now.entries c.insert.new.self.entries (c.due-due.result, k) q (c.in_ok-insert.ensures.entries ∙ ap (λ (x : Key). insert_entry due_cmp c.args.overdue.now.entries (c.due-due.result, x) tt) c.in_ok-key_of.ensures)
    ∙ ap (λ o. option_or (at_pair q o) (get (seen_due c.args.overdue.now.entries) q)) (sym is)
