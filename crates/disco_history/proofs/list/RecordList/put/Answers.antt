use Rattle.std.proofs.Common.{sym, ap, ◌∙◌, arith, cond, is_ok}
use Rattle.std.specs.List.{insert}
use Rattle.std.specs.FinMap as map
use Rattle.disco_history.specs.Held.{entry_of}
use Rattle.disco_history.specs.List.{map_of, key_in}
use Rattle.disco_history.specs.Room.{Room}
use Rattle.disco_history.proofs.Keys.{keys_total, exact_keys}
use Rattle.disco_history.proofs.SortedBy.{get_gap, inserted_at, inserted_gap}
use Rattle.disco_history.proofs.list.RecordList.put.Goals as goal

pub invariant_of-self : goal.invariant_of-self
invariant_of-self c =
    let at = rw (c.deref.ensures.value, c.deref-2.ensures) at c.in-Ok.ensures.found in
    (inserted_at keys_total exact_keys key_in entry_of c.self.inside.records.items c.in-Ok.i c.args.added c.self.invariant at).0

pub returns-in-Ok-clause-held : goal.returns-in-Ok-clause-held
returns-in-Ok-clause-held c =
    let at = rw (c.deref.ensures.value, c.deref-2.ensures) at c.in-Ok.ensures.found in
    (inserted_at keys_total exact_keys key_in entry_of c.self.inside.records.items c.in-Ok.i c.args.added c.self.invariant at).1
    ∙ ap (λ (h : Room). map.insert h.held c.args.added.rec.value.key (entry_of c.args.added)) c.self.view_is

pub unwrap-requires : goal.unwrap-requires
unwrap-requires c =
    let gap = rw (c.deref.ensures.value, c.deref-2.ensures) at c.in-Err.ensures.absent in
    let none = sym (ap (λ (h : Room). map.get h.held c.args.added.rec.value.key) c.self.view_is) ∙ get_gap keys_total exact_keys key_in entry_of c.self.inside.records.items c.args.added.rec.value.key c.in-Err.i c.self.invariant gap in
    let room = c.requires none in
    let left = ap (λ (h : Room). h.room) c.self.view_is in
    c.insert.ensures.succeeds (omega (arith, room, left))

pub invariant_of-self-in-Err : goal.invariant_of-self-in-Err
invariant_of-self-in-Err c =
    let gap = rw (c.deref.ensures.value, c.deref-2.ensures) at c.in-Err.ensures.absent in
    let items = c.insert.ensures.items ∙ ap (λ r. cond (is_ok r) (insert c.self.inside.records.items c.in-Err.i c.args.added) c.self.inside.records.items) c.unwrap.ensures in
    rw items (inserted_gap keys_total exact_keys key_in entry_of c.self.inside.records.items c.in-Err.i c.args.added c.self.invariant gap).0

pub returns-in-Err-clause-held : goal.returns-in-Err-clause-held
returns-in-Err-clause-held c =
    let gap = rw (c.deref.ensures.value, c.deref-2.ensures) at c.in-Err.ensures.absent in
    let items = c.insert.ensures.items ∙ ap (λ r. cond (is_ok r) (insert c.self.inside.records.items c.in-Err.i c.args.added) c.self.inside.records.items) c.unwrap.ensures in
    ap map_of items
    ∙ (inserted_gap keys_total exact_keys key_in entry_of c.self.inside.records.items c.in-Err.i c.args.added c.self.invariant gap).1
    ∙ ap (λ (h : Room). map.insert h.held c.args.added.rec.value.key (entry_of c.args.added)) c.self.view_is
