use Rattle.std.proofs.Common.{◌≡◌, List, map, ◌++◌, take, sym, subst, ◌∙◌}
use Rattle.disco_instance.specs.Row.{row}
use Rattle.disco_instance.specs.declared.record.Record.{Record}
use Rattle.disco_follow.specs.Changes.{InstanceChange, IsToldOf}
use Rattle.disco_follow.specs.Seen.{seen_change}
use Rattle.disco_follow.proofs.ListedChanges.{TellsAll, TellsOne, rows_step, rows_whole, tells_more, tells_none}
use Rattle.disco_follow.proofs.changes.note_all_held.Goals as goal

pub loop-held-init : goal.loop-held-init
loop-held-init c = tells_none c.args.before.now (map seen_change c.args.changes.now.items)

pub loop-held-preserved : goal.loop-held-preserved
loop-held-preserved c =
    let before = c.args.before.now in
    let hs = c.records-held-items.result.now in
    let i = c.loop-held.held-index in
    let h = c.held-item.result in
    let o = map seen_change c.args.changes.now.items in
    let m = map seen_change c.loop-held.changes.items in
    let n = map seen_change c.note_held.new.changes.items in
    let told : TellsOne before c.deref.result.now.key (row c.deref-in-loop-held.result.now) m n =
    subst (λ o. (one : List InstanceChange) × IsToldOf o (row c.deref-in-loop-held.result.now) one × (n ≡ m ++ one)) c.get.ensures c.in_ok-note_held.ensures in
    let at_key : TellsOne before h.rec.value.key (row c.deref-in-loop-held.result.now) m n =
    subst (λ (r : Record). TellsOne before r.key (row c.deref-in-loop-held.result.now) m n) c.deref.ensures told in
    let here : TellsOne before h.rec.value.key (row h.rec.value) m n =
    subst (λ (r : Record). TellsOne before h.rec.value.key (row r) m n) c.deref-in-loop-held.ensures at_key in
    subst (λ rs. TellsAll before rs o n) (sym (rows_step hs i h c.loop-held-test.true c.held-item.is))
    (tells_more before (map (λ h. row h.rec.value) (take i hs)) (row h.rec.value) o m n c.loop-held.invariant here)

pub returns : goal.returns
returns c =
    subst (λ rs. TellsAll c.args.before.now rs (map seen_change c.args.changes.now.items) (map seen_change c.loop-held.changes.items))
    (rows_whole c.records-held-items.result.now c.loop-held.held-index c.loop-held-test.false ∙ c.records-held-items.ensures)
    c.loop-held.invariant
