use Rattle.std.proofs.Common.{◌≡◌, map, ◌++◌, take, sym, subst, ◌∙◌}
use Rattle.std.specs.FinMap.{get}
use Rattle.disco_instance.specs.Row.{row}
use Rattle.disco_instance.specs.declared.record.Record.{Record}
use Rattle.disco_follow.specs.Changes.{gone_of}
use Rattle.disco_follow.specs.Seen.{seen_change}
use Rattle.disco_follow.proofs.ListedChanges.{TellsGone, gone_more, gone_none, rows_step, rows_whole}
use Rattle.disco_follow.proofs.changes.note_all_gone.Goals as goal

pub loop-held-init : goal.loop-held-init
loop-held-init c = gone_none c.args.now.now (map seen_change c.args.changes.now.items)

pub loop-held-preserved : goal.loop-held-preserved
loop-held-preserved c =
    let now = c.args.now.now in
    let hs = c.records-held-items.result.now in
    let i = c.loop-held.held-index in
    let h = c.held-item.result in
    let o = map seen_change c.args.changes.now.items in
    let m = map seen_change c.loop-held.changes.items in
    let n = map seen_change c.note_gone.new.changes.items in
    let told : n ≡ m ++ gone_of (get now c.deref.result.now.key) (row c.deref-in-loop-held.result.now) =
    subst (λ o. n ≡ m ++ gone_of o (row c.deref-in-loop-held.result.now)) c.get.ensures c.in_ok-note_gone.ensures in
    let at_key : n ≡ m ++ gone_of (get now h.rec.value.key) (row c.deref-in-loop-held.result.now) =
    subst (λ (r : Record). n ≡ m ++ gone_of (get now r.key) (row c.deref-in-loop-held.result.now)) c.deref.ensures told in
    let here : n ≡ m ++ gone_of (get now h.rec.value.key) (row h.rec.value) =
    subst (λ (r : Record). n ≡ m ++ gone_of (get now h.rec.value.key) (row r)) c.deref-in-loop-held.ensures at_key in
    subst (λ rs. TellsGone now rs o n) (sym (rows_step hs i h c.loop-held-test.true c.held-item.is))
    (gone_more now (map (λ h. row h.rec.value) (take i hs)) (row h.rec.value) o m n c.loop-held.invariant here)

pub returns : goal.returns
returns c =
    subst (λ rs. TellsGone c.args.now.now rs (map seen_change c.args.changes.now.items) (map seen_change c.loop-held.changes.items))
    (rows_whole c.records-held-items.result.now c.loop-held.held-index c.loop-held-test.false ∙ c.records-held-items.ensures)
    c.loop-held.invariant
