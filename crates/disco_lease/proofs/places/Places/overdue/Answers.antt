use Rattle.std.proofs.Common.{ℕ, map, ap, ◌∙◌}
use Rattle.std.proofs.lemmas.Result.{IfOk-weaker}
use Rattle.std.specs.FinMap.{FinMap, from_entries, keys}
use Rattle.disco_values.specs.declared.key.Key.{Key}
use Rattle.disco_lease.specs.Due.{due_cmp}
use Rattle.disco_lease.specs.Seen.{pairs}
use Rattle.disco_lease.proofs.Ordered.{collected}
use Rattle.disco_lease.proofs.places.Places.overdue.Goals as goal

pub returns : goal.returns
returns c =
    let m = c.self.inside.places in
    let all = ap (λ es. from_entries {R = due_cmp} (pairs c.args.now es)) c.apps.ensures ∙ collected m c.args.now in
    rw (← c.self.view_is) (IfOk-weaker c.overdue_keys.result _ _ (λ v is. is ∙ ap (λ (x : FinMap due_cmp (Unit {0})). map (λ (d : ℕ × Key). d.1) (keys x)) all) c.overdue_keys.ensures)
