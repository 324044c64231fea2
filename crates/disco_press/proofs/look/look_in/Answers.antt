use Rattle.std.proofs.Common.{List, ◌∙◌, sym, ap, subst}
use Rattle.disco_press.specs.declared.monotone_list.PrefixWitness.{PrefixWitness}
use Rattle.disco_hub.specs.Press.{Note}
use Rattle.disco_press.specs.Editions.{IsEditionOf}
use Rattle.disco_press.specs.Logs.{publications}
use Rattle.disco_press.specs.declared.entry.LogEntry.{LogEntry}
use Rattle.disco_press.specs.declared.snapshot.Snapshot.{Snapshot}
use Rattle.disco_press.proofs.Shows.{shows}
use Rattle.disco_press.proofs.look.look_in.Goals as goal

pub returns-in-Ok : goal.returns-in-Ok
returns-in-Ok g c =
    let shown = c.get-shown.result.now in
    let is = subst (λ (x : Snapshot). IsEditionOf (publications x.prefix.witness.items) x.docs) (sym c.get-shown.ensures) c.in-Ok.ensures.1.1 in
    let published = c.of-published.ensures ∙ ap (λ (l : PrefixWitness LogEntry). publications l.items) c.again.ensures in
    shows c.args.key.now c.of-published.result shown.docs c.find-looked.result (subst (λ (ps : List (List Note)). IsEditionOf ps shown.docs) (sym published) is) c.find-looked.ensures
