use Rattle.std.proofs.Common.{◌∙◌, ap, subst, sym}
use Rattle.std.specs.FinMap.{len}
use Rattle.disco_hub.specs.Press.{Edition, edition_of}
use Rattle.disco_press.specs.Desks.{DeskState, notes_of}
use Rattle.disco_press.specs.Editions.{IsEditionOf}
use Rattle.disco_press.specs.Logs.{Logged, publications}
use Rattle.disco_press.proofs.KeptNotes.{edition_ended, ended_kept, ended_many}
use Rattle.disco_press.proofs.desk.Desk.publish.Goals as goal

pub show-requires : goal.show-requires
show-requires g c =
    let i = c.self.inside in
    let ends = c.in_ok-documents.ensures.finished.finished in
    let prefix = c.into_prefix-prefix in
    let qs = publications prefix.result.witness.items in
    let is = prefix.ensures.1 ∙ c.published.ensures ∙ ap (λ (r : Logged). r.published) c.publish.ensures in
    (prefix.ensures.0, subst (λ (m : Edition). IsEditionOf qs m) (sym c.replace-docs.ensures.value) (edition_ended i.snapshots i.log i.hub c.finish.new.self i.next i.next _ c.self.invariant c.in_ok-documents.documents ends qs is))

pub invariant_of-self-2 : goal.invariant_of-self-2
invariant_of-self-2 g c =
    let i = c.self.inside in
    let ends = c.in_ok-documents.ensures.finished.finished in
    ended_kept i.snapshots i.log i.hub c.finish.new.self i.next c.replace-docs.new.dest _ c.self.invariant c.in_ok-documents.documents ends c.show.new.self c.publish.new.self (c.show.ensures ∙ c.into_prefix-prefix.ensures.1 ∙ c.published.ensures) c.in_ok-documents.ensures.finished.rest c.publish.ensures

pub returns-clause-documents : goal.returns-clause-documents
returns-clause-documents g c =
    let i = c.self.inside in
    let ends = c.in_ok-documents.ensures.finished.finished in
    ended_many i.snapshots i.log i.hub c.finish.new.self i.next i.next _ c.self.invariant c.in_ok-documents.documents ends ∙ ap (λ (d : DeskState). len (edition_of (notes_of d))) c.self.view_is
