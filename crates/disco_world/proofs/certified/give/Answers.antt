use Rattle.std.proofs.Common.{◌≡◌, Some, refl, sym, ap, ◌∙◌}
use Rattle.std.specs.BTreeMap as tree
use Rattle.std.specs.Ordering.{nat_cmp}
use Rattle.disco_world.specs.Clients.{given, takes_it}
use Rattle.disco_world.proofs.TakenDocuments.{is_some_by, with_now}
use Rattle.disco_world.proofs.certified.give.Goals as goal

pub returns : goal.returns
returns c =
    let d = c.args.payload.now in
    let old = tree.get nat_cmp c.args.clients.now in
    let held = c.in-Some.held.now in
    let now = c.turn.new.held in
    let turned = c.in_ok-taken.ensures.turned in
    let has : old c.args.client ≡ Some held = sym c.in-Some.ensures.value in
    let x = c.get_mut.follows.holds now in
    let made : given d (old c.args.client) ≡ Some now = ap (given d) has ∙ turned.now in (
      (now, made, turned.taken_is ∙ ap (takes_it d) (sym has), refl, refl),
      with_now old (tree.get nat_cmp (c.get_mut.follows.lender now)) c.args.client now (x.3 (is_some_by _ held c.in-Some.ensures.value)).0 (given d (old c.args.client)) made,
    )
