use Rattle.std.proofs.Common.{ap, sym, ◌∙◌}
use Rattle.std.specs.BTreeMap as tree
use Rattle.std.specs.Ordering.{nat_cmp}
use Rattle.disco_history.specs.Mentions.{copied}
use Rattle.disco_wire.specs.Wire.{wire_meaning}
use Rattle.disco_client.specs.Tracks.{known_at}
use Rattle.disco_client.specs.declared.certified.CertifiedCopy.{CertifiedCopy}
use Rattle.disco_values.specs.declared.cert.Cert.{Cert}
use Rattle.disco_world.specs.Clients.{given}
use Rattle.disco_world.proofs.CertifiedTakes.{begins_copy, is_begun}
use Rattle.disco_world.proofs.TakenDocuments.{with_now}
use Rattle.disco_world.proofs.certified.begin.Goals as goal

pub returns : goal.returns
returns c =
    let d = c.args.payload.now in
    let m = wire_meaning c.in_ok-wire.wire in
    let old = tree.get nat_cmp c.args.clients.now in
    let now = c.in_ok-copy.copy in
    let by : Cert → CertifiedCopy = λ x. record { copy = copied m.mentions; known = known_at d.key.form x } in
    let full = sym c.is_delta.ensures ∙ c.if-is_delta.false in
    let made = begins_copy d m (old c.args.client) now c.requires.none full c.in_ok-wire.ensures.meant.0 (c.in_ok-copy.ensures.made ∙ ap by c.cert.ensures) in
    (is_begun d m (old c.args.client) now c.requires.none full made, with_now old (tree.get nat_cmp c.insert.new.self) c.args.client now c.in_ok-insert.ensures.updates.0 (given d (old c.args.client)) made)
