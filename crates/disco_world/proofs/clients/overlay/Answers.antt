use Rattle.std.proofs.Common.{◌≡◌, ap, sym, ◌∙◌}
use Rattle.std.specs.BTreeMap as tree
use Rattle.std.specs.Ordering.{nat_cmp}
use Rattle.disco_history.specs.Mentions.{overlay}
use Rattle.disco_wire.specs.Wire.{wire_meaning}
use Rattle.disco_cache.specs.Payloads.{cert_of}
use Rattle.disco_client.specs.Tracks.{moved}
use Rattle.disco_world.specs.Clients.{client_after}
use Rattle.disco_world.specs.declared.clients.Client.{Client}
use Rattle.disco_world.proofs.TakenDocuments.{is_some_by, told_delta, took_delta, with_now}
use Rattle.disco_world.proofs.clients.overlay.Goals as goal

pub returns : goal.returns
returns c =
    let d = c.args.payload.now in
    let m = wire_meaning c.args.wire in
    let old = tree.get nat_cmp c.args.clients.now in
    let held = c.in-Some.held.now in
    let now : Client = record { copy = c.overlay.new.self; known = c.moved-held.result } in
    let has = sym c.in-Some.ensures.value in
    let x = c.get_mut.follows.holds now in
    let e : now ≡ record { copy = overlay held.copy m.mentions; known = moved held.known d.key.form (cert_of d) } = λ i. record { copy = c.in_ok-overlaid.ensures.overlaid i; known = (c.moved-held.ensures ∙ ap (moved held.known d.key.form) c.cert.ensures) i } in (
      told_delta d m (old c.args.client) held now c.in_ok-overlaid.overlaid.hash_equal c.version_of.result c.requires.meant c.requires.delta has e c.in_ok-overlaid.ensures.hash_equal c.version_of.ensures,
      with_now old (tree.get nat_cmp (c.get_mut.follows.lender now)) c.args.client now (x.3 (is_some_by _ held c.in-Some.ensures.value)).0 (client_after d (old c.args.client)) (took_delta d m (old c.args.client) held now c.requires.meant c.requires.delta has e),
    )
