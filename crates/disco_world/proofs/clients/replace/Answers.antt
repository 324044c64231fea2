use Rattle.std.proofs.Common.{◌≡◌, Some, ap, ◌∙◌}
use Rattle.std.specs.BTreeMap as tree
use Rattle.std.specs.Ordering.{nat_cmp}
use Rattle.disco_history.specs.Mentions.{copied}
use Rattle.disco_wire.specs.Wire.{wire_meaning}
use Rattle.disco_world.specs.Clients.{client_after}
use Rattle.disco_world.specs.declared.clients.Client.{Client}
use Rattle.disco_cache.specs.Payloads.{cert_of}
use Rattle.disco_client.specs.Tracks.{known_at}
use Rattle.disco_client.specs.declared.known.Known.{Known}
use Rattle.disco_world.proofs.TakenDocuments.{told_full, took_full, with_now}
use Rattle.disco_world.proofs.clients.replace.Goals as goal

pub returns : goal.returns
returns c =
    let d = c.args.payload.now in
    let m = wire_meaning c.args.wire in
    let old = tree.get nat_cmp c.args.clients.now in
    let at : Known = known_at d.key.form (cert_of d) in
    let now : Client = record { copy = c.full.new.self; known = Some c.of-known.result } in
    let e : now ≡ record { copy = copied m.mentions; known = Some at } = λ i. record { copy = c.in_ok-full.ensures.copied i; known = Some ((c.of-known.ensures ∙ ap (known_at d.key.form) c.cert.ensures) i) } in (
      told_full d m (old c.args.client) now c.has_hash-equal.result c.requires.meant c.requires.full e c.has_hash-equal.ensures,
      with_now old (tree.get nat_cmp c.insert.new.self) c.args.client now c.in_ok-insert.ensures.updates.0 (client_after d (old c.args.client)) (took_full d m (old c.args.client) now c.requires.meant c.requires.full e),
    )
