use Rattle.std.proofs.Common.{ap, ◌∙◌}
use Rattle.disco_index.specs.Chunks.{all_in, keys_under}
use Rattle.disco_index.specs.Places.{under_in}
use Rattle.disco_index.proofs.ChunkUnder.{under_named}
use Rattle.disco_index.proofs.vip_places.VipPlaces.under.Goals as goal

pub returns : goal.returns
returns c =
    let vip = c.args.vip.now in
    c.in_ok-under.ensures
    ∙ (λ i. keys_under (c.as_bytes.ensures.value i) (all_in (c.deref.ensures.value i)))
    ∙ under_named c.self.inside.chunks.items vip c.self.invariant
    ∙ ap (λ m. under_in m vip) c.self.view_is
