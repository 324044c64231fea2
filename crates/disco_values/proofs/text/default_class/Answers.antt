use Rattle.std.proofs.Common.{ap, codes, length, ◌∙◌}
use Rattle.disco_values.specs.Front.{first_eight}
use Rattle.disco_values.proofs.Fronts.{front_made}
use Rattle.disco_values.proofs.text.default_class.Goals as goal

pub invariant_of-result : goal.invariant_of-result
invariant_of-result c =
    let same = c.as_bytes-bytes.ensures.value in
    let class = codes "com.netflix.appinfo.InstanceInfo$DefaultDataCenterInfo" in
    (c.front_of.ensures.front ∙ front_made class _ _ (ap first_eight same) (ap length same), rw same at c.front_of.ensures.bytes)
