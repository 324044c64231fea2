use Rattle.std.proofs.Common.{◌≡◌, true, ap, ◌∙◌}
use Rattle.disco_values.specs.Entries.{is_by_name}
use Rattle.disco_values.proofs.Merged.{by_name-with}
use Rattle.disco_values.proofs.entries.Entries.put_all.Goals as goal

pub invariant_of-self : goal.invariant_of-self
invariant_of-self c =
    let mine : is_by_name c.deref.result.now ≡ true = ap is_by_name c.deref.ensures.value ∙ c.self.invariant in
    let others : is_by_name c.as_slice.result.now ≡ true = ap is_by_name c.as_slice.ensures ∙ c.ordered.ensures in
    ap is_by_name c.in_ok-self-inside.ensures ∙ by_name-with c.deref.result.now c.as_slice.result.now mine others
