use Rattle.std.proofs.Common.{List, sym, ap, subst, ◌∙◌, ◌≡◌, arith}
use Rattle.std.specs.FinMap.{empty, len, len-empty}
use Rattle.disco_values.specs.Keys.{doc_cmp}
use Rattle.disco_values.specs.declared.doc_key.DocKey.{DocKey}
use Rattle.disco_hub.specs.Rounds.{KeySet, kept_keys}
use Rattle.disco_hub.specs.Stored.{AreNew, key_pairs}
use Rattle.disco_hub.proofs.round.Round.of.Goals as goal

pub invariant_of-result : goal.invariant_of-result
invariant_of-result c =
    let none : kept_keys (key_pairs c.in_ok-with_capacity.field-0.items) ≡ empty = ap (λ cs. kept_keys (key_pairs cs)) c.in_ok-with_capacity.ensures.items in (
      omega (arith, c.in_ok-with_capacity.ensures.len, c.in_ok-with_capacity.ensures.capacity, c.len.ensures),
      omega arith,
      sym (ap len none ∙ len-empty doc_cmp (Unit {0})),
      subst (λ (t : KeySet × List DocKey). AreNew t.0 t.1) (λ i. (sym none i, sym c.in_ok-left.ensures i)) c.requires,
    )
