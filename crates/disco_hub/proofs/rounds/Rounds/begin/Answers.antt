use Rattle.std.proofs.Common.{◌∙◌, ap, sym, subst, map}
use Rattle.std.specs.FinMap.{empty}
use Rattle.disco_hub.specs.Stored.{AreNew}
use Rattle.disco_hub.proofs.NewKeys.{keys_new}
use Rattle.disco_hub.proofs.rounds.Rounds.begin.Goals as goal

pub of-requires : goal.of-requires
of-requires c = subst (AreNew empty) (sym (ap (map (λ k. k.now)) c.as_slice.ensures.value ∙ c.in_ok-keys.ensures.keys)) (keys_new _)
