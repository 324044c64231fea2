use Rattle.std.proofs.Common.{Option, option_map, ap, ◌∙◌}
use Rattle.std.specs.Option.{option_flatten}
use Rattle.disco_history.specs.Held.{entry_of}
use Rattle.disco_history.specs.declared.held.Held.{Held}
use Rattle.disco_registry.proofs.PlaceSteps.{map_copied}
use Rattle.disco_registry.proofs.RecordsByApp.{under_id}
use Rattle.disco_registry.proofs.records.found_in.Goals as goal

pub returns-in-Some : goal.returns-in-Some
returns-in-Some c =
    map_copied c.as_ref.result ∙ ap (option_map entry_of) c.as_ref.ensures.value
    ∙ ap (λ (o : Option (Option Held)). option_map entry_of (option_flatten o)) c.in-Some.ensures
    ∙ under_id c.args.id.now c.args.ids.now c.requires

pub returns-in-None : goal.returns-in-None
returns-in-None c =
    ap (λ (o : Option (Option Held)). option_map entry_of (option_flatten o)) c.in-None.ensures
    ∙ under_id c.args.id.now c.args.ids.now c.requires
