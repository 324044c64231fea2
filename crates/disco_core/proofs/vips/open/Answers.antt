use Rattle.std.proofs.Common.{Option, Bor, option_map, refl, subst, ap, ◌≡◌, ◌∙◌}
use Rattle.std.specs.FinMap.{get}
use Rattle.disco_history.specs.Change.{Entry, key_of, change_view}
use Rattle.disco_history.specs.Held.{entry_of}
use Rattle.disco_history.specs.declared.held.Held.{Held}
use Rattle.disco_history.specs.Registry.{put_of}
use Rattle.disco_core.specs.Moves.{VipsStay}
use Rattle.disco_core.proofs.KeptVips.{others_stay, places_stay}
use Rattle.disco_core.proofs.vips.open.Goals as goal

pub returns-then-stay-clause-others : goal.returns-then-stay-clause-others
returns-then-stay-clause-others c = others_stay (put_of (change_view c.args.change.now)) c.args.vips.now

pub returns-then-stay-clause-places : goal.returns-then-stay-clause-places
returns-then-stay-clause-places c =
    let held = c.args.registry.now.held in
    let e = change_view c.args.change.now in
    let found : option_map (λ (h : Bor Held). entry_of h.now) c.held.result ≡ get held (key_of e) = c.held.ensures.found ∙ ap (get held) c.key.ensures in
    let stay = subst (λ (o : Option Entry). VipsStay o (put_of e)) found (c.stay.ensures c.if-stay.true) in
    places_stay held e.0 e.1 (get held (key_of e)) c.args.vips.now c.requires refl stay
