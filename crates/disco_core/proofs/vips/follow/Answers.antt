use Rattle.std.proofs.Common.{IfSome, Option, None, Some, Bor, option_map, refl, subst, ap, ◌≡◌, ◌∙◌}
use Rattle.std.specs.FinMap.{get}
use Rattle.disco_values.specs.declared.key.Key.{Key}
use Rattle.disco_history.specs.Change.{Entry, key_of, change_view}
use Rattle.disco_history.specs.Held.{entry_of}
use Rattle.disco_history.specs.declared.held.Held.{Held}
use Rattle.disco_history.specs.Registry.{put_of}
use Rattle.disco_index.specs.Vips.{RemovesAny}
use Rattle.disco_core.specs.Moves.{VipsStay}
use Rattle.disco_core.proofs.KeptVips.{filled, index_stays}
use Rattle.disco_core.proofs.Ties.{indexed_after, places_kept}
use Rattle.disco_core.proofs.vips.follow.Goals as goal

own_key : (o : Option (Bor Held)) (k : Key) → IfSome o (λ h. h.now.rec.value.key ≡ k) → IfSome (option_map (λ (h : Bor Held). entry_of h.now) o) (λ d. key_of d ≡ k)
own_key None k own = own
own_key (Some h) k own = own

pub add-requires : goal.add-requires
add-requires c = places_kept c.args.vips.now c.take.new.vips (put_of (change_view c.args.change.now)) c.take.ensures.places c.requires.places

pub returns-clause-index : goal.returns-clause-index
returns-clause-index c =
    let held = c.args.registry.now.held in
    let e = change_view c.args.change.now in
    let found : option_map (λ (h : Bor Held). entry_of h.now) c.held-held.result ≡ get held (key_of e) = c.held-held.ensures.found ∙ ap (get held) c.key.ensures in
    let own : IfSome (get held (key_of e)) (λ d. key_of d ≡ key_of e) =
    subst (λ (k : Key). IfSome (get held (key_of e)) (λ d. key_of d ≡ k)) c.key.ensures
    (subst (λ (o : Option Entry). IfSome o (λ d. key_of d ≡ c.key.result.now)) found (own_key c.held-held.result c.key.result.now c.held-held.ensures.same_key)) in
    let takes = subst (λ (o : Option Entry). RemovesAny o c.args.vips.now c.take.new.vips) found c.take.ensures.vips in
    indexed_after held e.0 e.1 c.args.vips.now c.take.new.vips c.add.new.vips c.sweep.new.vips c.requires.index own takes c.add.ensures c.sweep.ensures.same

pub returns-then-stay-clause-index : goal.returns-then-stay-clause-index
returns-then-stay-clause-index c =
    let held = c.args.registry.now.held in
    let e = change_view c.args.change.now in
    let found : option_map (λ (h : Bor Held). entry_of h.now) c.held-held.result ≡ get held (key_of e) = c.held-held.ensures.found ∙ ap (get held) c.key.ensures in
    let stay = subst (λ (o : Option Entry). VipsStay o (put_of e)) found (c.stay.ensures c.if-stay.true) in
    index_stays held e.0 e.1 (get held (key_of e)) c.args.vips.now c.requires.index refl stay

pub returns-then-stay-clause-swept : goal.returns-then-stay-clause-swept
returns-then-stay-clause-swept c =
    let held = c.args.registry.now.held in
    let e = change_view c.args.change.now in
    let found : option_map (λ (h : Bor Held). entry_of h.now) c.held-held.result ≡ get held (key_of e) = c.held-held.ensures.found ∙ ap (get held) c.key.ensures in
    let own : IfSome (get held (key_of e)) (λ d. key_of d ≡ key_of e) =
    subst (λ (k : Key). IfSome (get held (key_of e)) (λ d. key_of d ≡ k)) c.key.ensures
    (subst (λ (o : Option Entry). IfSome o (λ d. key_of d ≡ c.key.result.now)) found (own_key c.held-held.result c.key.result.now c.held-held.ensures.same_key)) in
    filled held (key_of e) (get held (key_of e)) c.args.vips.now c.requires.index refl own
