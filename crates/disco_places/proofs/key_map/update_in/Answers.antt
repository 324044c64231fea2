use Rattle.std.proofs.Common.{◌≡◌, Bool, true, false, IsTrue, inl, inr, Option, Some, is_some, refl, sym, ap, ◌∙◌}
use Rattle.std.specs.Option.{option_flatten}
use Rattle.std.specs.FinMap.{insert}
use Rattle.disco_places.specs.KeyMaps.{ById}
use Rattle.disco_places.proofs.Stored.{Text, lent}
use Rattle.disco_places.proofs.ByApp.{as_before, at_id, get_by_key, opened_among}
use Rattle.disco_places.proofs.Full.{Grown, full_lent}
use Rattle.disco_places.proofs.key_map.update_in.Goals as goal

pub returns-in-Some-clause-there : goal.returns-in-Some-clause-there
returns-in-Some-clause-there g c =
    let k = c.args.key.now in
    c.update.ensures.there ∙ ap (λ o. is_some (option_flatten (at_id o k.id))) c.in-Some.ensures.value ∙ ap (λ o. is_some (option_flatten o)) (sym (get_by_key k c.args.apps.now.entries c.requires.ordered))

pub returns-in-Some-clause-changed : goal.returns-in-Some-clause-changed
returns-in-Some-clause-changed g c = λ t.
    let k = c.args.key.now in
    let m = c.in-Some.ids.now in
    let n = c.update.new.self in
    let after = c.get_mut.follows.holds n in
    let there = c.in-Some.ensures.value in
    let made = c.update.ensures.changed t in (
      made.0,
      made.1,
      ap option_flatten (get_by_key k c.args.apps.now.entries c.requires.ordered) ∙ ap (λ o. option_flatten (at_id o k.id)) (sym there) ∙ made.2,
      made.3,
      opened_among c.args.apps.now.entries (c.get_mut.follows.lender n).entries c.requires.ordered after.4 k m n there (lent k.app c.args.apps.now (c.get_mut.follows.lender n) m n there after.3) (Some made.1) made.4,
    )

pub returns-in-Some-clause-same : goal.returns-in-Some-clause-same
returns-in-Some-clause-same g c = λ f.
    let k = c.args.key.now in
    let m = c.in-Some.ids.now in
    let n = c.update.new.self in
    let after = c.get_mut.follows.holds n in
    let there = c.in-Some.ensures.value in
    as_before c.args.apps.now.entries (c.get_mut.follows.lender n).entries c.requires.ordered after.4 k m n there (lent k.app c.args.apps.now (c.get_mut.follows.lender n) m n there after.3) (c.update.ensures.same f)

pub returns-in-None-clause-there : goal.returns-in-None-clause-there
returns-in-None-clause-there g c =
    let k = c.args.key.now in
    ap (λ o. is_some (option_flatten (at_id o k.id))) c.in-None.ensures.value ∙ ap (λ o. is_some (option_flatten o)) (sym (get_by_key k c.args.apps.now.entries c.requires.ordered))

grown_if : {X : Type 0} (b : Bool) (m n : ById (Option X)) (i : Text) → (IsTrue b → (v : Option X) × (n ≡ insert m i v)) → (b ≡ false → n ≡ m) → Grown m n
grown_if true m n i put same = let it = put refl in inl (i, it.0, it.1)
grown_if false m n i put same = inr (same refl)

pub returns-in-Some-clause-full : goal.returns-in-Some-clause-full
returns-in-Some-clause-full g c =
    let k = c.args.key.now in
    let m = c.in-Some.ids.now in
    let n = c.update.new.self in
    let after = c.get_mut.follows.holds n in
    let there = c.in-Some.ensures.value in
    let fs = (c.get_mut.follows.lender n).entries in
    full_lent c.args.apps.now.entries fs k.app m n there (lent k.app c.args.apps.now (c.get_mut.follows.lender n) m n there after.3)
    (grown_if c.update.result m n k.id (λ t. let made = c.update.ensures.changed t in (Some made.1, made.4)) c.update.ensures.same)
