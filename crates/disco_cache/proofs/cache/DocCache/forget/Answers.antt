use Rattle.std.proofs.Common.{ℕ, List, false, true, ap, subst, ◌∙◌}
use Rattle.disco_instance.specs.Row.{row}
use Rattle.disco_instance.specs.declared.details.Details.{Details}
use Rattle.disco_history.specs.Query.{vips}
use Rattle.disco_values.specs.declared.query.Query.TheVariants as query
use Rattle.disco_cache.specs.Docs.{Drops}
use Rattle.disco_cache.specs.Kept.{is_of, is_of_any}
use Rattle.disco_cache.proofs.Drops.{alike, asked, is_asked, then}
use Rattle.disco_cache.proofs.cache.DocCache.forget.Goals as goal

pub returns : goal.returns
returns c =
    let r = row c.args.rec.now in
    let app = subst (λ (name : List ℕ). Drops (is_of (query.App name)) c.drop_both-2.new.self c.drop_both-3.new.self) c.as_str.ensures c.drop_both-3.ensures in
    let plain = subst (λ (address : List ℕ). Drops (is_of_any false (vips address)) c.drop_both-4.new.self c.drop_vips.new.self) (c.as_str-2.ensures ∙ ap (λ (d : Details). d.vip_address) c.deref.ensures) c.drop_vips.ensures in
    let secure = subst (λ (address : List ℕ). Drops (is_of_any true (vips address)) c.drop_vips.new.self c.drop_vips-2.new.self) (c.as_str-3.ensures ∙ ap (λ (d : Details). d.secure_vip_address) c.deref-2.ensures) c.drop_vips-2.ensures in
    alike (is_asked r) _ c.args.self.now c.drop_vips-2.new.self (asked r)
    (then _ _ c.args.self.now c.drop_both.new.self c.drop_vips-2.new.self c.drop_both.ensures
    (then _ _ c.drop_both.new.self c.drop_both-2.new.self c.drop_vips-2.new.self c.drop_both-2.ensures
    (then _ _ c.drop_both-2.new.self c.drop_both-3.new.self c.drop_vips-2.new.self app
    (then _ _ c.drop_both-3.new.self c.drop_both-4.new.self c.drop_vips-2.new.self c.drop_both-4.ensures
    (then _ _ c.drop_both-4.new.self c.drop_vips.new.self c.drop_vips-2.new.self plain secure)))))
