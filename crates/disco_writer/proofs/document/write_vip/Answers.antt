use Rattle.std.proofs.Common.{length, ◌≡◌, List, refl, ap, sym, subst, ◌∙◌}
use Rattle.std.specs.List.{filter_map}
use Rattle.std.specs.FinMap.{FinMap, get}
use Rattle.std.proofs.lemmas.List.{length-map}
use Rattle.disco_values.specs.Key.{key_cmp}
use Rattle.disco_values.specs.declared.key.Key.{Key}
use Rattle.disco_history.specs.Change.{Entry}
use Rattle.disco_history.specs.Query.{of_vip}
use Rattle.disco_history.specs.Registry.{registry_of, mentions_of}
use Rattle.disco_history.proofs.Restrictions.{found-restrict}
use Rattle.disco_history.proofs.Sets.{first_of, get-said_reg}
use Rattle.disco_index.specs.Vips.{plain, under}
use Rattle.disco_index.proofs.VipLaws.{under_vip_law}
use Rattle.disco_history.specs.Held.{entry_of}
use Rattle.disco_wire.specs.Documents.{mentioned}
use Rattle.disco_wire.specs.Rows.{held_entries}
use Rattle.disco_values.specs.declared.query.Query.TheVariants as query
use Rattle.disco_writer.specs.Joined.{AllAgree}
use Rattle.disco_writer.proofs.Told.{found_held, held_agree}
use Rattle.disco_writer.proofs.Written.{many_written}
use Rattle.disco_writer.proofs.document.write_vip.Goals as goal

pub returns-clause-written : goal.returns-clause-written
returns-clause-written c = λ h stands.
    let vip = c.args.vip.now in
    let held = c.args.registry.now.held in
    let es = held_entries c.as_slice.result.now in
    let keys = under_vip_law c.args.vips.now held (registry_of h) (plain vip) c.requires.index (λ k. sym (get-said_reg h k) ∙ ap (λ (m : FinMap key_cmp Entry). first_of (get m k)) (sym stands.held)) in
    let same : es ≡ mentioned (of_vip vip) h =
    ap held_entries c.as_slice.ensures.value ∙ c.in_ok-held.ensures.held ∙ ap (λ (m : FinMap key_cmp Entry). filter_map (get m) (under c.args.vips.now (plain vip))) stands.held ∙ ap (λ (ks : List Key). filter_map (get (mentions_of h (registry_of h))) ks) keys ∙ found-restrict h (of_vip vip) in
    let agree = subst (λ (xs : List Entry). AllAgree c.args.form c.args.texts.now xs) (sym (ap held_entries c.as_slice.ensures.value ∙ c.in_ok-held.ensures.held)) (held_agree c.args.form c.args.texts.now held _ c.requires.kept (found_held h held stands.held (under c.args.vips.now (plain vip)))) in
    many_written _ c.args.form (query.Vip vip) h (length h) es c.version.result _ c.in_ok-write_some.field-0 same refl (c.version.ensures.version ∙ stands.version) (sym (length-map c.as_slice.result.now entry_of)) refl refl refl (c.in_ok-write_some.ensures.written agree)
