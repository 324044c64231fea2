use Rattle.std.proofs.Common.{length, filter, map, List, refl, ap, sym, subst, ◌≡◌, ◌<◌, ◌∙◌, arith}
use Rattle.std.proofs.lemmas.Bool.Decides.{nat_tests}
use Rattle.std.proofs.lemmas.List.{length-map}
use Rattle.std.specs.FinMap.{FinMap, values}
use Rattle.disco_values.specs.Key.{key_cmp}
use Rattle.disco_history.specs.Change.{Entry}
use Rattle.disco_history.specs.Query.{of_app}
use Rattle.disco_history.proofs.Restrictions.{values-said_restrict}
use Rattle.disco_history.specs.Apps.{is_of_app}
use Rattle.disco_history.specs.Held.{entry_of}
use Rattle.disco_wire.specs.Rows.{held_entries}
use Rattle.disco_values.specs.declared.query.Query.TheVariants as query
use Rattle.disco_writer.specs.Joined.{AllAgree}
use Rattle.disco_writer.proofs.Told.{held_agree, passing_held, values_held}
use Rattle.disco_writer.proofs.Written.{none_written, some_there, some_written}
use Rattle.disco_writer.proofs.document.write_app.Goals as goal

pub returns-then-is_empty-clause-written : goal.returns-then-is_empty-clause-written
returns-then-is_empty-clause-written c = λ h stands.
    let name = c.args.name.now in
    let held = c.in_ok-held.held.items in
    let same = c.in_ok-held.ensures ∙ ap (λ (m : FinMap key_cmp Entry). filter (is_of_app name) (values m)) stands.held ∙ sym (values-said_restrict h (of_app name)) in
    let none : length held ≡ 0 = grind (arith, nat_tests, c.is_empty.ensures, c.if-is_empty.true) in
    none_written (of_app name) h (held_entries held) same (length-map held entry_of ∙ none) refl

pub returns-clause-written : goal.returns-clause-written
returns-clause-written c = λ h stands.
    let name = c.args.name.now in
    let held = c.as_slice.result.now in
    let items = c.in_ok-held.held.items in
    let as_held : held_entries held ≡ held_entries items = ap (map entry_of) c.as_slice.ensures.value in
    let same = as_held ∙ c.in_ok-held.ensures ∙ ap (λ (m : FinMap key_cmp Entry). filter (is_of_app name) (values m)) stands.held ∙ sym (values-said_restrict h (of_app name)) in
    let held_all = passing_held (is_of_app name) c.args.registry.now.held (values c.args.registry.now.held) (values_held h c.args.registry.now.held stands.held) in
    let agree = subst (λ (xs : List Entry). AllAgree c.args.form c.args.texts.now xs) (sym (as_held ∙ c.in_ok-held.ensures)) (held_agree c.args.form c.args.texts.now c.args.registry.now.held _ c.requires held_all) in
    let some : 0 < length items = grind (arith, nat_tests, c.is_empty.ensures, c.if-is_empty.false) in
    let count : length (held_entries held) ≡ length items = ap length as_held ∙ length-map items entry_of in
    some_written c.args.form (query.App name) h (length h) (held_entries held) _ (length h) _ same refl refl (some_there (of_app name) h (held_entries held) same (omega (arith, some, count))) (c.in_ok-app_text.ensures.text agree) (c.in_ok-app_text.ensures.means agree)
