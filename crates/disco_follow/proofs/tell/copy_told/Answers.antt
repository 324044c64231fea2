use Rattle.std.proofs.Common.{List, [], ℕ, ◌++◌, ap, sym, subst, map, length, true, ◌∙◌, if◌then◌else◌}
use Rattle.std.proofs.lemmas.List.{length-map}
use Rattle.std.specs.FinMap.{FinMap}
use Rattle.disco_values.specs.Key.{key_cmp}
use Rattle.disco_instance.specs.Row.{Row}
use Rattle.disco_follow.specs.Changes.{AreChanges}
use Rattle.disco_follow.specs.Seen.{seen_change}
use Rattle.disco_follow.specs.declared.change.Change.{Change as Noted}
use Rattle.disco_follow.specs.Telling.{Told, copy_line, is_news, unless_told, up_line}
use Rattle.disco_follow.proofs.tell.copy_told.Goals as goal

pub returns-clause-told : goal.returns-clause-told
returns-clause-told c =
    let told = c.args.told.now in
    let json = c.args.wanted.now.json in
    let noted = c.in_ok-changes.changes.items in
    let changes = map seen_change noted in
    let up = c.in_ok-up.ensures.line in
    let front : List Noted → ℕ → List ℕ = λ x n. if is_news told n then copy_line json c.args.at.0 c.args.at.1 (map seen_change x) else [] in
    let made : FinMap key_cmp Row → List ℕ → Told = λ m u. record { begun = true; copy = m; up = u; fault = 0 } in
    record {
      changes = changes;
      changed = subst (λ (t : Told). AreChanges t.copy c.args.copy.now changes) c.told.view_is c.in_ok-changes.ensures;
      written = c.in_ok-text.ensures.lines
          ∙ ap (λ x. front x (length x) ++ unless_told told.up c.as_slice-2.result.now) c.as_slice.ensures.value
          ∙ ap (λ u. front noted (length noted) ++ unless_told told.up u) (c.as_slice-2.ensures ∙ up)
          ∙ ap (λ n. front noted n ++ unless_told told.up (up_line c.args.wanted.now c.args.copy.now)) (sym (length-map noted seen_change));
      told = c.of.ensures ∙ ap (λ m. made m c.in_ok-up.up) c.in_ok-shared.ensures.same ∙ ap (made c.args.copy.now) up;
    }
