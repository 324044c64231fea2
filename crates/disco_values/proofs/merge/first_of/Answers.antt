use Rattle.std.proofs.Common.{◌≡◌, ◌∷◌, [], sym, ap, ◌∙◌}
use Rattle.disco_values.specs.Entries.{is_by_name, with_entries}
use Rattle.disco_values.proofs.Merged.{instead, is_empty, mine_first, only_others, other_first}
use Rattle.disco_values.proofs.merge.first_of.Goals as goal

pub returns-in-None-Some-clause-entry : goal.returns-in-None-Some-clause-entry
returns-in-None-Some-clause-entry c =
    let others : c.args.others.now ≡ c.in-None-Some.entry.now ∷ c.in-None-Some.others.now = c.in-None-Some.ensures'.cases.0 in
    let own : c.args.own.now ≡ [] = is_empty c.args.own.now c.in-None-Some.ensures.cases in
    (λ i. with_entries (own i) (others i)) ∙ only_others c.in-None-Some.entry.now c.in-None-Some.others.now (ap is_by_name (sym others) ∙ c.requires) ∙ (λ i. c.in-None-Some.entry.now ∷ with_entries (sym own i) c.in-None-Some.others.now)

pub returns-in-Less-clause-entry : goal.returns-in-Less-clause-entry
returns-in-Less-clause-entry c =
    let s = c.in-Some-Some in
    let own : c.args.own.now ≡ s.mine.now ∷ s.own_left.now = s.ensures.cases.0 in
    let others : c.args.others.now ≡ s.entry.now ∷ s.others_left.now = s.ensures'.cases.0 in
    (λ i. with_entries (own i) (others i)) ∙ mine_first s.mine.now s.entry.now s.own_left.now s.others_left.now (ap is_by_name (sym others) ∙ c.requires) (sym c.cmp.ensures ∙ c.in-Less.is)
    ∙ (λ i. s.mine.now ∷ with_entries s.own_left.now (sym others i))

pub returns-in-Equal-clause-entry : goal.returns-in-Equal-clause-entry
returns-in-Equal-clause-entry c =
    let s = c.in-Some-Some in
    let own : c.args.own.now ≡ s.mine.now ∷ s.own_left.now = s.ensures.cases.0 in
    let others : c.args.others.now ≡ s.entry.now ∷ s.others_left.now = s.ensures'.cases.0 in
    (λ i. with_entries (own i) (others i)) ∙ instead s.mine.now s.entry.now s.own_left.now s.others_left.now (ap is_by_name (sym others) ∙ c.requires) (sym c.cmp.ensures ∙ c.in-Equal.is)

pub returns-in-Greater-clause-entry : goal.returns-in-Greater-clause-entry
returns-in-Greater-clause-entry c =
    let s = c.in-Some-Some in
    let own : c.args.own.now ≡ s.mine.now ∷ s.own_left.now = s.ensures.cases.0 in
    let others : c.args.others.now ≡ s.entry.now ∷ s.others_left.now = s.ensures'.cases.0 in
    (λ i. with_entries (own i) (others i)) ∙ other_first s.mine.now s.entry.now s.own_left.now s.others_left.now (ap is_by_name (sym others) ∙ c.requires) (sym c.cmp.ensures ∙ c.in-Greater.is)
    ∙ (λ i. s.entry.now ∷ with_entries (sym own i) s.others_left.now)
