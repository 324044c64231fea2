use Rattle.std.proofs.Common.{List, ℕ, Option, ap, subst, ◌∙◌}
use Rattle.std.proofs.lemmas.Result.{IfOk-weaker}
use Rattle.disco_history.specs.Change.{change_view}
use Rattle.disco_writer.specs.Joined.{IsToldText, told_by}
use Rattle.disco_writer.specs.Kept.{kept_text_at}
use Rattle.disco_writer.proofs.delta.piece_sought.Goals as goal

pub returns-clause-piece : goal.returns-clause-piece
returns-clause-piece c =
    let e = change_view c.args.latest.now.2.now in
    let is = c.text_from-kept.ensures ∙ ap (kept_text_at c.args.texts.now) c.requires.key in
    IfOk-weaker c.piece_by.result _ _ (λ p shown. shown ∙ ap (λ (k : Option (List ℕ)). told_by c.args.form k e) is) c.piece_by.ensures.piece

pub returns-clause-told : goal.returns-clause-told
returns-clause-told c =
    let e = change_view c.args.latest.now.2.now in
    let is = c.text_from-kept.ensures ∙ ap (kept_text_at c.args.texts.now) c.requires.key in
    IfOk-weaker c.piece_by.result _ _ (λ p told. subst (λ (k : Option (List ℕ)). IsToldText c.args.form k e) is told) c.piece_by.ensures.told
