use Rattle.std.proofs.Common.{List, ℕ, subst, sym, ap, ◌∙◌}
use Rattle.disco_history.specs.Held.{entry_of}
use Rattle.disco_history.specs.Mentions.{mention_of}
use Rattle.disco_writer.specs.Joined.{Shown}
use Rattle.disco_writer.specs.Kept.{IsTextOf}
use Rattle.disco_writer.proofs.many.one_text.Goals as goal

pub returns-clause-text : goal.returns-clause-text
returns-clause-text c = λ agree.
    let e = entry_of c.args.held.now in
    c.in_ok-join_one.ensures.text c.args.form e (subst (λ (t : List ℕ). IsTextOf c.args.form t (mention_of e)) (sym (c.bytes.ensures ∙ ap (λ (p : Shown). p.1) c.in_ok-piece.ensures.piece)) (c.in_ok-piece.ensures.told agree))

pub returns-clause-means : goal.returns-clause-means
returns-clause-means c = λ agree.
    let e = entry_of c.args.held.now in
    c.in_ok-join_one.ensures.means c.args.form e (subst (λ (t : List ℕ). IsTextOf c.args.form t (mention_of e)) (sym (c.bytes.ensures ∙ ap (λ (p : Shown). p.1) c.in_ok-piece.ensures.piece)) (c.in_ok-piece.ensures.told agree))
