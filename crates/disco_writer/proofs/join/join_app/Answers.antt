use Rattle.std.proofs.Common.{◌++◌, List, ℕ, ap, ◌∙◌, subst, IsUtf8}
use Rattle.disco_wire.specs.Documents.{document_of}
use Rattle.disco_writer.specs.Joined.{shown_by, app_joined}
use Rattle.disco_writer.proofs.Joins.{app_holds}
use Rattle.disco_writer.proofs.join.join_app.Goals as goal

pub returns-clause-text : goal.returns-clause-text
returns-clause-text c = λ f es all.
    let is = ap (λ (s : List ℕ). s ++ app_joined c.args.name.now (shown_by c.args.pieces.now)) c.in_ok-out.ensures in
    c.in_ok-push_app.ensures.items ∙ is ∙ (app_holds f c.args.name.now (shown_by c.args.pieces.now) es all (subst IsUtf8 c.as_str-name.ensures c.as_str-name.utf8)).0

pub returns-clause-means : goal.returns-clause-means
returns-clause-means c = λ f es all.
    let is = ap (λ (s : List ℕ). s ++ app_joined c.args.name.now (shown_by c.args.pieces.now)) c.in_ok-out.ensures in
    ap document_of (c.in_ok-push_app.ensures.items ∙ is) ∙ (app_holds f c.args.name.now (shown_by c.args.pieces.now) es all (subst IsUtf8 c.as_str-name.ensures c.as_str-name.utf8)).1
