use Rattle.std.proofs.Common.{◌++◌, List, ℕ, ap, ◌∙◌}
use Rattle.disco_wire.specs.Documents.{document_of}
use Rattle.disco_writer.specs.Joined.{one_joined}
use Rattle.disco_writer.proofs.Joins.{one_holds}
use Rattle.disco_writer.proofs.join.join_one.Goals as goal

pub returns-clause-text : goal.returns-clause-text
returns-clause-text c = λ f e is.
    c.in_ok-push_one.ensures.items ∙ ap (λ (s : List ℕ). s ++ one_joined c.args.text.now) c.in_ok-out.ensures.items ∙ (one_holds f c.args.text.now e is).0

pub returns-clause-means : goal.returns-clause-means
returns-clause-means c = λ f e is.
    ap document_of (c.in_ok-push_one.ensures.items ∙ ap (λ (s : List ℕ). s ++ one_joined c.args.text.now) c.in_ok-out.ensures.items) ∙ (one_holds f c.args.text.now e is).1
