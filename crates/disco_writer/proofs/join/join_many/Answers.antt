use Rattle.std.proofs.Common.{◌++◌, List, ℕ, ap, ◌∙◌, subst, IsUtf8}
use Rattle.disco_wire.specs.Documents.{document_of}
use Rattle.disco_writer.specs.Joined.{shown_by, many_joined}
use Rattle.disco_writer.proofs.Joins.{many_holds}
use Rattle.disco_writer.proofs.join.join_many.Goals as goal

pub returns-clause-text : goal.returns-clause-text
returns-clause-text c = λ f es all.
    let is = ap (λ (s : List ℕ). s ++ many_joined (shown_by c.args.pieces.now) c.args.hash.now c.args.version) c.in_ok-out.ensures in
    c.in_ok-push_many.ensures.items ∙ is ∙ (many_holds f (shown_by c.args.pieces.now) es c.args.hash.now c.args.version all (subst IsUtf8 c.as_str-hash.ensures c.as_str-hash.utf8) c.ranges.version.fits).0

pub returns-clause-means : goal.returns-clause-means
returns-clause-means c = λ f es all.
    let is = ap (λ (s : List ℕ). s ++ many_joined (shown_by c.args.pieces.now) c.args.hash.now c.args.version) c.in_ok-out.ensures in
    ap document_of (c.in_ok-push_many.ensures.items ∙ is) ∙ (many_holds f (shown_by c.args.pieces.now) es c.args.hash.now c.args.version all (subst IsUtf8 c.as_str-hash.ensures c.as_str-hash.utf8) c.ranges.version.fits).1
