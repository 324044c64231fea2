use Rattle.std.proofs.Common.{◌≡◌, ◌<◌, List, ℕ, Some, Ok, length, ap, ◌∙◌, arith}
use Rattle.std.proofs.lemmas.Bool.Decides.{nat_tests}
use Rattle.serde_json.specs.Written.{compact_text}
use Rattle.disco_history.specs.Hash.{hash}
use Rattle.disco_wire.specs.Meaning.{meant}
use Rattle.disco_wire.specs.declared.wire.Shape.TheVariants.{Many}
use Rattle.disco_wire.specs.Rows.{held_entries, mentions_in, rows_in}
use Rattle.disco_wire.specs.Written.{document_tree}
use Rattle.disco_writer.proofs.document.write_some.Goals as goal

pub returns-clause-written : goal.returns-clause-written
returns-clause-written c = λ agree.
    let es = held_entries c.args.held.now in
    let some : 0 < length c.args.held.now = grind (arith, nat_tests, c.is_empty.ensures, c.if-is_empty.false) in
    let code : c.in_ok-hash.hash ≡ hash (rows_in es) = c.in_ok-hash.ensures.text (rows_in es) c.count.ensures in (
      some,
      c.in_ok-many_text.ensures.text agree ∙ ap (λ (t : List ℕ). compact_text (document_tree c.args.form es t c.args.version)) code,
      c.in_ok-many_text.ensures.means agree ∙ ap (λ (t : List ℕ). Ok (meant Many (Some t) (Some c.args.version) (mentions_in c.args.form es))) code,
    )
