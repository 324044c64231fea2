use Rattle.std.proofs.Common.{◌∷◌, [], decimal, sym, ap, ◌∙◌, arith}
use Rattle.std.specs.Option.{option_copied}
use Rattle.disco_values.specs.Status.{status_name}
use Rattle.disco_index.specs.Behind.{behind}
use Rattle.disco_index.proofs.Stripped.{behind-piece, then}
use Rattle.disco_index.proofs.behind.behind_piece.Goals as goal

pub returns-in_err-rest-3 : goal.returns-in_err-rest-3
returns-in_err-rest-3 c =
    let n = c.args.count in
    ap option_copied c.from_residual-in_err-rest-3.ensures
    ∙ sym (behind-piece (status_name c.args.status) n c.args.text.now (omega arith) c.ranges.count.fits
    ∙ ap (λ name. then (95 ∷ []) (then (decimal n) (then (95 ∷ []) (behind name c.args.text.now)))) (sym c.name.ensures)
    ∙ ap (λ x. then (95 ∷ []) (then (decimal n) (then (95 ∷ []) x))) (sym c.in_ok-rest.ensures)
    ∙ ap (λ x. then (95 ∷ []) (then (decimal n) x)) (sym c.in_ok-rest-2.ensures)
    ∙ ap (then (95 ∷ [])) (sym c.in_err-rest-3.ensures))

pub returns : goal.returns
returns c =
    let n = c.args.count in
    c.behind_byte-2.ensures
    ∙ sym (behind-piece (status_name c.args.status) n c.args.text.now (omega arith) c.ranges.count.fits
    ∙ ap (λ name. then (95 ∷ []) (then (decimal n) (then (95 ∷ []) (behind name c.args.text.now)))) (sym c.name.ensures)
    ∙ ap (λ x. then (95 ∷ []) (then (decimal n) (then (95 ∷ []) x))) (sym c.in_ok-rest.ensures)
    ∙ ap (λ x. then (95 ∷ []) (then (decimal n) x)) (sym c.in_ok-rest-2.ensures)
    ∙ ap (then (95 ∷ [])) (sym c.in_ok-rest-3.ensures))
