use Rattle.std.proofs.Common.{drop, get_or, sym, ap, ◌∙◌, ◌+◌, arith}
use Rattle.std.proofs.lemmas.List.{at_drop_more, at_drop_all}
use Rattle.disco_values.proofs.Parsed.{number_after, no_more, nothing_left}
use Rattle.disco_values.proofs.digits.number_of_digits.Goals as goal

pub returns-in_err-number : goal.returns-in_err-number
returns-in_err-number c =
    let bytes = c.as_bytes-byte-items.result.now in
    let i = c.loop-byte.byte-index in
    let n = c.loop-byte.number in
    c.from_residual.ensures ∙ (no_more n (get_or bytes i 0) (drop (i + 1) bytes) c.in_err-number.ensures
    ∙ (sym (at_drop_more (number_after n) bytes i 0 (omega arith))
    ∙ (ap (λ bs. number_after n (drop i bs)) c.as_bytes-byte-items.ensures.value ∙ c.loop-byte.invariant.rest)))

pub returns : goal.returns
returns c =
    let n = c.loop-byte.number in
    nothing_left n c.loop-byte.invariant.fits
    ∙ (sym (at_drop_all (number_after n) c.args.text.now c.loop-byte.byte-index (omega arith)) ∙ c.loop-byte.invariant.rest)
