use Rattle.std.proofs.Common.{◌++◌, codes}
use Rattle.std.proofs.lemmas.Result.{err_from_is_err_and}
use Rattle.std.specs.Fmt.{decimal}
use Rattle.disco_http.proofs.Written.{not_written, then_written}
use Rattle.disco_options.proofs.faults.write_end.Goals as goal

pub returns-in_err-write_number : goal.returns-in_err-write_number
returns-in_err-write_number g c =
    let p = err_from_is_err_and c.from_residual.result c.from_residual.ensures.1 in
    not_written c.from_residual.result p.0 _ _ _ _ (c.args.text.now ++ decimal c.args.number) (codes "\n") p.1 c.in_err-write_number.ensures

pub returns : goal.returns
returns g c = then_written c.write_all.result _ _ _ _ _ _ (c.args.text.now ++ decimal c.args.number) (codes "\n") c.in_ok-write_number.ensures c.write_all.ensures.written
