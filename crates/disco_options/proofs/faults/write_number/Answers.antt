use Rattle.std.proofs.lemmas.Result.{err_from_is_err_and}
use Rattle.std.specs.Fmt.{decimal}
use Rattle.disco_http.proofs.Written.{not_written, then_written}
use Rattle.disco_options.proofs.faults.write_number.Goals as goal

pub returns-in_err-write_all : goal.returns-in_err-write_all
returns-in_err-write_all g c =
    let p = err_from_is_err_and c.from_residual.result c.from_residual.ensures.1 in
    not_written c.from_residual.result p.0 _ _ _ _ c.args.text.now (decimal c.args.number) p.1 c.in_err-write_all.ensures.written

pub returns : goal.returns
returns g c = then_written c.write_all-2.result _ _ _ _ _ _ c.args.text.now (decimal c.args.number) c.in_ok-write_all.ensures.written (rw (c.as_bytes.ensures.value, c.format.ensures.text) at c.write_all-2.ensures.written)
