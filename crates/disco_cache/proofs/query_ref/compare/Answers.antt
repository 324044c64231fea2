use Rattle.std.proofs.Common.{sym}
use Rattle.std.specs.Cmp.Lexicographic.{slice_cmp}
use Rattle.std.specs.Ordering.{nat_cmp}
use Rattle.disco_values.specs.Keys.{kind_of, names_in, place_of}
use Rattle.disco_cache.specs.Kept.{query_of}
use Rattle.disco_values.proofs.Orders.{then_then}
use Rattle.disco_cache.proofs.query_ref.compare.Goals as goal

pub returns : goal.returns
returns c =
    let q = c.args.key.now.query in
    let r = query_of c.args.query_ref in
    rw (c.then.ensures, c.order.ensures, c.cmp.ensures, c.place.ensures, c.place-2.ensures)
    (sym (then_then (nat_cmp (kind_of q) (kind_of r)) (slice_cmp (slice_cmp nat_cmp) (names_in q) (names_in r)) (nat_cmp (place_of c.args.key.now.form) (place_of c.args.form))))
