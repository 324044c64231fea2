use Rattle.std.proofs.Common.{◌≡◌, ℕ, ◌<◌, List, length, map, slice_index_or, sym, ap, ◌∙◌, arith}
use Rattle.std.proofs.lemmas.List.{get_or-map}
use Rattle.disco_history.specs.declared.held.Held.{Held}
use Rattle.disco_instance.specs.Row.{Row, row}
use Rattle.disco_follow.proofs.equality.are_same.Goals as goal

abbrev row_of : Held → Row
row_of h = row h.rec.value

-- lists that show the same show the same at each place
same_at : (xs ys : List Held) (i : ℕ) (x y : Held) → i < length xs → i < length ys → x ≡ slice_index_or xs i x → y ≡ slice_index_or ys i y → map row_of xs ≡ map row_of ys → row_of x ≡ row_of y
same_at xs ys i x y in_xs in_ys x_is y_is same =
    ap row_of x_is ∙ sym (get_or-map row_of xs i x (row_of x) in_xs) ∙ ap (λ rs. slice_index_or rs i (row_of x)) same ∙ get_or-map row_of ys i y (row_of x) in_ys ∙ ap row_of (sym y_is)

pub returns-then-not-same_records : goal.returns-then-not-same_records
returns-then-not-same_records c = (
  λ bad. absurd (cc),
  λ same.
      let rows = ap row c.deref.ensures ∙ same_at c.args.ones.now c.args.others.now c.loop-i.i c.index-ones-i.result c.index-others-i.result c.loop-i-test.true (omega (arith, c.loop-i-test.true, c.loop-i.invariant.0)) c.index-ones-i.is c.index-others-i.is same ∙ ap row_of c.index-others-i.is ∙ sym (ap row c.deref-in-loop-i.ensures) in
      sym c.if-not-same_records.true ∙ c.same_records.ensures.1 rows,
)
