use Rattle.std.proofs.Common.{zero, suc, ◌+◌, List, [], ◌∷◌, All, subst, sym, arith, ap, ◌∙◌}
use Rattle.std.proofs.lemmas.List.Elements.{All-append}
use Rattle.disco_press.specs.Seats.{IsNew, SeatState}
use Rattle.disco_press.proofs.seats.seats_of.Goals as goal

one : (P : SeatState → Type 0) (s : SeatState) → P s → All P (s ∷ [])
one P s is zero d lt = is
one P s is (suc k) d lt = absurd (omega (arith, lt))

pub loop-preserved : goal.loop-preserved
loop-preserved g c =
    let P : SeatState → Type 0 = λ s. IsNew c.args.log.now.published s in (
      omega (arith, c.in_ok-seat.ensures.rest.0, c.loop.invariant.0),
      c.in_ok-seat.ensures.rest.1,
      c.in_ok-push.ensures.len ∙ ap (λ n. n + 1) c.loop.invariant.2,
      subst (λ (l : List SeatState). All P l) (sym c.in_ok-push.ensures.items) (All-append P c.loop.seats.items (c.in_ok-seat.seat ∷ []) c.loop.invariant.3 (one P c.in_ok-seat.seat c.in_ok-seat.ensures.seat)),
    )
