use Rattle.std.proofs.Common.{◌≡◌, ◌+◌, [], ◌∷◌, ◌++◌, refl, ap, ◌∙◌, arith}
use Rattle.std.proofs.lemmas.List.{length-append}
use Rattle.disco_follow.specs.Follows.{nothing_told}
use Rattle.disco_follow.proofs.Turns.{texts_more, turns_more}
use Rattle.disco_follow.proofs.Appended.{appends_none}
use Rattle.disco_follow.proofs.refreshes.follow_client.Goals as goal

pub loop-done-init : goal.loop-done-init
loop-done-init g c = (([], refl, (refl, c.new-told.ensures), appends_none (g.W.Sink.contents c.args.out.now)), refl)

pub loop-done-preserved : goal.loop-done-preserved
loop-done-preserved g c =
    let out = g.W.Sink.contents in
    let before = c.loop-done.invariant.0 in
    let now = c.in_ok-told.ensures.turn in (
      (
        before.0 ++ now.0 ∷ [],
        length-append before.0 (now.0 ∷ []) ∙ ap (λ n. n + 1) before.1,
        turns_more g.F.Fetch.gives g.F.Fetch.failed c.args.wanted.now c.args.client.now nothing_told before.0 c.loop-done.client c.loop-done.told now.0 c.turn.new.client c.in_ok-told.told before.2 now.1,
        texts_more (out c.args.out.now) (out c.loop-done.out) (out c.turn.new.out) before.0 now.0 before.3 now.2,
      ),
      c.in_ok-told.ensures.none_failed ∙ c.loop-done.invariant.1,
    )

pub returns-clause-turns : goal.returns-clause-turns
returns-clause-turns g c =
    let told = c.loop-done.invariant.0 in
    let all : c.loop-done.done ≡ c.turns_of-done-end.result = omega (arith, c.loop-done-test.false, c.loop-done.auto.done-end) in
    (told.0, c.loop-done.told, told.1 ∙ all ∙ c.turns_of-done-end.ensures, told.2, told.3)
