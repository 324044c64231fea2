use Rattle.std.proofs.Common.{◌≡◌, ℕ, ◌+◌, ◌-◌, Bool, eqb, take, drop, sym, ap, ◌∙◌, arith}
use Rattle.std.specs.List.{position}
use Rattle.std.proofs.lemmas.List.{take_rest}
use Rattle.disco_lines.proofs.First.{found_in_block, past_block, found_in_rest, not_in_rest}
use Rattle.disco_lines.proofs.find.first_of.Goals as goal

pub returns-in-Some : goal.returns-in-Some
returns-in-Some c =
    let p : ℕ → Bool = λ b. eqb b c.args.byte in
    let bytes = c.args.bytes.now in
    let at = c.loop-at.at in
    let width : at + 8 - at ≡ 8 = omega arith in
    found_in_block p at 8 c.in-Some.found bytes (omega arith) c.loop-at.invariant.so_far
    (c.in-Some.ensures ∙ ap (λ n. position p (take n (drop at bytes))) width)

pub loop-at-preserved : goal.loop-at-preserved
loop-at-preserved c =
    let p : ℕ → Bool = λ b. eqb b c.args.byte in
    let bytes = c.args.bytes.now in
    let at = c.loop-at.at in
    let width : at + 8 - at ≡ 8 = omega arith in
    record {
      within = omega arith;
      so_far = past_block p at 8 bytes (omega arith) c.loop-at.invariant.so_far
          (sym c.in_default.is ∙ c.first_in_block.ensures ∙ ap (λ n. position p (take n (drop at bytes))) width);
    }

pub returns-in_err-found : goal.returns-in_err-found
returns-in_err-found c =
    let p : ℕ → Bool = λ b. eqb b c.args.byte in
    let bytes = c.args.bytes.now in
    let at = c.loop-at.at in
    c.from_residual.ensures ∙ not_in_rest p at bytes c.loop-at.invariant.within c.loop-at.invariant.so_far
    (c.in_err-found.ensures ∙ ap (position p) (take_rest bytes at))

pub returns : goal.returns
returns c =
    let p : ℕ → Bool = λ b. eqb b c.args.byte in
    let bytes = c.args.bytes.now in
    let at = c.loop-at.at in
    found_in_rest p at c.in_ok-found.found bytes c.loop-at.invariant.within c.loop-at.invariant.so_far
    (c.in_ok-found.ensures ∙ ap (position p) (take_rest bytes at))
