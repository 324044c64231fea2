use Rattle.std.proofs.Common.{◌∷◌, ◌++◌, [], ◌+◌, ap, sym, ◌∙◌, arith, length}
use Rattle.std.proofs.lemmas.List.{length-append}
use Rattle.disco_server.specs.Tasks.{most_held}
use Rattle.disco_server.proofs.FirstKeys.{behind_full, behind_short, next_full, next_short, one_moved}
use Rattle.disco_server.proofs.expiry.fill.Goals as goal

pub loop-preserved : goal.loop-preserved
loop-preserved c =
    let all = c.args.next.now.items ++ c.args.behind.now.items in
    let behind = c.first_of.new.behind.items in
    let key = c.in-Some.key in
    let pushed = c.push_reserved.ensures in
    let inv = c.loop.invariant in (
      ap (λ l. l ++ behind) pushed.items ∙ one_moved c.loop.next.items c.loop.behind.items behind all key inv.0 c.in-Some.ensures,
      pushed.len ∙ ap (λ n. n + 1) inv.1,
      ap length pushed.items ∙ length-append c.loop.next.items (key ∷ []) ∙ ap (λ n. n + 1) inv.2,
      omega (arith, c.loop-test.true),
      omega (arith, pushed.capacity, inv.4),
    )

pub returns-in_default-clause-next : goal.returns-in_default-clause-next
returns-in_default-clause-next c =
    let all = c.args.next.now.items ++ c.args.behind.now.items in
    let inv = c.loop.invariant in
    next_short most_held c.loop.next.items c.loop.behind.items all inv.0 c.in_default.ensures.0 (omega (arith, inv.2, inv.3))

pub returns-in_default-clause-behind : goal.returns-in_default-clause-behind
returns-in_default-clause-behind c =
    let all = c.args.next.now.items ++ c.args.behind.now.items in
    let inv = c.loop.invariant in
    c.in_default.ensures.1 ∙ sym c.in_default.ensures.0 ∙ behind_short most_held c.loop.next.items c.loop.behind.items all inv.0 c.in_default.ensures.0 (omega (arith, inv.2, inv.3))

pub returns-clause-next : goal.returns-clause-next
returns-clause-next c =
    let inv = c.loop.invariant in
    next_full most_held c.loop.next.items c.loop.behind.items (c.args.next.now.items ++ c.args.behind.now.items) inv.0 (omega (arith, inv.2, inv.3, c.loop-test.false))

pub returns-clause-behind : goal.returns-clause-behind
returns-clause-behind c =
    let inv = c.loop.invariant in
    behind_full most_held c.loop.next.items c.loop.behind.items (c.args.next.now.items ++ c.args.behind.now.items) inv.0 (omega (arith, inv.2, inv.3, c.loop-test.false))
