use Rattle.std.proofs.Common.{sym, ◌∙◌, lit<}
use Rattle.disco_index.proofs.Commas.{cut_full, whole_full}
use Rattle.disco_index.proofs.address.next_vip.Goals as goal

pub returns-then-not-is_empty : goal.returns-then-not-is_empty
returns-then-not-is_empty c =
    let parts = c.in-Some.ensures.byte (lit< tt) (λ w o h. h) in
    sym c.loop-piece.invariant.1 ∙ cut_full c.loop-piece.rest.now c.in-Some.piece.now c.in-Some.after.now parts.2 parts.0 parts.1 (sym c.is_empty.ensures ∙ c.if-not-is_empty.true)

pub returns-else-is_empty : goal.returns-else-is_empty
returns-else-is_empty c =
    let none = c.in_default.ensures.byte (lit< tt) (λ w o h. h) in
    sym c.loop-piece.invariant.1 ∙ whole_full c.loop-piece.rest.now none (sym c.is_empty-2.ensures ∙ c.if-is_empty.false)
