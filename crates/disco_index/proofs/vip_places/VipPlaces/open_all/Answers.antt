use Rattle.std.proofs.Common.{[], rules, lit<}
use Rattle.disco_history.specs.Query.{vips}
use Rattle.disco_index.specs.Pieces.{as_vips}
use Rattle.disco_index.proofs.Alterings.{opening-end, opening-step}
use Rattle.disco_index.proofs.FirstPiece.{cut_piece, last_piece, next_length, next_rest}
use Rattle.disco_index.proofs.vip_places.VipPlaces.open_all.Goals as goal

pub loop-piece-preserved : goal.loop-piece-preserved
loop-piece-preserved c =
    let address = c.args.owner.now.address in
    let rest = c.loop-piece.rest.now in
    let piece = c.in-Some.piece.now in
    let after = c.in-Some.after.now in
    let parts = c.in-Some.ensures.byte (lit< tt) (λ w o h. h) in (
      search rules,
      next_rest address rest piece after c.loop-piece.start c.loop-piece.invariant.1 c.loop-piece.invariant.2 parts.2 parts.0 parts.1,
      next_length address rest piece after c.loop-piece.start c.loop-piece.invariant.1 c.loop-piece.invariant.2 parts.2 parts.0 parts.1,
      opening-step (vips address) c.args.owner.now.key c.args.self.now (as_vips piece) (vips rest) (vips after) c.loop-piece.self c.open_piece.new.self
          (cut_piece rest piece after parts.2 parts.0 parts.1) c.in_ok-open_piece.ensures.ok c.loop-piece.invariant.3,
    )

pub returns-clause-ok : goal.returns-clause-ok
returns-clause-ok c =
    let all = vips c.args.owner.now.address in
    let rest = c.loop-piece.rest.now in
    let k = c.args.owner.now.key in
    let none = c.in_default.ensures.byte (lit< tt) (λ w o h. h) in
    let done = opening-step all k c.args.self.now (as_vips rest) (vips rest) [] c.loop-piece.self c.open_piece-2.new.self (last_piece rest none) c.in_ok-open_piece-2.ensures.ok c.loop-piece.invariant.3 in
    opening-end all k c.args.self.now c.open_piece-2.new.self done

pub returns-clause-others : goal.returns-clause-others
returns-clause-others c =
    let all = vips c.args.owner.now.address in
    let rest = c.loop-piece.rest.now in
    let k = c.args.owner.now.key in
    let none = c.in_default.ensures.byte (lit< tt) (λ w o h. h) in
    let done = opening-step all k c.args.self.now (as_vips rest) (vips rest) [] c.loop-piece.self c.open_piece-2.new.self (last_piece rest none) c.in_ok-open_piece-2.ensures.ok c.loop-piece.invariant.3 in
    done.others
