use Rattle.std.proofs.Common.{◌+◌, ◌∙◌, ◌++◌, ap, rules, slice_range, take}
use Rattle.std.proofs.lemmas.List.{with_items_is}
use Rattle.std.proofs.lemmas.Result.{err_from_is_err_and}
use Rattle.disco_message.proofs.RequestHeads.{same_front}
use Rattle.disco_http.proofs.Slices.{part_size, slice_join}
use Rattle.disco_http.proofs.unread.Unread.read_from.Goals as goal

pub returns-in_err-count-clause-broken : goal.returns-in_err-count-clause-broken
returns-in_err-count-clause-broken g c =
    let p = err_from_is_err_and c.from_residual.result c.from_residual.ensures.1 in
    let mid = c.make_room.new.self in
    let new = c.read_at.new.buffer in
    let kept = with_items_is mid.buffer new (search rules) in
    let front = same_front mid.buffer.items new mid.start mid.end mid.ordered (c.in_err-count.ensures.front ∙ ap (take mid.end) c.as_mut_slice.ensures.value) in
    rw (p.1, kept) (front ∙ c.make_room.ensures.same, c.in_err-count.ensures.err)

pub returns-clause-came : goal.returns-clause-came
returns-clause-came g c =
    let mid = c.make_room.new.self in
    let new = c.read_at.new.buffer in
    let count = c.in_ok-count.count in
    let kept = with_items_is mid.buffer new (search rules) in
    let front = same_front mid.buffer.items new mid.start mid.end mid.ordered (c.in_ok-count.ensures.front ∙ ap (take mid.end) c.as_mut_slice.ensures.value) in
    rw kept ((
      slice_range new mid.end (mid.end + count),
      slice_join new mid.start mid.end count mid.ordered ∙ ap (λ xs. xs ++ slice_range new mid.end (mid.end + count)) (front ∙ c.make_room.ensures.same),
      part_size new mid.end count (search rules),
      c.in_ok-count.ensures.bytes,
    ))
