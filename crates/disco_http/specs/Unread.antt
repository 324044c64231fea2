-- What came and was not yet used.
use Rattle.std.specs.Prelude.{ℕ, List, drop, slice_range}
use Rattle.std.specs.Borrow.{Array, Fml, Lends, MutBor, u8}
use Rattle.std.specs.Vec.{with_items_from}
use Rattle.disco_http.specs.contracts.unread.Unread.{the_row}
use Rattle.disco_http.specs.declared.unread.Unread.{Unread}

-- the bytes that came and were not yet used
abbrev pub bytes_of : Unread → List ℕ
bytes_of unread = slice_range unread.buffer.items unread.start unread.end

-- what stands in the buffer behind them
abbrev pub room_of : Unread → List ℕ
room_of unread = drop unread.end unread.buffer.items

-- the same with these bytes at the front of the room
abbrev pub with_room : Unread → List ℕ → Unread
with_room unread came = record unread { buffer = with_items_from unread.buffer unread.end came }

-- once the borrow ends, the room has what was written
abbrev pub LendsRoom : MutBor Unread → MutBor (List ℕ) → Fml
LendsRoom unread room = Lends the_row (Array u8 0) unread room (with_room unread.now)
