-- The room behind what is unread.
use Rattle.std.proofs.Common.{◌≡◌, ◌≤◌, ◌++◌, ◌∷◌, [], List, Option, None, Some, ℕ, zero, suc, ap, append-nil, arith, drop, length, min, refl, sym, take, vec_len, ◌∙◌}
use Rattle.std.proofs.lemmas.List.{drop_all, length-append, length-drop, length-take, take-append-le, take-take, take_all, with_items_is}
use Rattle.std.proofs.Math.Seq.{drop-append_seam}
use Rattle.std.proofs.Math.Bridge.{le_prop}
use Rattle.disco_message.proofs.RequestHeads.{same_front}
use Rattle.disco_message.specs.declared.limits.Limits.{Limits}
use Rattle.disco_http.specs.declared.incoming.Incoming.{Incoming}
use Rattle.disco_http.specs.declared.session.End.{End}
use Rattle.disco_http.specs.declared.steps.Session.{Session}
use Rattle.disco_http.specs.declared.steps.State.{State}
use Rattle.disco_http.specs.declared.steps.State.TheVariants.{Waits, Looks, Writes, Over}
use Rattle.disco_http.specs.declared.unread.Unread.{Unread}
use Rattle.disco_http.specs.Sessions.{Holds, Leaves, lent_by}
use Rattle.disco_http.specs.Unread.{bytes_of, room_of, with_room}

-- what is written into the room changes nothing that is unread
pub bytes_kept : (unread : Unread) (came : List ℕ) → bytes_of (with_room unread came) ≡ bytes_of unread
bytes_kept unread came =
    let items = unread.buffer.items in
    let front = take unread.end items in
    let behind = came ++ drop (length came) (drop unread.end items) in
    let written = front ++ behind in
    let all : unread.end ≤ length items = omega (arith, unread.within, unread.buffer.ok.0) in
    let size : length front ≡ unread.end = omega (arith, length-take unread.end items, all) in
    let more : unread.end ≤ length written = omega (arith, length-append front behind, size) in
    let same : unread.end ≤ unread.end = omega arith in
    let whole : unread.end ≤ length front = omega (arith, size) in
    same_front items (with_room unread came).buffer.items unread.start unread.end unread.ordered (
    take-take unread.end unread.buffer.len (written ++ drop (length written) items) unread.within
    ∙ take-append-le unread.end written (drop (length written) items) more
    ∙ take-append-le unread.end front behind whole
    ∙ take-take unread.end unread.end items same
    )

-- as many bytes as there is room for are then the room
pub room_written : (unread : Unread) (came : List ℕ) → length came ≡ length (room_of unread) → room_of (with_room unread came) ≡ came
room_written unread came fits =
    let items = unread.buffer.items in
    let front = take unread.end items in
    let behind = came ++ drop (length came) (room_of unread) in
    let none : drop (length came) (room_of unread) ≡ [] = drop_all (length came) (room_of unread) (omega (arith, fits)) in
    let is : behind ≡ came = ap (λ (xs : List ℕ). came ++ xs) none ∙ append-nil came in
    let all : unread.end ≤ length items = omega (arith, unread.within, unread.buffer.ok.0) in
    let size : length front ≡ unread.end = omega (arith, length-take unread.end items, all) in
    let whole : length (front ++ behind) ≡ unread.buffer.len = omega (arith, length-append front behind, ap length is, fits, length-drop unread.end items, size, all, unread.buffer.ok.0) in
    ap (drop unread.end) (with_items_is unread.buffer (front ++ behind) whole)
    ∙ ap (λ n. drop n (front ++ behind)) (sym size)
    ∙ drop-append_seam front behind
    ∙ is

nothing : (xs : List ℕ) → length xs ≡ 0 → [] ≡ xs
nothing [] none = refl
nothing (x ∷ xs) none = absurd (omega (arith, none))

pub lent_written : {D : Type 0} (state : State D) (unread : Unread) (came : List ℕ) → length came ≡ length (lent_by state unread) → lent_by state (with_room unread came) ≡ came
lent_written Waits unread came fits = room_written unread came fits
lent_written Looks unread came fits = nothing came fits
lent_written (Writes o) unread came fits = nothing came fits
lent_written (Over end) unread came fits = nothing came fits

pub lent_whole : {D : Type 0} (state : State D) (unread : Unread) → take (length (lent_by state unread)) (room_of unread) ≡ lent_by state unread
lent_whole Waits unread = take_all (length (room_of unread)) (room_of unread) (omega arith)
lent_whole Looks unread = refl
lent_whole (Writes o) unread = refl
lent_whole (Over end) unread = refl

-- no bytes of no room
pub none_taken : (xs : List ℕ) (count least : ℕ) → least ≡ min count (length xs) → least ≡ 0 → take count xs ≡ []
none_taken [] zero least is none = refl
none_taken [] (suc count) least is none = refl
none_taken (x ∷ xs) zero least is none = refl
none_taken (x ∷ xs) (suc count) least is none = absurd (omega (arith, is, none))

-- a session that keeps its phase and what is unread holds the same
leaves_same : (limits : Limits) (old new : Incoming) (rest : List ℕ) (end : Option End) → new.phase ≡ old.phase → bytes_of new.unread ≡ bytes_of old.unread → Leaves limits old rest end → Leaves limits new rest end
leaves_same limits old new rest None phase bytes left = rw (phase, bytes) left
leaves_same limits old new rest (Some End.Closed) phase bytes left = left
leaves_same limits old new rest (Some (End.Fault f)) phase bytes left = left
leaves_same limits old new rest (Some end) phase bytes left = rw bytes left

pub holds_same : {D : Type 0} (content : D → List ℕ) (limits : Limits) (old new : Incoming) (state : State D) (rest : List ℕ) → new.phase ≡ old.phase → bytes_of new.unread ≡ bytes_of old.unread → Holds content limits old state rest → Holds content limits new state rest
holds_same content limits old new Waits rest phase bytes held = rw (phase, bytes) held
holds_same content limits old new Looks rest phase bytes held = rw (phase, bytes) held
holds_same content limits old new (Writes o) rest phase bytes held = (leaves_same limits old new rest o.end phase bytes held.0, held.1)
holds_same content limits old new (Over end) rest phase bytes held = leaves_same limits old new rest (Some end) phase bytes held

-- that the buffer fits is said in one way
pub same_session : {D : Type 0} (session : Session D) (size : vec_len session.incoming.unread.buffer ≤ session.limits.head) → record session { size = size } ≡ session
same_session session size = λ i. record session { size = le_prop size session.size i }
