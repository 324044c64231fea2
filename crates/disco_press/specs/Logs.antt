-- Press lists by their publications.
use Rattle.std.specs.Prelude.{List, [], ◌∷◌, ◌++◌, flat_map, fold}
use Rattle.disco_history.specs.Change.{change_view}
use Rattle.disco_hub.specs.Press.{Note, begin, change, note_of}
use Rattle.disco_press.specs.declared.entry.LogEntry.{LogEntry}
use Rattle.disco_press.specs.declared.entry.LogEntry.TheVariants as entry

-- all that these publications noted, in order
abbrev pub notes_in : List (List Note) → List Note
notes_in ps = flat_map (λ p. p) ps

-- the publications, each with what it noted, and what was noted since
pub record Logged : Type 0 where
  pub published : List (List Note)
  pub pending : List Note

-- all that was noted, published or not
abbrev pub all_noted : Logged → List Note
all_noted r = notes_in r.published ++ r.pending

abbrev pub with_note : Logged → Note → Logged
with_note r n = record r { pending = r.pending ++ n ∷ [] }

abbrev pub log_on : Logged → LogEntry → Logged
log_on r entry.Begun = with_note r begin
log_on r (entry.Changed c) = with_note r (change (change_view c))
log_on r (entry.Copied c) = with_note r (note_of c)
log_on r entry.Published = record { published = r.published ++ r.pending ∷ []; pending = [] }

abbrev pub logged : List LogEntry → Logged
logged entries = fold log_on (record { published = []; pending = [] }) entries

abbrev pub publications : List LogEntry → List (List Note)
publications entries = (logged entries).published
