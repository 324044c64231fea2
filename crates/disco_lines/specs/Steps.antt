-- Private steps of reading and writing lines. Nothing here is to be believed.
use Rattle.std.specs.Prelude.{ℕ, Bool, List, [], ◌∷◌, ◌==◌, ◌++◌, codes, decimal, Option, Some, None}
use Rattle.disco_cache.specs.declared.payload.Payload.{Payload}
use Rattle.disco_world.specs.declared.event.Event.{Event}
use Rattle.disco_lines.specs.Words.{words}

-- the byte between two words
abbrev pub is_space : ℕ → Bool
is_space b = b == 32

-- the byte behind a line
abbrev pub is_feed : ℕ → Bool
is_feed b = b == 10

-- `doc BASE VERSION `
abbrev pub document_front : Payload → List ℕ
document_front p = codes "doc " ++ decimal p.base ++ codes " " ++ decimal p.version ++ codes " "

-- the words that are still to be read
abbrev pub words_left : Option (List ℕ) → List (List ℕ)
words_left None = []
words_left (Some rest) = words rest

-- the events that are read when a line was looked at, with the event that it means behind those before it
abbrev pub with_found : List Event → Option Event → List Event
with_found events None = events
with_found events (Some event) = events ++ event ∷ []
