-- What was noted and published for readers, by events and their replies (this project's own rule).
use Rattle.std.specs.Prelude.{ℕ, List, [], ◌++◌, Option, option_and_then}
use Rattle.std.specs.FinMap.{get}
use Rattle.disco_values.specs.declared.doc_key.DocKey.{DocKey}
use Rattle.disco_cache.specs.declared.payload.Payload.{Payload}
use Rattle.disco_hub.specs.Press.{Note, edition_of}

-- of the run that is running: the notes that were published, those since, and how many events there were up to the beginning of the round that began
-- last, and up to that of the round published last, or up to the run's where there is none
pub record Press : Type 0 where
  pub published : List Note
  pub pending : List Note
  pub begun : ℕ
  pub floor : ℕ

-- nothing is noted since a run began, up to whose beginning there were so many events
abbrev pub press_from : ℕ → Press
press_from i = record { published = []; pending = []; begun = i; floor = i }

abbrev pub all_of : Press → List Note
all_of s = s.published ++ s.pending

-- what readers see at a key
abbrev pub seen_at : Press → Option DocKey → Option Payload
seen_at s key = option_and_then (λ k. get (edition_of s.published) k) key
