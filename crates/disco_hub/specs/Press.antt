-- Press lists: what a publisher and the writers noted, in order, and what readers see of it (this project's own rule).
use Rattle.std.specs.Prelude.{◌≡◌, ℕ, Bool, true, false, List, [], ◌∷◌, ◌++◌, flat_map, fold, map, Option, Some, None, IfSome}
use Rattle.std.specs.Option.{option_map_or}
use Rattle.std.specs.List.{list_any}
use Rattle.std.specs.FinMap.{FinMap, contains_key, empty, insert, remove}
use Rattle.disco_history.specs.Change.{Entry}
use Rattle.disco_history.specs.Query.{is_absent}
use Rattle.disco_history.specs.Registry.{registry_of}
use Rattle.disco_wire.specs.Documents.{asked_by}
use Rattle.disco_values.specs.Keys.{doc_cmp, same_doc}
use Rattle.disco_cache.specs.Payloads.{IsTruePayload}
use Rattle.disco_values.specs.declared.doc_key.DocKey.{DocKey}
use Rattle.disco_cache.specs.declared.payload.Payload.{Payload}
use Rattle.disco_hub.specs.Rounds.{KeySet, Round}
use Rattle.disco_hub.specs.declared.copied.Copied.{Copied}
use Rattle.disco_hub.specs.declared.copied.Copied.TheVariants as copied

-- a round begins; the registry changes; a document is copied; a key is copied of which there is none
pub data Note : Type 0 where
  begin : Note
  change : Entry → Note
  doc : Payload → Note
  gone : DocKey → Note

-- the key of what was copied
abbrev pub key_of_copy : Copied → DocKey
key_of_copy (copied.Doc d) = d.value.key
key_of_copy (copied.Drop k) = k

-- whether it is a document
abbrev pub is_doc : Copied → Bool
is_doc (copied.Doc d) = true
is_doc (copied.Drop k) = false

-- an edition with what was copied of a key
abbrev pub put_copy : FinMap doc_cmp Payload → Copied → FinMap doc_cmp Payload
put_copy m (copied.Doc d) = insert m d.value.key d.value
put_copy m (copied.Drop k) = remove m k

-- what is noted when a key was copied
abbrev pub note_of : Copied → Note
note_of (copied.Doc d) = doc d.value
note_of (copied.Drop k) = gone k

-- the changes of a list
abbrev pub noted : List Entry → Note → List Entry
noted h (change c) = h ++ c ∷ []
noted h _ = h

abbrev pub changes_in : List Note → List Entry
changes_in l = fold noted [] l

-- a note may come behind these changes of a run: its document is true of them, or it has none
abbrev pub Fits : ℕ → List Entry → Note → Type 0
Fits run h (doc d) = IsTruePayload run d h
Fits run h (gone k) = is_absent (registry_of h) (asked_by k.query) ≡ true
Fits run h _ = Unit {0}

abbrev pub IsLegal : ℕ → List Note → Type 0
IsLegal run l = (before : List Note) (n : Note) (after : List Note) → l ≡ before ++ n ∷ after → Fits run (changes_in before) n

-- documents by their keys
abbrev pub Edition : Type 0
Edition = FinMap doc_cmp Payload

abbrev pub edit : Edition → Note → Edition
edit m (doc d) = insert m d.key d
edit m (gone k) = remove m k
edit m _ = m

-- the edition of a list: of each key the document that was copied last, unless there was none later
abbrev pub edition_of : List Note → Edition
edition_of l = fold edit empty l

abbrev pub edit_anew : Edition → Note → Edition
edit_anew m begin = empty
edit_anew m n = edit m n

-- what was copied since the last round began
abbrev pub copied_in : List Note → Edition
copied_in l = fold edit_anew empty l

-- a list that readers may see: each document of its edition was copied since the last round began
abbrev pub IsPublishable : List Note → Type 0
IsPublishable l = edition_of l ≡ copied_in l

-- what a note is to a round: its beginning (`None`), a key that is copied, with whether it had a document, or nothing
abbrev pub step : Note → List (Option (DocKey × Bool))
step begin = None ∷ []
step (change c) = []
step (doc d) = Some (d.key, true) ∷ []
step (gone k) = Some (k, false) ∷ []

-- what was published and what was noted since are in step with the edition's keys and the open round: its beginning and what was copied in it were noted
pub record IsInStep (published pending : List Note) (edition : KeySet) (round : Option Round) : Type 0 where
  pub keys : (k : DocKey) → contains_key edition k ≡ contains_key (edition_of published) k
  pub steps : flat_map step pending ≡ option_map_or (λ r. None ∷ map Some r.done) round []
  pub covers : IfSome round (λ r. (k : DocKey) → contains_key edition k ≡ true → list_any (same_doc k) (map (λ d. d.0) r.done ++ r.left) ≡ true)

-- what was noted in a run is legal and has these changes, what was published may be seen by readers, and all is in step with the keys of an edition
-- and with a round
pub record IsPressed (run : ℕ) (published pending : List Note) (h : List Entry) (edition : KeySet) (round : Option Round) : Type 0 where
  pub changes : changes_in (published ++ pending) ≡ h
  pub legal : IsLegal run (published ++ pending)
  pub publishable : IsPublishable published
  pub in_step : IsInStep published pending edition round
