-- Entries that are put in and taken out one after another. Nothing here is to be believed: no public contract rests on it.
use Rattle.std.specs.Prelude.{List, [], ◌∷◌, Option, Some, None}
use Rattle.std.specs.FinMap.{FinMap, insert, remove}
use Rattle.disco_values.specs.Key.{key_cmp}
use Rattle.disco_values.specs.declared.key.Key.{Key}
use Rattle.disco_history.specs.Change.{Entry, key_of}
use Rattle.disco_history.specs.Registry.{put_of}

-- the entry that a key gets, if it gets one
abbrev pub with_key : FinMap key_cmp Entry → Key → Option Entry → FinMap key_cmp Entry
with_key m k None = remove m k
with_key m k (Some e) = insert m k e

-- what an entry put goes in, and what it deleted goes out
abbrev pub put_or_taken : FinMap key_cmp Entry → Entry → FinMap key_cmp Entry
put_or_taken m e = with_key m (key_of e) (put_of e)

-- the same of one entry after another
abbrev pub after_all : FinMap key_cmp Entry → List Entry → FinMap key_cmp Entry
after_all m [] = m
after_all m (e ∷ es) = after_all (put_or_taken m e) es
