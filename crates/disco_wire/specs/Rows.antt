-- Held records as the entries that are written.
use Rattle.std.specs.Prelude.{List, map}
use Rattle.std.specs.List.{AllByRecursion}
use Rattle.disco_instance.specs.Row.{IsWellFormed, Row}
use Rattle.disco_values.specs.declared.form.Form.{Form}
use Rattle.disco_history.specs.Change.{Entry}
use Rattle.disco_history.specs.Forms.{mention_in}
use Rattle.disco_history.specs.Held.{entry_of}
use Rattle.disco_instance.specs.Mention.{Mention}
use Rattle.disco_history.specs.Mentions.{mention_of}
use Rattle.disco_history.specs.declared.held.Held.{Held}

abbrev pub held_entries : List Held → List Entry
held_entries hs = map entry_of hs

-- their rows alone
abbrev pub rows_in : List Entry → List Row
rows_in es = map (λ e. e.0) es

-- the mentions of these entries in a form
abbrev pub mentions_in : Form → List Entry → List Mention
mentions_in f es = map (mention_in f) (map mention_of es)

abbrev pub AreWellFormed : List Entry → Type 0
AreWellFormed es = AllByRecursion (λ e. IsWellFormed e.0) es
