-- What a look into an edition finds.
use Rattle.std.specs.Prelude.{◌≡◌, ℕ, List, Option, Some, None}
use Rattle.std.specs.FinMap.{get}
use Rattle.disco_values.specs.declared.doc_key.DocKey.{DocKey}
use Rattle.disco_cache.specs.declared.payload.Payload.{Payload}
use Rattle.disco_hub.specs.Press.{IsLegal, IsPublishable, Note, edition_of}
use Rattle.disco_hub.specs.Shown.{WasTrue}
use Rattle.disco_press.specs.declared.look.Looked.{Looked}
use Rattle.disco_press.specs.declared.look.Looked.TheVariants as looked

-- what an edition has at a key is found, unless the look is shut
abbrev pub Finds : Option Payload → Looked → Type 0
Finds o (looked.Doc d) = o ≡ Some d.value
Finds o looked.Miss = o ≡ None
Finds o looked.Shut = Unit {0}

-- what a look that is not shut shows of what was published: it is legal in one run, readers may see it, the answer is its edition's, and a document
-- is of that run and was true when it was noted, behind the beginning of the last round
abbrev pub Shows : List Note → DocKey → Looked → Type 0
Shows l k looked.Shut = Unit {0}
Shows l k looked.Miss = (run : ℕ) × IsLegal run l × IsPublishable l × (get (edition_of l) k ≡ None)
Shows l k (looked.Doc d) = IsLegal d.value.run l × IsPublishable l × (get (edition_of l) k ≡ Some d.value) × WasTrue l k d.value
