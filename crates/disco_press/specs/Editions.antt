-- What readers take: the rule that each step of readers and writer keeps, and that a publish has to show.
use Rattle.std.specs.Prelude.{◌≡◌, ℕ, List}
use Rattle.disco_hub.specs.Press.{Edition, IsLegal, IsPublishable, Note, edition_of}
use Rattle.disco_press.specs.Logs.{notes_in, publications}
use Rattle.disco_press.specs.declared.snapshot.Snapshot.{Snapshot}

-- the documents are the edition of these publications, which are legal in one run and may be seen
pub record IsEditionOf (ps : List (List Note)) (docs : Edition) : Type 0 where
  pub docs_are : docs ≡ edition_of (notes_in ps)
  pub run : ℕ
  pub legal : IsLegal run (notes_in ps)
  pub publishable : IsPublishable (notes_in ps)

-- they are those of publications of the desk of this name
abbrev pub IsShown : ℕ → Snapshot → Type 0
IsShown name x = (x.prefix.witness.name ≡ name) × IsEditionOf (publications x.prefix.witness.items) x.docs
