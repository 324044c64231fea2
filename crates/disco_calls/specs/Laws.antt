-- Of a path, `Allow` lists exactly the methods that it has.
use Rattle.std.specs.Prelude.{◌≡◌, ◌++◌, ℕ, List, [], ◌∷◌, codes}
use Rattle.disco_message.specs.StatusLine.{allowed}
use Rattle.disco_message.specs.declared.status_line.Allow.{Allow}
use Rattle.disco_calls.specs.Methods.{names}

-- names with a comma and a space between them
abbrev pub with_commas : List (List ℕ) → List ℕ
with_commas [] = []
with_commas (name ∷ []) = name
with_commas (name ∷ next ∷ more) = name ++ codes ", " ++ with_commas (next ∷ more)

abbrev pub AllowLaw : Type 0
AllowLaw = (a : Allow) → allowed a ≡ with_commas (names a)
