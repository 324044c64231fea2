-- How code keeps the values of a name: nothing here is to be believed.
use Rattle.std.specs.Prelude.{◌≡◌, ℕ, List, [], ◌∷◌}
use Rattle.disco_message.specs.declared.fields.Few.{Few}
use Rattle.disco_message.specs.declared.fields.Few.TheVariants as few

-- the values are none, this one, or more
abbrev pub FewAre : Few → List (List ℕ) → Type 0
FewAre few.None vs = vs ≡ []
FewAre (few.One v) vs = vs ≡ v.now ∷ []
FewAre few.Many vs = (a : List ℕ) × (b : List ℕ) × (rest : List (List ℕ)) × (vs ≡ a ∷ b ∷ rest)
