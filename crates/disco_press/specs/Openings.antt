-- What names a desk before a type stands for it.
use Rattle.std.specs.Prelude.{◌≡◌, ℕ}
use Rattle.disco_press.specs.declared.opening.Opening.{Opening}

-- it is the one of this name: that of the press list, and those of the book of counts and of its parts
pub record Opens (list name parts : ℕ) (o : Opening) : Type 0 where
  pub marks : o.marks.name ≡ list
  pub name_is : o.blank.name ≡ name
  pub parts_are : o.blank.parts ≡ parts
