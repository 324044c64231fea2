-- The path that a request's target names (RFC 9112, section 3.2).
use Rattle.std.specs.Prelude.{ℕ, List, [], ◌∷◌, Option, Some, None, if◌then◌else◌, ◌==◌, ◌&&◌, ◌||◌, nat_le, length, take, drop, codes}
use Rattle.disco_message.specs.Fields.{eq_ignore_case}

-- from the first `/` or `?` on
abbrev pub from_path : List ℕ → List ℕ
from_path [] = []
from_path (b ∷ bs) = if b == 47 || b == 63 then b ∷ bs else from_path bs

-- with a `/` in front, where none stands there
abbrev pub with_slash : List ℕ → List ℕ
with_slash [] = 47 ∷ []
with_slash (b ∷ bs) = if b == 47 then b ∷ bs else 47 ∷ b ∷ bs

-- what follows an authority of at least one byte, which is itself ignored
abbrev pub behind_scheme : List ℕ → Option (List ℕ)
behind_scheme [] = None
behind_scheme (b ∷ bs) = if b == 47 || b == 63 then None else Some (with_slash (from_path (b ∷ bs)))

-- in absolute-form
abbrev pub path_behind_scheme : List ℕ → Option (List ℕ)
path_behind_scheme target = if nat_le 7 (length target) && eq_ignore_case (take 7 target) (codes "http://") then behind_scheme (drop 7 target) else None

-- the path with its query: of a target that begins with `/`, or of one in absolute-form; of no other
abbrev pub path_of : List ℕ → Option (List ℕ)
path_of [] = None
path_of (b ∷ bs) = if b == 47 then Some (b ∷ bs) else path_behind_scheme (b ∷ bs)
