-- What reads do to known bytes, one after another.
use Rattle.std.proofs.Common.{ℕ, List, ◌++◌, Option, Some, None, ap, refl}
use Rattle.std.specs.Io.KnownBytes.{Keeps, Consumes, prepend_known}

pub ahead-same : (front : List ℕ) (a b : Option (List ℕ)) → Keeps a b → Keeps (prepend_known front a) (prepend_known front b)
ahead-same front None b h = tt
ahead-same front (Some x) None h = elim h [ ]
ahead-same front (Some x) (Some y) h = ap (λ ys. front ++ ys) h

-- all of the front is taken
pub ahead-all : (front : List ℕ) (a : Option (List ℕ)) → Consumes (prepend_known front a) a front
ahead-all front None = tt
ahead-all front (Some x) = refl
