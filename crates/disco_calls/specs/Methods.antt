-- The methods that a path has (Eureka's REST operations).
use Rattle.std.specs.Prelude.{ℕ, Bool, List, [], ◌∷◌, codes}
use Rattle.std.specs.List.{list_any}
use Rattle.std.specs.Str.{bytes_eq}
use Rattle.disco_message.specs.declared.status_line.Allow.{Allow}
use Rattle.disco_message.specs.declared.status_line.Allow.TheVariants as allow
use Rattle.disco_calls.specs.declared.place.Place.{Place}
use Rattle.disco_calls.specs.declared.place.Place.TheVariants as place

-- the methods of the path of a place
abbrev pub allow_of : {T : Type 0} → Place T → Allow
allow_of (place.App app) = allow.GetPost
allow_of (place.Instance app id) = allow.GetPutDelete
allow_of (place.Status app id) = allow.PutDelete
allow_of (place.Metadata app id) = allow.Put
allow_of _ = allow.Get

-- the names of these methods
abbrev pub names : Allow → List (List ℕ)
names allow.Get = codes "GET" ∷ []
names allow.GetPost = codes "GET" ∷ codes "POST" ∷ []
names allow.GetPutDelete = codes "GET" ∷ codes "PUT" ∷ codes "DELETE" ∷ []
names allow.PutDelete = codes "PUT" ∷ codes "DELETE" ∷ []
names allow.Put = codes "PUT" ∷ []

-- whether a method is among them, compared in its case (RFC 9110, section 9.1)
abbrev pub lists_method : Allow → List ℕ → Bool
lists_method allow method = list_any (bytes_eq method) (names allow)
