-- What a request asks for, by whether its path is text and what is found of it.
use Rattle.std.proofs.Common.{◌≡◌, ◌≢◌, ℕ, Bool, true, false, Bor, List, Option, Result, Err, codes, cond, refl}
use Rattle.std.specs.Option.{ok_or}
use Rattle.std.specs.Str.{IsUtf8, bytes_eq, is_utf8}
use Rattle.std.proofs.lemmas.Slice.Eq.{bytes_eq-Decides}
use Rattle.std.proofs.lemmas.Str.{IsUtf8-from_is_utf8, is_utf8-from_IsUtf8}
use Rattle.disco_values.specs.declared.fault.Fault.{Fault}
use Rattle.disco_values.specs.declared.fault.Fault.TheVariants.{BadMethod, BadRequest, NotFound}
use Rattle.disco_instance.specs.Instance.{if_ok}
use Rattle.disco_message.specs.RequestView.{RequestView}
use Rattle.disco_calls.specs.Paths.{path_place}
use Rattle.disco_calls.specs.declared.place.Place.{Place}
use Rattle.disco_calls.specs.declared.place.Place.TheVariants.{Apps, Delta, App, Instance, Status, Metadata, Id, Vip, Svip}
use Rattle.disco_calls.specs.Methods.{allow_of}
use Rattle.disco_calls.specs.Places.{place_view}
use Rattle.disco_calls.specs.Calls.{CallView, call, call_by, called}
use Rattle.disco_calls.specs.Query.{path_in, query_in}

if_not : (b : Bool) (one other : Result CallView Fault) → (b ≡ true → ⊥) → cond b one other ≡ other
if_not true one other refute = absurd (refute refl)
if_not false one other refute = refl

-- a path that is no text
pub no_text : (a : RequestView) (path : List ℕ) → path ≡ path_in a.target → (IsUtf8 path → ⊥) → call a ≡ Err BadRequest
no_text a path e refute = if_not (is_utf8 (path_in a.target)) _ (Err BadRequest) (λ yes. refute (rw e (IsUtf8-from_is_utf8 _ yes)))

abbrev called_in : Option (Place (List ℕ)) → RequestView → List ℕ → Result CallView Fault
called_in place a q = if_ok (ok_or place NotFound) (λ p. called p a q)

-- a path that is text, and what is found of it
pub text : (a : RequestView) (path q : List ℕ) (found : Option (Place (List ℕ))) → path ≡ path_in a.target → q ≡ query_in a.target → IsUtf8 path → found ≡ path_place path → call a ≡ called_in found a q
text a path q found e f utf8 g =
    let yes : is_utf8 (path_in a.target) ≡ true = is_utf8-from_IsUtf8 _ (rw e at utf8) in
    rw (yes, f, g, e) refl

differs : (xs ys : List ℕ) → xs ≢ ys → bytes_eq xs ys ≡ false
differs xs ys h = by (bytes_eq xs ys) refl
  where
    by : (b : Bool) → bytes_eq xs ys ≡ b → bytes_eq xs ys ≡ false
    by true e = absurd (h ((bytes_eq-Decides xs ys).0 e))
    by false e = e

-- a method that no path has
pub unknown : (place : Place (List ℕ)) (a : RequestView) (q : List ℕ) → a.method ≢ codes "GET" → a.method ≢ codes "POST" → a.method ≢ codes "PUT" → a.method ≢ codes "DELETE" → call_by place a q ≡ Err BadMethod
unknown place a q get post put delete = rw (differs a.method (codes "GET") get, differs a.method (codes "POST") post, differs a.method (codes "PUT") put, differs a.method (codes "DELETE") delete) refl

-- a place has the methods of its view
pub same_methods : (place : Place (Bor (List ℕ))) → allow_of (place_view place) ≡ allow_of place
same_methods Apps = refl
same_methods Delta = refl
same_methods (App app) = refl
same_methods (Instance app id) = refl
same_methods (Status app id) = refl
same_methods (Metadata app id) = refl
same_methods (Id id) = refl
same_methods (Vip vip) = refl
same_methods (Svip svip) = refl
