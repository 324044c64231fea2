-- What a path names, with the bytes of its names.
use Rattle.std.specs.Prelude.{ℕ, List}
use Rattle.std.specs.Borrow.{Bor}
use Rattle.disco_calls.specs.declared.place.Place.{Place}
use Rattle.disco_calls.specs.declared.place.Place.TheVariants as place

-- the place with what its references point to
abbrev pub place_view : Place (Bor (List ℕ)) → Place (List ℕ)
place_view place.Apps = place.Apps
place_view place.Delta = place.Delta
place_view (place.App app) = place.App app.now
place_view (place.Instance app id) = place.Instance app.now id.now
place_view (place.Status app id) = place.Status app.now id.now
place_view (place.Metadata app id) = place.Metadata app.now id.now
place_view (place.Id id) = place.Id id.now
place_view (place.Vip vip) = place.Vip vip.now
place_view (place.Svip svip) = place.Svip svip.now
