-- The table of paths computed on small examples.
use Rattle.std.specs.Prelude.{◌≡◌, Some, None, codes}
use Rattle.disco_calls.specs.Paths.{path_place}
use Rattle.disco_calls.specs.declared.place.Place.TheVariants as place

pub record WorkedPaths : Type 0 where
  pub apps : path_place (codes "/eureka/v2/apps") ≡ Some place.Apps
  pub apps_with_a_slash : path_place (codes "/eureka/v2/apps/") ≡ Some place.Apps
  pub delta : path_place (codes "/eureka/v2/apps/delta") ≡ Some place.Delta
  pub app_of_that_name : path_place (codes "/eureka/v2/apps/DELTA") ≡ Some (place.App (codes "DELTA"))
  pub encoded_delta : path_place (codes "/eureka/v2/apps/%64elta") ≡ Some (place.App (codes "%64elta"))
  pub instance_behind_delta : path_place (codes "/eureka/v2/apps/delta/x") ≡ Some (place.Instance (codes "delta") (codes "x"))
  pub encoded_slash : path_place (codes "/eureka/v2/apps/A/h%2F1") ≡ Some (place.Instance (codes "A") (codes "h%2F1"))
  pub status : path_place (codes "/eureka/v2/apps/A/x/status") ≡ Some (place.Status (codes "A") (codes "x"))
  pub metadata : path_place (codes "/eureka/v2/apps/A/x/metadata") ≡ Some (place.Metadata (codes "A") (codes "x"))
  pub no_third_word : path_place (codes "/eureka/v2/apps/A/x/y") ≡ None
  pub empty_part : path_place (codes "/eureka/v2/apps//x") ≡ None
  pub slash_at_the_end : path_place (codes "/eureka/v2/apps/A/") ≡ None
  pub id : path_place (codes "/eureka/v2/instances/x") ≡ Some (place.Id (codes "x"))
  pub vip : path_place (codes "/eureka/v2/vips/a,b") ≡ Some (place.Vip (codes "a,b"))
  pub svip : path_place (codes "/eureka/v2/svips/a") ≡ Some (place.Svip (codes "a"))
  pub without_the_base : path_place (codes "/apps") ≡ None
