-- The small examples, by computation.
use Rattle.std.proofs.Common.{[], ◌∷◌, map, refl, ◌∙◌, ap, codes, cond, Option, Some, None, option_and_then}
use Rattle.disco_instance.specs.Row.{Row}
use Rattle.disco_values.specs.declared.status.Status.TheVariants.{Down}
use Rattle.disco_history.specs.Change.{prefix}
use Rattle.disco_history.specs.Mentions.{mention_of}
use Rattle.disco_history.specs.Query.{Selector, asks_for, of_app, of_vip}
use Rattle.disco_history.specs.Registry.{registry_of}
use Rattle.disco_history.specs.Worked.{Worked, a1, b1, story, instance}
use Rattle.disco_history.proofs.Sets.{get-delta, get-overlay, get-reg, get-restrict, get-said}

abbrev asked : Selector → Option Row → Option Row
asked a o = option_and_then (λ r. cond (asks_for a r) (Some r) None) o

pub worked : Worked
worked = record {
  hash_code = refl;
  count_of_two_digits = refl;
  empty_hash_code = refl;
  vips_of = refl;
  registry = get-reg story a1;
  registry_lacks = get-reg story b1;
  registry_before = get-reg (prefix story 3) b1;
  mention = get-said story a1;
  delta_last = get-delta story 0 a1;
  delta_gone = get-delta story 2 b1;
  delta_none = get-delta story 3 a1;
  overlay_puts = get-overlay (registry_of (prefix story 1)) (map mention_of story) a1;
  overlay_takes = get-overlay (registry_of (prefix story 2)) (map mention_of story) b1;
  overlay_skips = get-overlay (registry_of (prefix story 1)) ((instance (codes "A") (codes "1") Down, None) ∷ []) a1 ∙ get-reg (prefix story 1) a1;
  vip_has = get-restrict (registry_of (prefix story 1)) (of_vip (codes "b")) a1 ∙ ap (asked (of_vip (codes "b"))) (get-reg (prefix story 1) a1);
  vip_lacks = get-restrict (registry_of (prefix story 1)) (of_vip (codes "a,,b")) a1 ∙ ap (asked (of_vip (codes "a,,b"))) (get-reg (prefix story 1) a1);
  app_lacks = get-restrict (registry_of (prefix story 1)) (of_app (codes "B")) a1 ∙ ap (asked (of_app (codes "B"))) (get-reg (prefix story 1) a1);
  compact = refl;
  full = refl;
}
