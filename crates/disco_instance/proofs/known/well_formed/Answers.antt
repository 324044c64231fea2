use Rattle.std.proofs.Common.{sym, ap, ◌∙◌}
use Rattle.disco_values.specs.Entries.{is_by_name}
use Rattle.disco_instance.specs.declared.details.Details.{Details}
use Rattle.disco_instance.proofs.known.well_formed.Goals as goal

pub returns : goal.returns
returns c =
    let r = c.args.rec.now in
    record {
      has_app = r.has_app;
      has_id = r.has_id;
      app_in_upper_case = r.app_in_upper_case;
      country = r.country_in_range;
      last_dirty = c.is_moment.ensures;
      last_updated = c.is_moment-2.ensures;
      lasts = r.lasts;
      duration = r.duration_in_range;
      renewal_interval = r.interval_in_range;
      eviction = c.is_moment-3.ensures;
      last_renewal = c.is_moment-4.ensures;
      registration = c.is_moment-5.ensures;
      service_up = c.is_moment-6.ensures;
      port = c.is_port.ensures;
      secure_port = c.is_port-2.ensures;
      metadata = ap (λ (d : Details). is_by_name d.metadata) (sym c.deref.ensures) ∙ c.ordered.ensures;
    }
